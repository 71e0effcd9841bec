pub mod Sample
pub mod SampleAnswer
pub mod SampleLaws
pub mod SampleLoop
pub mod SampleLoopLaws
pub mod Collect
pub mod Lent
pub mod Results
