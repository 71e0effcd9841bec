pub mod StripFile
pub mod Bounded
pub mod Split
pub mod SplitLaws
pub mod State
