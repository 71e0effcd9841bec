pub mod Sampled
pub mod TwoRuns
