pub mod Told
pub mod Trace
