pub mod ByRows
pub mod Rotated
