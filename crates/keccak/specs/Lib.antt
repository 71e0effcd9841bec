pub mod KeccakP
pub mod Rows
pub mod LinearPass
pub mod Aim
