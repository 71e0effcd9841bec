pub mod Transposition
pub mod Lent
