pub mod Polynomial
pub mod Sum
pub mod Lent
