pub mod Outcome
pub mod Rho
