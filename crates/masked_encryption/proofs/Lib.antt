pub mod Groups
pub mod Polynomials
pub mod Reencrypted
