pub mod Lent
pub mod Encryption
