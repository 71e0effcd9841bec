pub mod Lent
pub mod ReencryptionCheck
