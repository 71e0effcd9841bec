pub mod Sampled
pub mod Encoded
pub mod Parts
pub mod Products
pub mod Encrypted
pub mod Keys
