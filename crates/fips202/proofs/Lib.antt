pub mod Absorbing
pub mod Output
pub mod Mixing
