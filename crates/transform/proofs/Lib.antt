pub mod Powers
pub mod Butterflies
pub mod Layers
pub mod Products
