pub mod Transform
pub mod Lent
pub mod Linear
pub mod MultiplyLaws
pub mod Passes
