pub mod Vector
pub mod VectorLaws
pub mod DotLaws
pub mod TransformedVector
pub mod Lent
