pub mod KPke
pub mod Expanded
pub mod Lent
pub mod KeyMaking
pub mod MatrixLoop
