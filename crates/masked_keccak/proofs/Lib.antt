pub mod EnteredLanes
pub mod ReadRows
pub mod Iota
