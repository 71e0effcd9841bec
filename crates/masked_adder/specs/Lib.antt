pub mod Adder
pub mod EntryCounts
pub mod PlaneSum
pub mod Lent
