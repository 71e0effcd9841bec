pub mod Input
pub mod Lent
pub mod InputLaws
pub mod Sized
pub mod Ranges
pub mod Told
