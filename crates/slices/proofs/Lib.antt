pub mod Concatenated
