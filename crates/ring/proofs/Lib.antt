pub mod Shoup
