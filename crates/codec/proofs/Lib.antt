pub mod Repack
