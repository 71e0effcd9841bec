pub mod Bytes
pub mod BytesLaws
pub mod Compress
pub mod CompressLaws
pub mod Lent
