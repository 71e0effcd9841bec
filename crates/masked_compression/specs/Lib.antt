pub mod Compression
pub mod EntryCounts
pub mod Lent
pub mod CompressionReads
pub mod CompressionLaws
pub mod CompressionSilence
