pub mod MaskedLanes
pub mod MaskedBlocks
pub mod MaskedOutput
