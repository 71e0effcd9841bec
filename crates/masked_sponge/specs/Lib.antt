pub mod MaskedSponge
pub mod EntryCounts
pub mod Lent
pub mod MaskedBytes
pub mod MaskedSteps
pub mod GivenOut
pub mod MaskedBlocksSilence
