pub mod Sequence
pub mod CarriedOut
pub mod Claim
