pub mod MaskedHash
pub mod SharedInput
