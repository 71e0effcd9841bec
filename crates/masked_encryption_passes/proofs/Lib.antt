pub mod NoiseParts
pub mod PassLaws
pub mod Written
