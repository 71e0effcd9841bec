pub mod RoundConstants
pub mod RoundConstantLaws
