pub mod AdderLaws
pub mod AdderStepsSilence
pub mod AdderSilence
