pub mod Refusals
pub mod Same
pub mod SameLaws
pub mod RefusalLaws
pub mod Reduced
pub mod ReducedLaws
