pub mod MlKem
pub mod Kyber
pub mod Editions
pub mod EditionLaws
pub mod Calls
pub mod Sized
pub mod CallLaws
pub mod SeedsInput
