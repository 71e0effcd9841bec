pub mod Calls
pub mod AnswerLaws
pub mod Demand2
pub mod CallToCall
pub mod Demand2ByRank
