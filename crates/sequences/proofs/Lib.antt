pub mod SequenceLaws
pub mod JoinedKey
pub mod CountLaws
pub mod MovedFirsts
pub mod SequenceSilence
pub mod SequenceDecaps
