pub mod WorksheetSilence
pub mod DrawnChoices
pub mod Demand3
pub mod TraceClaim
pub mod Demand3Sizes
