pub mod Laid
pub mod StoredRun
pub mod HashedInput
pub mod Strips
pub mod WorksheetUses
