pub mod WorksheetValue
pub mod SplitValue
