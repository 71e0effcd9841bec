pub mod SumsZip
