pub mod Rows
pub mod SameLists
pub mod Starts
