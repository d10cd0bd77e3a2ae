pub mod CommandLine
pub mod Terminal
pub mod Codes
pub mod Explanations
