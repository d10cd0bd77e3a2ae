pub mod Signatures
pub mod Finding
pub mod Tables
pub mod FunctionTables
pub mod Calling
pub mod Checking
pub mod FunctionNumbers
pub mod Codes
