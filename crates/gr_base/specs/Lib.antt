pub mod Counts
pub mod Names
pub mod Values
pub mod Kinds
