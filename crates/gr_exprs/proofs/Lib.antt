pub mod Arguments
pub mod Basics
pub mod Finds
pub mod FindsAll
pub mod FunctionNumbers
pub mod Scopes
pub mod Trees
