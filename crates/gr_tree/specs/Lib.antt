pub mod Exprs
pub mod Statements
pub mod Files
