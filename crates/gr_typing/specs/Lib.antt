-- The judgement: which program a file has.
pub mod Types
pub mod Names
pub mod Scopes
pub mod Values
pub mod Contexts
pub mod Communications
pub mod Assignments
pub mod SimpleStatements
pub mod Acts
pub mod Statements
pub mod Labels
pub mod Endings
pub mod FileChecks
