pub mod Matters
pub mod Schedules
pub mod Aims
pub mod Names
pub mod Choices
pub mod Keys
