pub mod StepTexts
pub mod Schedules
pub mod Scripts
pub mod Surveys
pub mod Blames
