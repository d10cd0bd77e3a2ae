pub mod Errors
pub mod Cuts
pub mod Growing
pub mod Views
pub mod Shown
pub mod Naming
