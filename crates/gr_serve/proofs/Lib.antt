pub mod Cuts
pub mod Answers
pub mod SoFar
pub mod Debugging
pub mod Legal
pub mod Asking
pub mod Growing
