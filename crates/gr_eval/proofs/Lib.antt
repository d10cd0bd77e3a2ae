pub mod Wrapping
pub mod Words
pub mod Shifts
pub mod Turns
pub mod Lines
mod FaultLemmas
