-- What is told of a step, by the rules and by its record.
pub mod Facts
pub mod Views
pub mod Asked
pub mod Sources
pub mod Recorded
pub mod Moved
pub mod MovedAsked
pub mod Wanted
