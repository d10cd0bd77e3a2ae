-- Small programs, and what their steps come to.
pub mod Words
pub mod Runs
pub mod HandOver
pub mod Buffers
pub mod Selects
pub mod Closings
pub mod Calls
pub mod Limits
pub mod Names
pub mod Lookups
pub mod Neighbours
pub mod HappensBefore
