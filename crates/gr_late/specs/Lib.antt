pub mod Waiting
pub mod Sides
