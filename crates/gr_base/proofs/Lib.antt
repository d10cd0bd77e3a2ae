pub mod Digits
pub mod Readings
pub mod Marks
pub mod Orders
pub mod Room
