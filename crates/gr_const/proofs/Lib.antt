pub mod BitByBit
mod Bools
mod Division
mod Shifts
mod Words
