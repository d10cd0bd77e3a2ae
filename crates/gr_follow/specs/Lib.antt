-- A machine that stands where the first steps of another led.
pub mod Following
