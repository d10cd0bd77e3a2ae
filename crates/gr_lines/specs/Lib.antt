pub mod Bytes
pub mod Devices
