-- Definitions of gr_const's contracts.
pub mod Bits
pub mod Constants
pub mod Examples
pub mod Laws
pub mod Outcomes
pub mod Parts
