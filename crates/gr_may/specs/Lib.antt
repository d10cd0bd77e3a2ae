pub mod Uses
pub mod Demands
pub mod Covers
pub mod MayStill
pub mod Dead
pub mod Example
