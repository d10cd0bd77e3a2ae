-- What holds of the rules and of the states that a program reaches.
pub mod Reached
pub mod Soundness
pub mod Consoles
pub mod Dependence
pub mod Claim
pub mod TakingBack
pub mod Touched
pub mod Folding
pub mod OneBuffer
pub mod MemoryModel
pub mod Completed
pub mod Refusals
