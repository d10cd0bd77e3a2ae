-- JSON of what a session tells.
pub mod Parts
pub mod Replies
pub mod Facts
pub mod Stacks
