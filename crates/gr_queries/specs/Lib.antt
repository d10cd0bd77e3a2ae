pub mod Said
pub mod Frames
pub mod Consoles
pub mod Stacks
