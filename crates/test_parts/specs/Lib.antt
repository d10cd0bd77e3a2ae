pub mod Stairs
