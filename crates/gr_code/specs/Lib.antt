-- Code: instructions that mean points of the rules, what each of them does, and when they are the code of a program.
pub mod Filling
pub mod Instructions
pub mod Code
pub mod Bounds
pub mod Plugging
pub mod Passing
pub mod Vectors
pub mod CodeFrames
pub mod Goroutines
pub mod CodeViews
pub mod Programs
pub mod Examples
pub mod ProgramExamples
