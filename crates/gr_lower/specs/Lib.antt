-- The code of a program: its instructions one after another, with the points that they mean.
pub mod PartCode
pub mod Sizes
pub mod Asked
pub mod StatementCode
pub mod Lines
pub mod StatementPoints
pub mod Lowered
pub mod CanLower
pub mod Headings
pub mod TurnHeadings
pub mod Examples
