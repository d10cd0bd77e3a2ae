-- What a step leaves in its record, when records are those of steps, and records with the steps of a log.
pub mod Listings
pub mod Fews
pub mod Places
pub mod Parts
pub mod Effects
pub mod Records
pub mod Conflicts
pub mod Within
pub mod Running
pub mod Taking
pub mod Kept
pub mod Pairs
pub mod Back
pub use Rattle.gr_tables.specs.Back as TablesBack
