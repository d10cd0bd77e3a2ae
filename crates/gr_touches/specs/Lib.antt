-- The touches of each object, and the marks that are set by them.
pub mod Kept
pub mod ObjectRefs
pub mod Hashes
pub mod Touches
pub mod Told
pub mod Marks
pub mod Lists
pub mod Room
pub mod Walks
