pub mod QueueLemmas
pub mod Slots
pub mod Undoing
pub mod Written
pub mod Needs
