pub mod Queues
pub mod Channels
pub mod Changes
pub mod Objects
