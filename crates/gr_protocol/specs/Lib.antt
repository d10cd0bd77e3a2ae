-- The protocol of clients: lines in, JSON out.
pub mod Earlier
pub mod About
pub mod Answers
pub mod Clients
pub mod Streams
