pub mod Lines
pub mod Moves
pub mod Telling
pub mod Answering
pub mod Calling
pub mod Lending
pub mod Seats
pub use Rattle.gr_session.proofs.Crossing
