-- That a session may be lent to threads.
pub use Rattle.gr_share.proofs.Crossing.{session_send}
