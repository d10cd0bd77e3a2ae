pub mod Sharing
pub mod Asking
pub mod Seats
pub use Rattle.gr_share.proofs.desk.Call.TheSendSync as CallSendSync
pub use Rattle.gr_share.proofs.Crossing
pub use Rattle.gr_share.proofs.desk.Desk.TheSendSync as DeskSendSync
pub use Rattle.gr_share.proofs.tie.Tie.TheSendSync as TieSendSync
pub use Rattle.gr_share.proofs.desk.Worker.TheSendSync as WorkerSendSync
mod Lent
