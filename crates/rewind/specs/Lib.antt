pub mod DeskStreams
pub mod Beside
pub use Rattle.gr_share.specs.contracts.locked.Locked as LockedContracts
pub use Rattle.gr_share.specs.contracts.shared.Shared as SharedContracts
pub mod Searching
