-- The channels and the goroutines of a store by name, and how several changes of channels are taken back.
pub mod Back
pub mod NamedChannels
pub mod Places
pub mod AreChannels
pub mod NamedGoroutines
pub mod Slots
pub mod Counting
pub use Rattle.gr_goros.specs.declared.undo.GoUndo
pub use Rattle.gr_goros.specs.declared.undo.Spot
pub use Rattle.gr_goros.specs.Undoing
pub use Rattle.gr_goros.specs.Kinds
pub use Rattle.gr_goros.specs.Before
