-- A log of records, and what depends on what in it.
pub mod Logs
pub mod Room
pub mod Aside
pub mod Marked
pub mod Named
pub mod Histories
pub mod Given
pub mod Turned
pub mod Ordering
pub use Rattle.gr_touches.specs.Marks
pub use Rattle.gr_touches.specs.declared.touch.Touch
pub use Rattle.gr_touches.specs.Touches
pub use Rattle.gr_touches.specs.Room as TouchesRoom
pub use Rattle.gr_touches.specs.declared.marks.Wanted
