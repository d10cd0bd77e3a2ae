pub mod Pasts
pub mod Readiness
pub mod Prior
pub mod Courses
pub mod Machines
pub mod Stepping
pub mod Steps
pub mod Backs
pub mod Asking
pub mod Retracting
pub mod Redoing
pub mod Reordering
pub mod Walks
pub mod Leasing
pub mod Joined
pub use Rattle.gr_step.specs.Choices
pub use Rattle.gr_refine.specs.Contents
pub use Rattle.gr_depend.specs.Given
pub use Rattle.gr_step.specs.Kept
pub use Rattle.gr_step.specs.declared.leasing.LentCopy
pub use Rattle.gr_step.specs.ListingContracts
pub use Rattle.gr_step.specs.Listings
pub use Rattle.gr_step.specs.declared.leasing.LocalRun
pub use Rattle.gr_step.specs.contracts.leasing.Lent as LentContracts
pub use Rattle.gr_step.specs.contracts.leasing.LocalRun as LocalRunContracts
pub use Rattle.gr_depend.specs.declared.log.Log
pub use Rattle.gr_depend.specs.Logs
pub use Rattle.gr_step.specs.Record
pub use Rattle.gr_step.specs.Running
pub use Rattle.gr_step.specs.Leasing as StepLeasing
pub use Rattle.gr_step.specs.declared.refusal.StepRefused
pub use Rattle.gr_step.specs.declared.store.Store
pub use Rattle.gr_step.specs.contracts.store.Store as StoreContracts
pub use Rattle.gr_step.specs.Stores
