mod LocalLeaves
pub mod WaitLemmas
-- On one channel no two goroutines wait for each other.
mod SideAttempts
mod SideEvents
pub mod SideLemmas
-- A wait can be put off until after a step of another.
mod OffAttempts
mod NameLemmas
mod OffRules
mod AgainLemmas
pub mod PutOffLemmas
