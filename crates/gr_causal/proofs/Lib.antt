pub mod ListLemmas
pub mod StepLemmas
pub mod PathLemmas
pub mod OrderLemmas
pub mod AsideLemmas
pub mod DependenceLemmas
pub mod SwapLemmas
pub mod RollbackLemmas
pub mod RuleLemmas
pub mod NameLemmas
pub mod OrderByNamesLemmas
pub mod MiddleLemmas
pub mod MailboxLemmas
pub mod PartLemmas
pub mod UniqueLemmas
pub mod PlaceLemmas
pub mod TakeLemmas
pub mod MoveLemmas
pub mod TripLemmas
pub mod ConsistencyLemmas
mod ParabolicLemmas
pub mod MachineTripLemmas
pub mod ClosureLemmas
pub mod BackwardLemmas
mod FrontLemmas
mod EventLemmas
