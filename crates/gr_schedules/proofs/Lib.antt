pub mod ScheduleLemmas
-- Local steps may be taken alone.
mod LocalSteps
mod GoTouches
pub mod AloneLemmas
-- States in which the same matters go on alike.
mod LikeAttempts
mod LikeRules
mod LikeStates
pub mod SystemLaws
pub mod AimLemmas
-- Keys, events and names.
mod BareLemmas
pub mod KeyLemmas
pub mod ChoiceLemmas
pub mod NameLemmas
