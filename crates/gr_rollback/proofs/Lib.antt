pub mod Basics
mod PoolLemmas
pub mod KeptLemmas
mod OwnerLemmas
mod PoolBackLemmas
mod CourseLemmas
mod StepLemmas
mod UndoLemmas
mod StartLemmas
mod TurnLemmas
mod NextTurn
mod RedoLemmas
mod OrderByNamesLemmas
mod OrderLemmas
mod ReorderLemmas
mod RoomLemmas
mod MarkLemmas
mod MachineLemmas
mod UnwindLemmas
mod BackLemmas
mod DependenceLemmas
mod AskLemmas
mod LeasingLemmas
pub mod LendingLemmas
mod JoinLemmas
mod ChoiceLemmas
pub use Rattle.gr_goros.proofs.goroutine.Goroutine.TheSendSync as GoroutineSendSync
pub use Rattle.gr_depend.proofs.log.Log.TheSendSync as LogSendSync
pub use Rattle.gr_refine.proofs.NameLemmas
pub use Rattle.gr_step.proofs.objects.Objects.TheSendSync as ObjectsSendSync
