mod RunningLemmas
mod ObjectLemmas
mod PrintLemmas
mod SendsInLemmas
mod OneWaitLemmas
mod NeedNoFrameLemmas
mod WithinLemmas
mod OwnTakesLemmas
mod PlaceLemmas
mod ReachesLemmas
mod FaultLemmas
mod AloneStepLemmas
mod ExitLemmas
mod LocalStepLemmas
mod LocalLemmas
mod ChannelsButLemmas
mod WaiterLemmas
mod PassLemmas
mod TakesLemmas
mod TouchLemmas
mod PartnerLemmas
mod ArrivalLemmas
mod CountLemmas
mod ChannelLemmas
mod SendLemmas
mod ReceiveLemmas
mod ArrivesAtLemmas
mod PrepareLemmas
mod ExchangeLemmas
mod HandLemmas
mod QueueLemmas
mod EachOnceLemmas
mod OwnChangeLemmas
mod WaitTouchLemmas
mod WaitForLemmas
mod ProceedLemmas
mod MayLemmas
mod NoChoiceLemmas
mod GuardLemmas
mod ChoiceLemmas
mod SelectLemmas
mod EventLemmas
mod SendOrWaitLemmas
mod StoreLemmas
mod BeyondLemmas
mod UnstepLemmas
mod WaitingOnLemmas
mod BufferLemmas
mod ClauseLemmas
mod CloseLemmas
mod MakeLemmas
mod MeetLemmas
mod OfferLemmas
mod PossibleLemmas
mod PickLemmas
mod UsualLemmas
mod ResultLemmas
mod SelectListLemmas
mod SendLookLemmas
mod ShutLemmas
mod StartLemmas
mod StartNextLemmas
mod TakeItemLemmas
mod WakeLemmas
pub mod LeaseLemmas
mod OwnStepLemmas
mod StayLemmas
mod StepIntsLemmas
pub use Rattle.gr_record.proofs.ChainLemmas
pub use Rattle.type_safety.proofs.CheckedRuns
pub use Rattle.type_safety.proofs.CodeOfPrograms
pub use Rattle.gr_record.proofs.FreeLemmas
pub use Rattle.gr_record.proofs.KeptLemmas
pub use Rattle.gr_record.proofs.OrderLemmas
pub use Rattle.gr_record.proofs.RecordLemmas
pub use Rattle.gr_record.proofs.RollbackLemmas
