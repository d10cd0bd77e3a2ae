-- How a run ends badly where a machine stands.
use Rattle.std.proofs.Common.{◌≡◌, inl, inr}
use Rattle.gr_base.specs.declared.kinds.Fault.{Fault}
use Rattle.gr_rules.specs.States.{Run, State, live, ended, faulted}
use Rattle.gr_schedules.specs.declared.Aim.TheVariants.{EndsBadlyOrLeaks}
use Rattle.gr_schedules.specs.Aims.{IsAim}
use Rattle.gr_survey.specs.declared.bad_end.BadEnd.TheVariants.{Stuck, Leak}
use Rattle.gr_survey.specs.Schedules.{EndsAs}

not_both : (f : Fault) (run : Run) → run ≡ live → run ≡ faulted f → ⊥
not_both f run a b = cc

not_ended_live : (run : Run) → run ≡ ended → run ≡ live → ⊥
not_ended_live run a b = cc

not_ended_faulted : (f : Fault) (run : Run) → run ≡ ended → run ≡ faulted f → ⊥
not_ended_faulted f run a b = cc

-- while the program runs, it ends badly where it is stuck
pub stuck_if_live : (s : State) → s.run ≡ live → IsAim EndsBadlyOrLeaks s → EndsAs s Stuck
stuck_if_live s e (inl (inl f)) = absurd (not_both f.0 s.run e f.1)
stuck_if_live s e (inl (inr stuck)) = stuck
stuck_if_live s e (inr leak) = absurd (not_ended_live s.run leak.over e)

-- where it has ended, it ends badly where it leaks
pub leak_if_ended : (s : State) → s.run ≡ ended → IsAim EndsBadlyOrLeaks s → EndsAs s Leak
leak_if_ended s e (inl (inl f)) = absurd (not_ended_faulted f.0 s.run e f.1)
leak_if_ended s e (inl (inr stuck)) = absurd (not_ended_live s.run e stuck.0)
leak_if_ended s e (inr leak) = leak
