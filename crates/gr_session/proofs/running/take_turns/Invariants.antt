use Rattle.std.proofs.Common.{◌≡◌, ◌≤◌, ◌-◌}
use Rattle.gr_program.specs.Programs.{Program}
use Rattle.gr_rollback.specs.Stores.{SameListing, contents_at}
use Rattle.gr_session.specs.Journal.{World}
use Rattle.gr_session.specs.Debuggees.{IsDebuggee, Stands, store_in}
use Rattle.gr_session.proofs.RunLemmas.{HasGone}
use Rattle.gr_session.proofs.running.take_turns.Given as goal

-- this many steps were taken, round robin
abbrev pub invariant-loop-taken : goal.invariant-loop-taken
invariant-loop-taken l = record {
  few : l.taken ≤ l.count;
  debuggee : IsDebuggee l.debuggee;
  gone : (p : Program) (w : World p) → Stands p w l.fn.debuggee → HasGone p w l.taken l.debuggee;
  listing : SameListing (store_in l.fn.debuggee) (store_in l.debuggee);
  still : l.taken ≡ 0 → contents_at (store_in l.debuggee) ≡ contents_at (store_in l.fn.debuggee);
}

abbrev pub decreases-loop-taken : goal.decreases-loop-taken
decreases-loop-taken l = l.count - l.taken
