-- Steps that are taken, taken back or put in another order, as trips between runs.
use Rattle.std.proofs.Common.{◌≡◌, ℕ, List, ◌++◌, reverse, subst}
use Rattle.gr_causal.specs.Dependence.{dependents, AreTheOthers}
use Rattle.gr_causal.specs.Machine.{IsLog}
use Rattle.gr_causal.specs.Orders.{IsOrder, Swaps}
use Rattle.gr_causal.specs.Trips.{Move, taking, taking_back, IsLogFrom, TripFrom, Changes}
use Rattle.gr_causal.proofs.BackwardLemmas.{returning_is}
use Rattle.gr_causal.proofs.ConsistencyLemmas.{takes_all}
use Rattle.gr_causal.proofs.MachineTripLemmas.{logs_of, changes}
use Rattle.gr_causal.proofs.MoveLemmas.{AreLogs, turned, trip_from}
use Rattle.gr_causal.proofs.OrderLemmas.{reached}
use Rattle.gr_causal.proofs.PartLemmas.{part_to_end, last_dependents}
use Rattle.gr_causal.proofs.PathLemmas.{log_join}
use Rattle.gr_causal.proofs.TripLemmas.{returning, way_back}
use Rattle.gr_program.specs.Programs.{Program}
use Rattle.gr_rules.specs.States.{State, start}
use Rattle.gr_rules.specs.Steps.{machine}
use Rattle.gr_laws.specs.Reached.{Logged, IsRun}
use Rattle.gr_laws.specs.Dependence.{clash}
use Rattle.gr_laws.proofs.CellLemmas.{machine_laws}
use Rattle.gr_laws.proofs.RunLemmas.{distinct_log}

module _ (p : Program) where
  abbrev pub Runs : List (Logged p) → Type 0
  Runs log = IsLogFrom (machine p) (start p) log

  abbrev pub Went : List (Logged p) → List (Move (Logged p)) → List (Logged p) → Type 0
  Went log ms next = TripFrom (machine p) (start p) log ms next

  pub runs_are_logs : AreLogs (clash p) Runs
  runs_are_logs = logs_of (machine p) (machine_laws p) (start p)

  -- a trip between runs changes the state of the first into that of the second
  pub run_changes : (log next : List (Logged p)) (ms : List (Move (Logged p))) (t u : State) → IsRun p log t → IsRun p next u → Went log ms next
      → Changes (machine p) t ms u
  run_changes log next ms t u l k trip = changes (machine p) (machine_laws p) (start p) t log ms next u l trip k

  -- taking steps is a trip
  pub steps_forth : (log steps : List (Logged p)) (t u : State) → IsRun p log t → IsLog (machine p) t steps u → Went log (taking steps) (log ++ steps)
  steps_forth log steps t u l k = takes_all (clash p) Runs runs_are_logs log steps (u, log_join (machine p) (start p) t u log steps l k)

  -- and so is taking back what can stand at the end, from the last
  pub steps_back : (log gone left : List (Logged p)) (t : State) → IsRun p log t → Swaps (clash p) log (left ++ gone)
      → Went log (taking_back (reverse gone)) left
  steps_back log gone left t l w =
      let q = runs_are_logs.kept log (left ++ gone) w (t, l) in
      let h = way_back (clash p) Runs runs_are_logs left (taking gone) (left ++ gone) (runs_are_logs.front left gone q)
      (takes_all (clash p) Runs runs_are_logs left gone q) in
      subst (λ ms. Went log ms left) (returning_is gone)
      (trip_from (clash p) Runs runs_are_logs (left ++ gone) log (returning (taking gone)) left (turned (clash p) Runs runs_are_logs log (left ++ gone) w) h)

  -- the last of the dependents can stand at the end
  pub last_to_end : (log front gone left : List (Logged p)) (i : ℕ) (t : State) → IsRun p log t → dependents (clash p) log i ≡ front ++ gone
      → AreTheOthers log gone left → Swaps (clash p) log (left ++ gone)
  last_to_end log front gone left i t l e o =
      let d = distinct_log p log t l in
      reached (clash p) log (left ++ gone) d (part_to_end (clash p) log gone left d (last_dependents (clash p) log front gone i d e) o)

  -- an order that respects dependence is one configuration
  pub order_is_one : (log new : List (Logged p)) (t : State) → IsRun p log t → IsOrder (clash p) log new → Swaps (clash p) log new
  order_is_one log new t l o = reached (clash p) log new (distinct_log p log t l) o
