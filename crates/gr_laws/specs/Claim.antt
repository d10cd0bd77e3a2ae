-- What is claimed of a step that is taken back from a run: which steps go with it, which are left, and where these lead.
-- Lanese, Nishida, Palacios and Vidal, A theory of reversibility for Erlang (2018): an action is undone with its consequences.
use Rattle.std.specs.Prelude.{List, ◌↔◌}
use Rattle.gr_causal.specs.Sequences.{In, Before}
use Rattle.gr_causal.specs.Dependence.{Depends, AreTheOthers}
use Rattle.gr_causal.specs.Closure.{Reaches}
use Rattle.gr_causal.specs.Orders.{IsOrder}
use Rattle.gr_causal.specs.Trips.{TripFrom, taking_back}
use Rattle.gr_program.specs.Programs.{Program}
use Rattle.gr_rules.specs.States.{State, start}
use Rattle.gr_rules.specs.Steps.{machine}
use Rattle.gr_laws.specs.Reached.{Logged, IsRun}
use Rattle.gr_laws.specs.Dependence.{clash}

-- the step is x, or depends on it: directly, or over other steps
abbrev pub DependsOn : (p : Program) → List (Logged p) → Logged p → Logged p → Type 0
DependsOn p log r x = Reaches (λ a b. Depends (clash p) log b a) x r

-- All steps of the log but these are left, in their order. Their run leads to the state, and so does every order of them that
-- respects dependence.
pub record LeavesOthers (p : Program) (log gone left : List (Logged p)) (t : State) : Type 0 where
  pub others : AreTheOthers log gone left
  pub run : IsRun p left t
  pub orders : (order : List (Logged p)) → IsOrder (clash p) left order → IsRun p order t

-- The step goes with exactly the steps that depend on it. They are told in the order of the log, and the others are left. In no
-- way back is the step gone and one of them left.
pub record GoesWithAll (p : Program) (log : List (Logged p)) (x : Logged p) (gone left : List (Logged p)) (t : State) : Type 0 where
  pub there : In x log
  pub each : (r : Logged p) → In r gone ↔ DependsOn p log r x
  pub in_order : (a b : Logged p) → Before gone a b → Before log a b
  pub leaves : LeavesOthers p log gone left t
  pub least : (back rest : List (Logged p)) → TripFrom (machine p) (start p) log (taking_back back) rest → ¬ In x rest
      → (r : Logged p) → In r gone → In r back

-- Only the last of the steps that depend on it go, and the step itself stays.
pub record GoesInPart (p : Program) (log : List (Logged p)) (x : Logged p) (gone left : List (Logged p)) (t : State) : Type 0 where
  pub stays : In x left
  pub each : (r : Logged p) → In r gone → DependsOn p log r x
  pub in_order : (a b : Logged p) → Before gone a b → Before log a b
  pub leaves : LeavesOthers p log gone left t
  pub last : (a b : Logged p) → In a gone → In b left → DependsOn p log b x → Before log b a
