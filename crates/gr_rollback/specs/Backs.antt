-- Steps taken back, done again, and put in another order: what is left, and what is answered.
-- Lanese, Nishida, Palacios and Vidal, A theory of reversibility for Erlang (2018): an action is undone with its consequences.
use Rattle.std.specs.Prelude.{◌≡◌, ℕ, List, [], ◌∷◌, ◌++◌, length, map, slice_get, Vec, Result, Ok, Err, Some}
use Rattle.std.proofs.Common.{Global}
use Rattle.gr_base.specs.declared.events.Event.{Event}
use Rattle.gr_base.specs.declared.names.StepId.{StepId}
use Rattle.gr_causal.specs.Dependence.{dependents, kept, AreTheOthers}
use Rattle.gr_causal.specs.Machine.{IsLog}
use Rattle.gr_causal.specs.OrderByNames.Ordered.{accepted, other_steps, broken}
use Rattle.gr_program.specs.Programs.{Program}
use Rattle.gr_rules.specs.Steps.{machine}
use Rattle.gr_laws.specs.Dependence.{clash, StepName, ordered_by}
use Rattle.gr_laws.specs.Reached.{Logged, IsRun}
use Rattle.gr_rollback.specs.declared.machine.Machine.{Machine}
use Rattle.gr_rollback.specs.declared.refusal.BackRefused.{BackRefused}
use Rattle.gr_rollback.specs.declared.refusal.BackRefused.TheVariants as refusals
use Rattle.gr_rollback.specs.Pasts.{Past, Timeline, id_of, ids_of, events_in}
use Rattle.gr_rollback.specs.Machines.{Stands}
use Rattle.gr_rollback.specs.Stepping.{counted, MayCountOne}

-- the step at this place of the log has the name
pub record IsNamed (p : Program) (log : List (Logged p)) (id : StepId) (place : ℕ) : Type 0 where
  pub step : Logged p
  pub there : slice_get log place ≡ Some step
  pub named : id_of p step ≡ id

-- The last step is taken back: the past before it.
pub record LosesLast (p : Program) (w : Past p) (r : Logged p) (u : Past p) : Type 0 where
  pub log : w.log ≡ u.log ++ r ∷ []
  pub run : IsRun p u.log u.state
  pub led : IsLog (machine p) u.state (r ∷ []) w.state

-- The step at a place is taken back with its consequences, and no other: what is left is the run of the other steps.
pub record LosesAll (p : Program) (w : Past p) (place : ℕ) (u : Past p) : Type 0 where
  pub log : u.log ≡ kept (clash p) w.log place
  pub run : IsRun p u.log u.state

-- The last of its consequences are taken back, but not all: others have stayed.
pub record LosesSome (p : Program) (w : Past p) (place : ℕ) (gone : List (Logged p)) (u : Past p) : Type 0 where
  pub left : List (Logged p)
  pub some_left : ¬ (left ≡ [])
  pub last : dependents (clash p) w.log place ≡ left ++ gone
  pub others : AreTheOthers w.log gone u.log
  pub run : IsRun p u.log u.state

-- the refusal names no step that was taken back or done again before it
abbrev pub NamesNone : BackRefused → Type 0
NamesNone (refusals.NoMemory ids) = ids.items ≡ []
NamesNone why = Unit {0}

-- what may be done again when these steps were taken back: these, in the order in which they were taken; as before where there
-- were none
abbrev pub again_after : List Event → List Event → List Event
again_after [] before = before
again_after (e ∷ es) before = e ∷ es

-- what `undo` answers and leaves
pub record Undoes (p : Program) (w : Timeline p) (id : StepId) (m : Machine) : Type 0 where
  pub step : Logged p
  pub past : Past p
  pub loses : LosesLast p w.past step past
  pub named : id_of p step ≡ id
  pub stands : Stands p (record { past = past; again = step.event ∷ [] }) m

abbrev pub Undone : (p : Program) → Timeline p → Result StepId BackRefused → Machine → Type 0
Undone p w (Ok id) m = Undoes p w id m
Undone p w (Err refusals.NothingToUndo) m = (w.past.log ≡ []) × Stands p w m
Undone p w (Err (refusals.NoMemory ids)) m = (¬ (w.past.log ≡ [])) × (ids.items ≡ []) × Stands p w m
Undone p w (Err _) m = ⊥

-- what `back` answers and leaves, of the step of a name
pub record TakesBack (p : Program) (w : Timeline p) (id : StepId) (ids : List StepId) (m : Machine) : Type 0 where
  pub place : ℕ
  pub named : IsNamed p w.past.log id place
  pub past : Past p
  pub loses : LosesAll p w.past place past
  pub names : ids ≡ ids_of p (dependents (clash p) w.past.log place)
  pub stands : Stands p (record { past = past; again = events_in p (dependents (clash p) w.past.log place) }) m

pub record TakesSomeBack (p : Program) (w : Timeline p) (id : StepId) (ids : List StepId) (m : Machine) : Type 0 where
  pub place : ℕ
  pub named : IsNamed p w.past.log id place
  pub gone : List (Logged p)
  pub world : Timeline p
  pub loses : LosesSome p w.past place gone world.past
  pub again : world.again ≡ again_after (events_in p gone) w.again
  pub names : ids ≡ ids_of p gone
  pub stands : Stands p world m

abbrev pub TakenBack : (p : Program) → Timeline p → StepId → Result (Vec StepId Global) BackRefused → Machine → Type 0
TakenBack p w id (Ok ids) m = TakesBack p w id ids.items m
TakenBack p w id (Err refusals.NotKept) m = ((place : ℕ) → ¬ IsNamed p w.past.log id place) × Stands p w m
TakenBack p w id (Err (refusals.NoMemory ids)) m = TakesSomeBack p w id ids.items m
TakenBack p w id (Err _) m = ⊥

-- how many steps were taken before and after `redo`, which answers the names of those that are more
abbrev pub CountsAgain : Result (Vec StepId Global) BackRefused → ℕ → ℕ → Type 0
CountsAgain (Ok ids) old new = new ≡ counted (length ids.items) old
CountsAgain (Err (refusals.NoMemory ids)) old new = MayCountOne (length ids.items) old new
CountsAgain (Err _) old new = new ≡ old

-- what `redo` answers and leaves: the steps are taken again, in their order; or the first of them, the others being still to come
pub record Redoes (p : Program) (w : Timeline p) (ids : List StepId) (u : Timeline p) : Type 0 where
  pub steps : List (Logged p)
  pub leads : IsLog (machine p) w.past.state steps u.past.state
  pub log : u.past.log ≡ w.past.log ++ steps
  pub events : w.again ≡ events_in p steps ++ u.again
  pub names : ids ≡ ids_of p steps

pub record TakesAgain (p : Program) (w : Timeline p) (ids : List StepId) (m : Machine) : Type 0 where
  pub past : Past p
  pub some : ¬ (w.again ≡ [])
  pub redoes : Redoes p w ids (record { past = past; again = [] })
  pub stands : Stands p (record { past = past; again = [] }) m

pub record TakesSomeAgain (p : Program) (w : Timeline p) (ids : List StepId) (m : Machine) : Type 0 where
  pub world : Timeline p
  pub left : ¬ (world.again ≡ [])
  pub redoes : Redoes p w ids world
  pub stands : Stands p world m

abbrev pub TakenAgain : (p : Program) → Timeline p → Result (Vec StepId Global) BackRefused → Machine → Type 0
TakenAgain p w (Ok ids) m = TakesAgain p w ids.items m
TakenAgain p w (Err refusals.NothingToRedo) m = (w.again ≡ []) × Stands p w m
TakenAgain p w (Err (refusals.NoMemory ids)) m = TakesSomeAgain p w ids.items m
TakenAgain p w (Err _) m = ⊥

-- names of steps, as the definition of orders has them
abbrev pub names_in : List StepId → List StepName
names_in ids = map (λ id. (id.go, id.n)) ids

-- what `reorder` answers and leaves: the order that the names give, with the same state, and nothing may be done again
pub record Reorders (p : Program) (w : Timeline p) (ids : List StepId) (m : Machine) : Type 0 where
  pub log : List (Logged p)
  pub order : ordered_by p (names_in ids) w.past.log ≡ accepted log
  pub stands : Stands p (record { past = record { log = log; state = w.past.state }; again = [] }) m

-- what `reorder` answers where two steps conflict and would change places
pub record Breaks (p : Program) (w : Timeline p) (ids : List StepId) (first second : StepId) : Type 0 where
  pub earlier : Logged p
  pub later : Logged p
  pub order : ordered_by p (names_in ids) w.past.log ≡ broken earlier later
  pub first_is : id_of p earlier ≡ first
  pub second_is : id_of p later ≡ second

abbrev pub Reordered : (p : Program) → Timeline p → List StepId → Result (Unit {0}) BackRefused → Machine → Type 0
Reordered p w ids (Ok done) m = Reorders p w ids m
Reordered p w ids (Err refusals.NotTheSteps) m = (ordered_by p (names_in ids) w.past.log ≡ other_steps) × Stands p w m
Reordered p w ids (Err (refusals.BreaksDependence first second)) m = Breaks p w ids first second × Stands p w m
Reordered p w ids (Err (refusals.NoMemory taken)) m = (taken.items ≡ []) × (length ids ≡ length w.past.log) × Stands p w m
Reordered p w ids (Err _) m = ⊥
