-- The variables that a step gave a value, by their names.
use Rattle.std.specs.Prelude.{ℕ, suc, Bool, ◌&&◌, List, [], ◌∷◌, map, slice_get, Option, Some, None, option_and_then, nat_eq, if◌then◌else◌}
use Rattle.std.specs.List.{list_any}
use Rattle.std.specs.Cmp.Lexicographic.{pointwise}
use Rattle.gr_base.specs.declared.events.Event.{Event}
use Rattle.gr_program.specs.Programs.{Declared, Named, Function, FunctionIs, Program}
use Rattle.gr_rules.specs.Outcomes.{Outcome, gives}
use Rattle.gr_rules.specs.Parts.{Next, Plain, Asks, next_of}
use Rattle.gr_rules.specs.Points.{Work, Assign, Update}
use Rattle.gr_rules.specs.Frames.{Frame, variable_of}
use Rattle.gr_rules.specs.Deeds.{Deed, Moves, Enters, deed}
use Rattle.gr_rules.specs.Goroutines.{Goroutine}
use Rattle.gr_rules.specs.States.{State, same_go}
use Rattle.gr_rules.specs.Steps.{is_deepest, machine}
use Rattle.gr_rules.specs.Tells.{function_of}

-- the names of these variables of a function; the blank identifier names none
abbrev pub named : Option Declared → List (List ℕ) → List (List ℕ)
named None names = names
named (Some (Named x type)) names = x ∷ names

abbrev pub names_of : List Declared → List (Option ℕ) → List (List ℕ)
names_of ds [] = []
names_of ds (None ∷ ks) = names_of ds ks
names_of ds (Some k ∷ ks) = named (slice_get ds k) (names_of ds ks)

abbrev pub names_in : Option Function → List (Option ℕ) → List (List ℕ)
names_in None ks = []
names_in (Some (FunctionIs name parameters result variables body last)) ks = names_of variables ks

-- the variables that get the values of a call
abbrev pub parameters_of : Option Function → List (Option ℕ)
parameters_of None = []
parameters_of (Some (FunctionIs name parameters result variables body last)) = map variable_of parameters

-- The variables that a statement gives values, once no part of it is left. What a receive, a turn of a range or a clause of
-- a select assigns is an assignment by then.
abbrev pub targets_of : Work → List (Option ℕ)
targets_of (Assign targets) = targets
targets_of (Update x op) = Some x ∷ []
targets_of _ = []

abbrev pub targets_by : {A : Type 0} → Work → Next A → List (Option ℕ)
targets_by work Plain = targets_of work
targets_by work (Asks ask k) = []

-- A step that is a fault gives no variable a value, and `go` does not either: its parameters are the child's.
abbrev pub given_by : Program → List Frame → Frame → Outcome Deed → List (List ℕ)
given_by p fs f (gives (Moves on)) = names_in (function_of p f.function) (targets_by f.point.work (next_of f.point.operands))
given_by p fs f (gives (Enters function vs)) = if is_deepest fs then [] else names_in (function_of p function) (parameters_of (function_of p function))
given_by p fs f _ = []

abbrev pub given_in : Program → List Frame → List (List ℕ)
given_in p [] = []
given_in p (f ∷ fs) = given_by p (f ∷ fs) f (deed f)

abbrev pub given_to : Program → Option Goroutine → List (List ℕ)
given_to p None = []
given_to p (Some g) = given_in p g.frames

-- the names of the variables, in frames of its goroutine, that a step of this event from the state gives a value
abbrev pub assigned : Program → State → Event → List (List ℕ)
assigned p s e = given_to p (s.goroutines e.go)

-- whether two names of variables are one
abbrev pub same_variable : List ℕ → List ℕ → Bool
same_variable = pointwise nat_eq

-- whether it is a step of the goroutine that gives such a variable a value
abbrev pub assigns : Program → State → List ℕ → List ℕ → Event → Bool
assigns p s g x e = same_go g e.go && list_any (same_variable x) (assigned p s e)

-- the place of the last of some steps, if there is one. It follows from the last after the first step, and from whether the
-- first is one
abbrev pub later : Option ℕ → Bool → Option ℕ
later (Some i) b = Some (suc i)
later None b = if b then Some 0 else None

-- the place of the last step that gave a variable of the goroutine with this name a value, among the steps of events from a
-- state
abbrev pub last_assignment : Program → State → List ℕ → List ℕ → List Event → Option ℕ
last_assignment p s g x [] = None
last_assignment p s g x (e ∷ es) = option_and_then (λ r. later (last_assignment p r.0 g x es) (assigns p s g x e)) ((machine p).step s e)
