-- Runs of programs, and what their logs tell.
use Rattle.std.specs.Prelude.{ℕ, zero, suc, nat_eq, ◌==◌, ◌&&◌, Bool, List, [], ◌∷◌, map, Option, Some, None, option_and_then}
use Rattle.std.specs.Cmp.Lexicographic.{pointwise}
use Rattle.gr_base.specs.declared.events.Choice.TheVariants as choices
use Rattle.gr_base.specs.declared.events.Event.{Event}
use Rattle.gr_base.specs.declared.names.ChName.{ChName}
use Rattle.gr_base.specs.declared.values.Value.{Value}
use Rattle.gr_base.specs.declared.kinds.Kind.{Kind}
use Rattle.gr_causal.specs.Machine.{StepOf, conflict, replay}
use Rattle.gr_causal.specs.Dependence as dependence
use Rattle.gr_causal.specs.OrderByNames.{Ordered, ordered}
use Rattle.gr_channels.specs.Objects.{GateContent}
use Rattle.gr_program.specs.Programs.{Program}
use Rattle.gr_rules.specs.States.{State, start}
use Rattle.gr_rules.specs.Attempts.{Refusal, kind_of}
use Rattle.gr_rules.specs.Steps.{machine, refusal}
use Rattle.gr_rules.specs.Tells.{console}
use Rattle.gr_rules.specs.Assigned.{last_assignment}

abbrev pub Logged : Program → Type 0
Logged p = StepOf (machine p)

abbrev pub Name : Type 0
Name = List ℕ × ℕ

-- the goroutine of `main`, and the n-th goroutine that it started
abbrev pub main : List ℕ
main = []

abbrev pub child : ℕ → List ℕ
child n = n ∷ []

-- the n-th channel that the goroutine of `main` made
abbrev pub channel : ℕ → ChName
channel n = record { go = []; n = n }

abbrev pub steps : List ℕ → Event
steps g = record { go = g; choice = choices.Plain }

abbrev pub picks : List ℕ → ℕ → Event
picks g i = record { go = g; choice = choices.Pick i }

abbrev pub parks : List ℕ → Event
parks g = record { go = g; choice = choices.Park }

abbrev pub takes_default : List ℕ → Event
takes_default g = record { go = g; choice = choices.Default }

-- as many steps of the goroutine
abbrev pub times : ℕ → List ℕ → List Event → List Event
times zero g es = es
times (suc n) g es = steps g ∷ times n g es

-- the state and the log after events from the start, if each is possible in its turn
abbrev pub run_of : (p : Program) → List Event → Option (State × List (Logged p))
run_of p es = replay (machine p) (start p) es

abbrev pub log_by : {A B : Type 0} → Option (A × List B) → List B
log_by (Some r) = r.1
log_by None = []

abbrev pub log : (p : Program) → List Event → List (Logged p)
log p es = log_by (run_of p es)

abbrev pub kinds : Program → List Event → List Kind
kinds p es = map (λ r. kind_of r.note.kind) (log p es)

abbrev pub printed : Program → List Event → List (List ℕ)
printed p es = console p (log p es)

-- the name of a step
abbrev pub name : (p : Program) → Logged p → Name
name p r = (r.event.go, r.note.kind.ordinal)

abbrev pub same_name : Name → Name → Bool
same_name m n = pointwise nat_eq m.0 n.0 && (m.1 == n.1)

-- the steps that depend on the one at a place of the log, and those on which it depends
abbrev pub dependents : Program → List Event → ℕ → List Name
dependents p es i = map (name p) (dependence.dependents (conflict (machine p)) (log p es) i)

abbrev pub causes : Program → List Event → ℕ → List Name
causes p es i = map (name p) (dependence.causes (conflict (machine p)) (log p es) i)

-- the log in the order of these names, if it respects dependence
abbrev pub ordered_by : (p : Program) → List Event → List Name → Ordered (Logged p)
ordered_by p es ns = ordered (conflict (machine p)) (name p) same_name ns (log p es)

-- a channel's gate, and what its slots hold, after the events
abbrev pub gate_after : Program → List Event → ChName → Option GateContent
gate_after p es c = option_and_then (λ r. r.0.gates c) (run_of p es)

abbrev pub slot_after : Program → List Event → ChName → ℕ → Option (ℕ × Value)
slot_after p es c i = option_and_then (λ r. r.0.slots c i) (run_of p es)

-- why the next event is refused after the events, if it is
abbrev pub refusal_after : Program → List Event → Event → Option Refusal
refusal_after p es e = option_and_then (λ r. refusal p r.0 e) (run_of p es)

-- the place of the last of the steps that gave a variable of the goroutine with this name a value
abbrev pub last_assigned : Program → List Event → List ℕ → List ℕ → Option ℕ
last_assigned p es g x = last_assignment p (start p) g x es
