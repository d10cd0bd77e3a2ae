-- Where an attempt ends is the step of the machine.
use Rattle.std.specs.Prelude.{◌≡◌, ◌↔◌, fold, List, [], ◌∷◌, map, Some}
use Rattle.gr_base.specs.declared.events.Event.{Event}
use Rattle.gr_base.specs.declared.objects.Object.{Object}
use Rattle.gr_causal.specs.Rules.{Note}
use Rattle.gr_program.specs.Programs.{Program}
use Rattle.gr_rules.specs.States.{Cell, State, object_of, look, put}
use Rattle.gr_rules.specs.Attempts.{Refusal, Report, Attempt, refuse, perform, ask}
use Rattle.gr_rules.specs.Steps.{attempt, machine, refusal}
use Rattle.gr_refine.specs.Leaves.{refused, performed, leaf}

-- what an attempt asks for in a state, in its order
abbrev pub asked_for : State → Attempt → List Object
asked_for t (refuse r) = []
asked_for t (perform report cells) = []
asked_for t (ask o f) = o ∷ asked_for t (f (look t o))

-- what is noted of a step
abbrev pub note_of : State → Attempt → Report → List Cell → Note Object Report
note_of t a report cells = record { kind = report; reads = asked_for t a; writes = map object_of cells }

-- an attempt that is performed is a step that writes its cells, and a step is an attempt that is performed
abbrev pub PerformedIsStep : Type 0
PerformedIsStep = (p : Program) (t : State) (e : Event) (report : Report) (cells : List Cell) → leaf t (attempt p e) ≡ performed report cells
    → (machine p).step t e ≡ Some (fold put t cells, note_of t (attempt p e) report cells)

abbrev pub StepIsPerformed : Type 0
StepIsPerformed = (p : Program) (t u : State) (e : Event) (n : Note Object Report) → (machine p).step t e ≡ Some (u, n)
    → (cells : List Cell) × (leaf t (attempt p e) ≡ performed n.kind cells) × (u ≡ fold put t cells) × (n ≡ note_of t (attempt p e) n.kind cells)

-- an event is refused where its attempt is
abbrev pub RefusalIsLeaf : Type 0
RefusalIsLeaf = (p : Program) (t : State) (e : Event) (r : Refusal) → (refusal p t e ≡ Some r) ↔ (leaf t (attempt p e) ≡ refused r)
