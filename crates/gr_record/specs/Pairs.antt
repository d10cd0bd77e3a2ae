-- Records, each with the step of the log that it is.
use Rattle.std.specs.Prelude.{◌≡◌, Bool, List, map}
use Rattle.gr_base.specs.declared.kinds.Kind.{Kind}
use Rattle.gr_base.specs.declared.names.StepId.{StepId}
use Rattle.gr_program.specs.Programs.{Program}
use Rattle.gr_rules.specs.Attempts.{kind_of}
use Rattle.gr_laws.specs.Dependence.{clash}
use Rattle.gr_laws.specs.Reached.{Logged}
use Rattle.gr_record.specs.declared.record.Record.{Record}

-- the records of these, and their steps
abbrev pub records_in : (p : Program) → List (Record × Logged p) → List Record
records_in p steps = map (λ x. x.0) steps

abbrev pub steps_in : (p : Program) → List (Record × Logged p) → List (Logged p)
steps_in p steps = map (λ x. x.1) steps

-- whether the steps of two of them conflict
abbrev pub clash_in : (p : Program) → Record × Logged p → Record × Logged p → Bool
clash_in p x y = clash p x.1 y.1

-- these are the records, and these the steps
abbrev pub AreOf : (p : Program) → List (Record × Logged p) → List Record → List (Logged p) → Type 0
AreOf p steps records log = (records ≡ records_in p steps) × (log ≡ steps_in p steps)

-- the name of a step: its goroutine, and its ordinal among the steps of that goroutine
abbrev pub id_of : (p : Program) → Logged p → StepId
id_of p l = record { go = l.event.go; n = l.note.kind.ordinal }

-- the kind of a step
abbrev pub step_kind : (p : Program) → Logged p → Kind
step_kind p l = kind_of l.note.kind
