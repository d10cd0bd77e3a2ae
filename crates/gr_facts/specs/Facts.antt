-- What is told of a step, by the rules: of a step of a log, of the steps before it, and of the state to which they led.
use Rattle.std.specs.Prelude.{ℕ, Bool, true, false, is_some, List, [], ◌∷◌, ◌++◌, slice_get, Option, Some, None, option_map, option_and_then, if◌then◌else◌}
use Rattle.std.specs.List.{flat_map, list_any}
use Rattle.std.specs.Option.{option_or}
use Rattle.gr_base.specs.declared.names.ChName.{ChName}
use Rattle.gr_base.specs.declared.names.StepId.{StepId}
use Rattle.gr_base.specs.declared.kinds.Kind.{Kind}
use Rattle.gr_base.specs.declared.kinds.Kind.TheVariants.{Make}
use Rattle.gr_base.specs.declared.objects.Object.{Object}
use Rattle.gr_base.specs.declared.objects.Object.TheVariants.{Run, Go, Gate}
use Rattle.gr_program.specs.Programs.{Function, FunctionIs, Program}
use Rattle.gr_rules.specs.Assigned.{assigned}
use Rattle.gr_rules.specs.Attempts.{Operation}
use Rattle.gr_rules.specs.Frames.{Frame}
use Rattle.gr_rules.specs.Goroutines.{Goroutine}
use Rattle.gr_rules.specs.States.{State, same, same_go}
use Rattle.gr_rules.specs.Tells.{function_of}
use Rattle.gr_rules.specs.Touches.{table}
use Rattle.gr_rules.specs.Turns.{line_of}
use Rattle.gr_laws.specs.Reached.{Logged}
use Rattle.gr_laws.specs.Touched.{each_once}
use Rattle.gr_record.specs.Pairs.{id_of, step_kind}
use Rattle.gr_facts.specs.declared.sources.Source.{Source}

-- Its name, and its kind with the clause that it picked or its fault. What it did with a channel, and whether it printed. The
-- function and the line of its statement, and the variables that it gave values. The goroutines beside its own that it started,
-- met or woke, and the channel that it made. The objects that it touched, each with the step that had written it last.
pub record Facts : Type 0 where
  pub id : StepId
  pub kind : Kind
  pub operation : Option Operation
  pub prints : Bool
  pub function : Option (List ℕ)
  pub line : Option ℕ
  pub given : List (List ℕ)
  pub reached : List (List ℕ)
  pub made : Option ChName
  pub sources : List Source

abbrev pub name_of : Function → List ℕ
name_of (FunctionIs name parameters result variables body last) = name

abbrev pub innermost : Option Goroutine → Option Frame
innermost g = option_and_then (λ g. slice_get g.frames 0) g

-- the function with a number, and the one in which a goroutine stands, by their names
abbrev pub function_named : Program → ℕ → Option (List ℕ)
function_named p number = option_map name_of (function_of p number)

abbrev pub function_at : Program → Option Goroutine → Option (List ℕ)
function_at p g = option_and_then (λ f. function_named p f.function) (innermost g)

-- the goroutine that the object is, if it is one other than this
abbrev pub other_than : List ℕ → Object → List (List ℕ)
other_than own o = elim o [ Go n ↦ (if same_go n own then [] else n ∷ []) | _ ↦ [] ]

-- the goroutines other than this among objects
abbrev pub others_in : List ℕ → List Object → List (List ℕ)
others_in own os = flat_map (other_than own) os

-- the first channel whose gate is among objects
abbrev pub first_gate : List Object → Option ChName
first_gate [] = None
first_gate (o ∷ os) = elim o [ Gate c ↦ Some c | _ ↦ first_gate os ]

abbrev pub is_make : Kind → Bool
is_make kind = elim kind [ Make ↦ true | _ ↦ false ]

-- the channel that a step of this kind made, among what it wrote
abbrev pub made_in : Kind → List Object → Option ChName
made_in kind os = if is_make kind then first_gate os else None

-- the last step of a log that wrote an object, if one did
abbrev pub last_writer : (p : Program) → List (Logged p) → Object → Option StepId
last_writer p [] o = None
last_writer p (l ∷ ls) o = option_or (last_writer p ls o) (if list_any (same o) l.note.writes then Some (id_of p l) else None)

-- An object that a step wrote, or read and did not write, with the step that had written it last by this look-up. No step has
-- written `Run` before another, since that ends the program.
abbrev pub source_of : Bool → (Object → Option StepId) → Object → List Source
source_of wrote writer o = elim o [ Run ↦ [] | x ↦ record { object = x; wrote = wrote; step = writer x } ∷ [] ]

abbrev pub sources_of : Bool → (Object → Option StepId) → List Object → List Source
sources_of wrote writer os = flat_map (source_of wrote writer) os

-- what a step read from the state and did not write, each object once
abbrev pub only_read : (p : Program) → State → Logged p → List Object
only_read p s l = each_once l.note.writes (table s l.event l.note.kind).reads

-- what is told of a step that began in the state, to which the steps before it had led
abbrev pub facts : (p : Program) → List (Logged p) → State → Logged p → Facts
facts p before s l = record {
  id = id_of p l;
  kind = step_kind p l;
  operation = l.note.kind.operation;
  prints = is_some l.note.kind.printed;
  function = function_at p (s.goroutines l.event.go);
  line = line_of (s.goroutines l.event.go);
  given = assigned p s l.event;
  reached = others_in l.event.go l.note.writes;
  made = made_in (step_kind p l) l.note.writes;
  sources = sources_of false (last_writer p before) (only_read p s l) ++ sources_of true (last_writer p before) l.note.writes;
}
