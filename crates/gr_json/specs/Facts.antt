-- JSON of what a step was, and of what it moved and printed.
use Rattle.std.specs.Prelude.{ℕ, List, [], ◌∷◌, Option, Some, None, codes}
use Rattle.serde_json.specs.Data.{Data, boolean, string}
use Rattle.gr_base.specs.declared.names.ChName.{ChName}
use Rattle.gr_base.specs.declared.objects.Object.{Object}
use Rattle.gr_base.specs.declared.objects.Object.TheVariants.{Run, Go, Gate, Tail, Head, Slot}
use Rattle.gr_facts.specs.Facts.{Facts}
use Rattle.gr_facts.specs.Moved.{Moved}
use Rattle.gr_facts.specs.declared.sources.Source.{Source}
use Rattle.gr_json.specs.Parts.{text, count, go_data, channel_data, step_data, value_data, kind_data, perhaps, list, fields}
use Rattle.gr_rules.specs.Attempts.{Operation, sends_on, receives_from, takes_len_of, takes_cap_of, closes}

abbrev pub operation_name : Operation → List ℕ
operation_name (sends_on c) = codes "send"
operation_name (receives_from c) = codes "receive"
operation_name (takes_len_of c) = codes "len"
operation_name (takes_cap_of c) = codes "cap"
operation_name (closes c) = codes "close"

abbrev pub channel_of : Operation → ChName
channel_of (sends_on c) = c
channel_of (receives_from c) = c
channel_of (takes_len_of c) = c
channel_of (takes_cap_of c) = c
channel_of (closes c) = c

-- what a step did with a channel
abbrev pub operation_data : Operation → Data
operation_data o = fields ((codes "name", channel_data (channel_of o)) ∷ (codes "operation", string (operation_name o)) ∷ [])

abbrev pub object_name : Object → List ℕ
object_name Run = codes "run"
object_name (Go go) = codes "goroutine"
object_name (Gate c) = codes "gate"
object_name (Tail c) = codes "tail"
object_name (Head c) = codes "head"
object_name (Slot c place) = codes "slot"

-- the goroutine or the channel that an object is of
abbrev pub owner_data : Object → Option Data
owner_data Run = None
owner_data (Go go) = Some (go_data go)
owner_data (Gate c) = Some (channel_data c)
owner_data (Tail c) = Some (channel_data c)
owner_data (Head c) = Some (channel_data c)
owner_data (Slot c place) = Some (channel_data c)

abbrev pub slot_of : Object → Option ℕ
slot_of o = elim o [ Slot c place ↦ Some place | _ ↦ None ]

-- an object that a step touched, and the step that had written it last
abbrev pub source_data : Source → Data
source_data s = fields (
    (codes "object", string (object_name s.object))
    ∷ (codes "of", perhaps (λ owner. owner) (owner_data s.object))
    ∷ (codes "slot", perhaps count (slot_of s.object))
    ∷ (codes "step", perhaps step_data s.step)
    ∷ (codes "wrote", boolean s.wrote)
    ∷ [])

-- the function and the line of a statement
abbrev pub place_data : Option (List ℕ) → Option ℕ → Data
place_data function line = fields ((codes "function", perhaps text function) ∷ (codes "line", perhaps count line) ∷ [])

abbrev pub facts_data : Facts → Data
facts_data f = fields (
    (codes "at", place_data f.function f.line)
    ∷ (codes "channel", perhaps operation_data f.operation)
    ∷ (codes "given", list text f.given)
    ∷ (codes "id", step_data f.id)
    ∷ (codes "kind", kind_data f.kind)
    ∷ (codes "made", perhaps channel_data f.made)
    ∷ (codes "prints", boolean f.prints)
    ∷ (codes "reached", list go_data f.reached)
    ∷ (codes "sources", list source_data f.sources)
    ∷ [])

abbrev pub moved_data : Moved → Data
moved_data m = fields (
    (codes "id", step_data m.id)
    ∷ (codes "printed", perhaps text m.printed)
    ∷ (codes "value", perhaps value_data m.value)
    ∷ [])
