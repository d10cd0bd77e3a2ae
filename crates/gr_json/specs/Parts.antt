-- JSON of names, numbers and texts.
use Rattle.std.specs.Prelude.{ℕ, List, [], ◌∷◌, map, Option, Some, None}
use Rattle.std.specs.Str.Lossy.{utf8_lossy}
use Rattle.serde_json.specs.Data.{Data, null, number, unsigned, string, array, object, Members, no_members, member}
use Rattle.serde_json.specs.View.{items_of}
use Rattle.gr_base.specs.Kinds.{kind_text}
use Rattle.gr_base.specs.Names.{go_text, ch_text, step_text}
use Rattle.gr_base.specs.Values.{value_text}
use Rattle.gr_base.specs.declared.kinds.Kind.{Kind}
use Rattle.gr_base.specs.declared.names.ChName.{ChName}
use Rattle.gr_base.specs.declared.names.StepId.{StepId}
use Rattle.gr_base.specs.declared.values.Value.{Value}

-- bytes as a text; where they are no UTF-8, U+FFFD stands
abbrev pub text : List ℕ → Data
text bytes = string (utf8_lossy bytes)

abbrev pub count : ℕ → Data
count n = number (unsigned n)

-- the names of goroutines, channels and steps, values and kinds, as replies print them
abbrev pub go_data : List ℕ → Data
go_data go = text (go_text go)

abbrev pub channel_data : ChName → Data
channel_data channel = text (ch_text channel)

abbrev pub step_data : StepId → Data
step_data id = text (step_text id)

abbrev pub value_data : Value → Data
value_data value = text (value_text value)

abbrev pub kind_data : Kind → Data
kind_data kind = text (kind_text kind)

-- what is there, or null
abbrev pub perhaps : {A : Type 0} → (A → Data) → Option A → Data
perhaps f None = null
perhaps f (Some a) = f a

abbrev pub list : {A : Type 0} → (A → Data) → List A → Data
list f xs = array (items_of (map f xs))

-- an object, whose members are written in the order of their names
abbrev pub members : List (List ℕ × Data) → Members
members [] = no_members
members (m ∷ ms) = member m.0 m.1 (members ms)

abbrev pub fields : List (List ℕ × Data) → Data
fields ms = object (members ms)
