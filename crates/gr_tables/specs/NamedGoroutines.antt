-- The goroutines of a store, by name and by number: what each contains, and what changes of them do.
use Rattle.std.specs.Prelude.{◌≡◌, ◌≤◌, ◌<◌, ◌+◌, ◌^◌, ℕ, true, List, slice_get, Option, Some, None, option_map, option_and_then}
use Rattle.indexmap.specs.IndexMap.{get, keys, values}
use Rattle.gr_rules.specs.States.{same_go, updated}
use Rattle.gr_rules.specs.Outcomes.{gives, wrong}
use Rattle.gr_code.specs.CodeFrames.{ProgramCode}
use Rattle.gr_code.specs.Goroutines.{CodeGoroutine, Arrival, CanCount, arrived, local, is_local}
use Rattle.gr_goros.specs.Undoing.{Undoes, undone, entered, need}
use Rattle.gr_goros.specs.Views.{Seen, CanHalt}
use Rattle.gr_goros.specs.declared.arrivals.Halt.{Halt}
use Rattle.gr_rules.specs.Goroutines.{ready}
use Rattle.gr_goros.specs.declared.undo.GoUndo.{GoUndo}
use Rattle.gr_tables.specs.declared.goroutines.Goroutines.{Goroutines}

-- the names that are known, each at its number
abbrev pub names_of : Goroutines → List (List ℕ)
names_of m = keys m.map

abbrev pub name_at : Goroutines → ℕ → Option (List ℕ)
name_at m i = slice_get (keys m.map) i

-- the goroutine that is there, if any
abbrev pub there : Option (Option Seen) → Option Seen
there o = option_and_then (λ x. x) o

-- the goroutine of a name, as it is seen, and that of a number
abbrev pub seen_of : Goroutines → List ℕ → Option Seen
seen_of m name = there (get same_go m.map name)

abbrev pub seen_at : Goroutines → ℕ → Option Seen
seen_at m i = there (slice_get (values m.map) i)

-- the content of the goroutine of a name
abbrev pub goroutines_of : Goroutines → List ℕ → Option CodeGoroutine
goroutines_of m name = option_map (λ g. g.content) (seen_of m name)

-- how many more frames the goroutine of a name holds with no memory: none where there is no goroutine
abbrev pub room_or_none : Option Seen → ℕ
room_or_none None = 0
room_or_none (Some g) = g.room

abbrev pub go_rooms_of : Goroutines → List ℕ → ℕ
go_rooms_of m name = room_or_none (seen_of m name)

-- there is a goroutine, and this is true of it
abbrev pub At : {X : Type 0} → (X → Type 0) → Option X → Type 0
At holds None = ⊥
At holds (Some x) = holds x

-- the name with the number has this goroutine, and nothing else has changed
pub record Sets (number : ℕ) (x : Option Seen) (old new : Goroutines) : Type 0 where
  pub name : List ℕ
  pub here : name_at old number ≡ Some name
  pub is : seen_of new ≡ updated same_go (seen_of old) name x
  pub names : names_of new ≡ names_of old

-- the goroutine with the number was seen as a and is seen as b, and nothing else has changed
pub record Changes (number : ℕ) (a b : Seen) (old new : Goroutines) : Type 0 where
  pub was : seen_at old number ≡ Some a
  pub sets : Sets number (Some b) old new

-- the goroutine with the number changes, nothing else does, and this is true of what it was and of what it is
abbrev pub ChangesBy : ℕ → (Seen → Seen → Type 0) → Goroutines → Goroutines → Type 0
ChangesBy number R old new = (a : Seen) × (b : Seen) × Changes number a b old new × R a b

-- no name and no content has changed, and no goroutine has less room
pub record KeepsContents (old new : Goroutines) : Type 0 where
  pub goroutines : goroutines_of new ≡ goroutines_of old
  pub names : names_of new ≡ names_of old
  pub rooms : (q : List ℕ) → go_rooms_of old q ≤ go_rooms_of new q

-- its count of steps is below the greatest of 64 bits
abbrev pub IsCounted : Seen → Type 0
IsCounted g = g.content.steps + 1 < 2 ^ 64

-- its next step is local
abbrev pub StepsAlone : ProgramCode → Seen → Type 0
StepsAlone code g = (¬ (local code g.content ≡ wrong)) × (is_local code g.content ≡ true) × IsCounted g

-- what arrives fits its instruction
abbrev pub CanArrive : ProgramCode → Arrival → Seen → Type 0
CanArrive code arrival g = (¬ (arrived code arrival g.content ≡ wrong)) × CanCount arrival g.content

abbrev pub Arrives : ProgramCode → Arrival → GoUndo → Seen → Seen → Type 0
Arrives code arrival u a b = (arrived code arrival a.content ≡ gives b.content) × Undoes u a b

-- it can begin to wait, and it can come to an end
abbrev pub CanPark : Seen → Type 0
CanPark g = (g.content.status ≡ ready) × IsCounted g

abbrev pub CanEnd : Halt → Seen → Type 0
CanEnd how g = CanHalt how g.content × IsCounted g

-- its content becomes this, which the change undoes
abbrev pub ComesTo : (CodeGoroutine → CodeGoroutine) → GoUndo → Seen → Seen → Type 0
ComesTo f u a b = (b.content ≡ f a.content) × Undoes u a b

-- a change of it is taken back
abbrev pub TakenBack : GoUndo → Seen → Seen → Type 0
TakenBack u a b = (b.content ≡ undone u a.content) × (a.room + entered u ≤ b.room + need u)
