-- The touches of an object by the steps of a log.
use Rattle.std.specs.Prelude.{◌-◌, ◌++◌, ◌&&◌, not, ℕ, zero, suc, Bool, true, false, if◌then◌else◌, List, [], ◌∷◌, length, take, Option, Some, None}
use Rattle.std.specs.List.{list_any}
use Rattle.gr_base.specs.declared.objects.Object.{Object}
use Rattle.gr_base.specs.declared.objects.Object.TheVariants.{Run, Go}
use Rattle.gr_rules.specs.States.{same}
use Rattle.gr_record.specs.declared.record.Record.{Record}
use Rattle.gr_record.specs.Conflicts.{written_by, read_by, touched_by}
use Rattle.gr_touches.specs.declared.touch.Touch.{Touch}

abbrev pub without_last : {A : Type 0} → List A → List A
without_last xs = take (length xs - 1) xs

-- whether the object is one of these
abbrev pub is_among : Object → List Object → Bool
is_among o os = list_any (same o) os

-- the touch of the object by the step at a place, if it touched it
abbrev pub touch_at : Object → ℕ → Record → List Touch
touch_at o place r = if is_among o (touched_by r) then record { place = place; writes = is_among o (written_by r) } ∷ [] else []

-- a touch for each of these steps that touched the object, in their order; the first stands at this place
abbrev pub touches_in : Object → ℕ → List Record → List Touch
touches_in o place [] = []
touches_in o place (r ∷ rs) = touch_at o place r ++ touches_in o (suc place) rs

-- whether none of the objects stands twice
abbrev pub none_twice : List Object → Bool
none_twice [] = true
none_twice (o ∷ os) = not (is_among o os) && none_twice os

-- the touch, as often as the object is among these
abbrev pub touches_for : Object → Touch → List Object → List Touch
touches_for q t [] = []
touches_for q t (o ∷ os) = if same o q then t ∷ touches_for q t os else touches_for q t os

-- what is kept of a step at a place for an object
abbrev pub kept_for : Object → ℕ → Record → List Touch
kept_for q place r = touches_for q (record { place = place; writes = false }) (read_by r) ++ touches_for q (record { place = place; writes = true }) (written_by r)

-- the list, where it is not empty
abbrev pub if_any : {A : Type 0} → List A → Option (List A)
if_any [] = None
if_any (x ∷ xs) = Some (x ∷ xs)

-- a touch for each of this many consecutive steps, the first of which stands at this place
abbrev pub stretch : Bool → ℕ → ℕ → List Touch
stretch w place zero = []
stretch w place (suc count) = record { place = place; writes = w } ∷ stretch w (suc place) count

-- what is kept for an object of this many steps of a goroutine that reached no further
abbrev pub own_touches : List ℕ → ℕ → ℕ → Object → List Touch
own_touches go place count o =
    if same Run o then stretch false place count else if same (Go go) o then stretch true place count else []
