-- The lists of touches that are kept for the objects.
use Rattle.std.specs.Prelude.{◌≡◌, ◌<◌, ◌+◌, length, ◌++◌, ℕ, if◌then◌else◌, List, [], slice_get}
use Rattle.std.specs.Option.{option_map_or, unwrap_or}
use Rattle.indexmap.specs.IndexMap.{get, values, keys}
use Rattle.gr_base.specs.declared.objects.Object.{Object}
use Rattle.gr_base.specs.declared.objects.Object.TheVariants as objects
use Rattle.gr_rules.specs.States.{same}
use Rattle.gr_touches.specs.declared.touch.Touch.{Touch}
use Rattle.gr_touches.specs.declared.lanes.Lanes.{Lanes}
use Rattle.gr_touches.specs.declared.marks.Wanted.{Wanted}
use Rattle.gr_touches.specs.Marks.{wanted}
use Rattle.gr_touches.specs.Touches.{touches_for}

-- what a lane has: its touches, and for how many more there is room
abbrev pub LaneSeen : Type 0
LaneSeen = List Touch × ℕ

-- the lane of an object that has none: no touch, and no room
abbrev pub nothing : LaneSeen
nothing = ([], 0)

-- the list of an object
abbrev pub list_of : Lanes → Object → List Touch
list_of l o = if same objects.Run o then l.run.items else (unwrap_or (get same l.map o) nothing).0

-- the list with a number: those of the other objects, and behind them that of Run
abbrev pub list_numbered : Lanes → ℕ → List Touch
list_numbered l i = option_map_or (λ k. k.0) (slice_get (values l.map) i) l.run.items

-- all lists are as they were
abbrev pub KeepsLists : Lanes → Lanes → Type 0
KeepsLists old new = (q : Object) → list_of new q ≡ list_of old q

-- the number is that of the object's list, and these touches are a part of the list with all the wanted ones
pub record IsNumbered (l : Lanes) (o : Object) (which : Wanted) (number : ℕ) (ts : List Touch) : Type 0 where
  pub below : number < length (keys l.map) + 1
  pub list : list_numbered l number ≡ list_of l o
  pub part : Wanted
  pub is_part : ts ≡ wanted part (list_of l o)
  pub touches : wanted which ts ≡ wanted which (list_of l o)

-- the touch is added for each of these objects
abbrev pub AddsFor : List Object → Touch → Lanes → Lanes → Type 0
AddsFor os t old new = (q : Object) → list_of new q ≡ list_of old q ++ touches_for q t os

-- what was added for these objects is taken away
abbrev pub TakesFor : List Object → Lanes → Lanes → Type 0
TakesFor os old new = (before : Object → List Touch) (t : Touch) → ((q : Object) → list_of old q ≡ before q ++ touches_for q t os) → (q : Object) → list_of new q ≡ before q
