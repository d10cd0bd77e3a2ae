-- Room for touches that come, without memory.
use Rattle.std.specs.Prelude.{◌≡◌, ◌≤◌, ◌+◌, ◌++◌, ℕ, if◌then◌else◌, List, length, filter, vec_capacity, Result, OnOk, OnErr, IsOk}
use Rattle.std.specs.Option.{unwrap_or}
use Rattle.indexmap.specs.IndexMap.{get}
use Rattle.gr_base.specs.declared.objects.Object.{Object}
use Rattle.gr_base.specs.declared.objects.Object.TheVariants as objects
use Rattle.gr_rules.specs.States.{same}
use Rattle.gr_touches.specs.declared.touch.Touch.{Touch}
use Rattle.gr_touches.specs.declared.lanes.Lanes.{Lanes}
use Rattle.gr_record.specs.declared.record.Record.{Record}
use Rattle.gr_touches.specs.Touches.{touches_for, kept_for}
use Rattle.gr_touches.specs.Lists.{LaneSeen, nothing, list_of, AddsFor, KeepsLists}

-- how many touches a lane can have without memory
abbrev pub size_of : LaneSeen → ℕ
size_of k = length k.0 + k.1

-- how many touches the list of an object can have without memory
abbrev pub capacity_of : Lanes → Object → ℕ
capacity_of l o = if same objects.Run o then vec_capacity l.run else size_of (unwrap_or (get same l.map o) nothing)

-- the objects can have these lists without memory
pub record Fits (l : Lanes) (lists : Object → List Touch) : Type 0 where
  pub each : (o : Object) → length (lists o) ≤ capacity_of l o
  pub stops : length (filter (λ t. t.writes) (lists objects.Run)) ≤ vec_capacity l.stops

-- there is room for the touch for each of these objects
abbrev pub FitsFor : List Object → Touch → Lanes → Type 0
FitsFor os t l = Fits l (λ q. list_of l q ++ touches_for q t os)

-- there is room for all lists for which there was room
abbrev pub KeepsRoom : Lanes → Lanes → Type 0
KeepsRoom old new = (lists : Object → List Touch) → Fits old lists → Fits new lists

-- the lists are as was asked; or, where that does not fit, it was refused, and they are as they were
pub record Notes {A E : Type 0} (result : Result A E) (done fits : Type 0) (old new : Lanes) : Type 0 where
  pub ok : OnOk result done
  pub err : OnErr result (KeepsLists old new)
  pub succeeds : fits → IsOk result
  pub room : KeepsRoom old new

-- the touch is noted for each of these objects
abbrev pub NotesFor : {A E : Type 0} → Result A E → List Object → Touch → Lanes → Lanes → Type 0
NotesFor result os t old new = Notes result (AddsFor os t old new) (FitsFor os t old) old new

-- the touches of a step at a place are noted
abbrev pub NotesStep : {A E : Type 0} → Result A E → ℕ → Record → Lanes → Lanes → Type 0
NotesStep result place r old new =
    Notes result ((q : Object) → list_of new q ≡ list_of old q ++ kept_for q place r) (Fits old (λ q. list_of old q ++ kept_for q place r)) old new
