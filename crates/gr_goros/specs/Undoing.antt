-- How the changes of goroutines are undone.
use Rattle.std.specs.Prelude.{◌≡◌, ℕ, ◌+◌, ◌-◌, ◌<◌, ◌≤◌, false, List, [], ◌∷◌, length, take, drop, slice_set, Option, Some, None}
use Rattle.gr_base.specs.declared.values.Value.{Value}
use Rattle.gr_base.specs.declared.values.Value.TheVariants as values
use Rattle.gr_rules.specs.Evaluation.{Variables}
use Rattle.gr_rules.specs.Goroutines.{ready, finished}
use Rattle.gr_code.specs.CodeFrames.{CodeFrame}
use Rattle.gr_code.specs.Goroutines.{CodeGoroutine}
use Rattle.gr_goros.specs.Views.{Seen, status_of, is_finished}
use Rattle.gr_goros.specs.declared.undo.Spot.{Spot}
use Rattle.gr_goros.specs.declared.undo.Former.{Former}
use Rattle.gr_goros.specs.declared.undo.Former.TheVariants as former
use Rattle.gr_goros.specs.declared.undo.FrameUndo.{FrameUndo}
use Rattle.gr_goros.specs.declared.undo.GoUndo.{GoUndo}
use Rattle.gr_goros.specs.declared.undo.GoUndo.TheVariants as undos

-- the cells with what was in them before they were written to, one after the other
abbrev pub each_restored : List (ℕ × Option Value) → Variables → Variables
each_restored [] cells = cells
each_restored (w ∷ ws) cells = slice_set (each_restored ws cells) w.0 w.1

-- the cells before a change
abbrev pub restored : Former → Variables → Variables
restored former.Same cells = cells
restored (former.Nothing k) cells = slice_set cells k None
restored (former.Int k n) cells = slice_set cells k (Some (values.Int n))
restored (former.Bool k b) cells = slice_set cells k (Some (values.Bool b))
restored (former.Unit k) cells = slice_set cells k (Some values.Unit)
restored (former.Nil k) cells = slice_set cells k (Some (values.Chan None))
restored (former.Channel k name) cells = slice_set cells k (Some (values.Chan (Some name.value)))
restored (former.IntAndBool b k n) cells = slice_set (slice_set cells (k + 1) (Some (values.Bool b))) k (Some (values.Int n))
restored (former.Each ws) cells = each_restored ws.value.items cells

-- where a frame stands
abbrev pub spot_of : CodeFrame → Spot
spot_of f = record { function = f.function; number = f.number }

-- a frame where it stood
abbrev pub at_spot : Spot → CodeFrame → CodeFrame
at_spot s f = record f { function = s.function; number = s.number }

-- a frame before it went on
abbrev pub frame_before : FrameUndo → CodeFrame → CodeFrame
frame_before u f = record f { number = u.number; cells = restored u.cells f.cells }

-- a frame of the function with this number, before it went on
abbrev pub frame_in : ℕ → FrameUndo → CodeFrame → CodeFrame
frame_in function u f = record (frame_before u f) { function = function }

-- with another innermost frame
abbrev pub on_innermost : (CodeFrame → CodeFrame) → List CodeFrame → List CodeFrame
on_innermost change [] = []
on_innermost change (f ∷ below) = change f ∷ below

-- without its last element
abbrev pub front : {A : Type 0} → List A → List A
front xs = take (length xs - 1) xs

-- before a step of its own, with these frames
abbrev pub before_step : CodeGoroutine → List CodeFrame → CodeGoroutine
before_step g fs = record g { frames = fs; steps = g.steps - 1 }

-- the goroutine before the change, from the goroutine after it
abbrev pub undone : GoUndo → CodeGoroutine → CodeGoroutine
undone (undos.Went f u) g = before_step g (on_innermost (frame_in f u) g.frames)
undone (undos.Printed s) g = record (before_step g (on_innermost (at_spot s) g.frames)) { text = front g.text }
undone (undos.Entered s) g = before_step g (on_innermost (at_spot s) (drop 1 g.frames))
undone (undos.Left l) g = before_step g (l.value.frame ∷ on_innermost (frame_before l.value.caller) g.frames)
undone (undos.Made f u) g = record (before_step g (on_innermost (frame_in f u) g.frames)) { channels = g.channels - 1 }
undone (undos.Began s) g = record (before_step g (on_innermost (at_spot s) g.frames)) { children = g.children - 1 }
undone (undos.Met m) g = record g { status = status_of m.value.status; frames = on_innermost (frame_in m.value.function m.value.frame) g.frames }
undone (undos.Parked s) g = record (before_step g (on_innermost (at_spot s) g.frames)) { status = ready }
undone (undos.Finished f) g = record g { status = ready; frames = f.value ∷ []; steps = g.steps - 1 }
undone (undos.Faulted s) g = before_step g (on_innermost (at_spot s) g.frames)
undone (undos.Retried s) g = record g { status = status_of s }

-- it has frames
abbrev pub IsLive : CodeGoroutine → Type 0
IsLive g = is_finished g.status ≡ false

-- what taking a change back needs of the content: counts that were raised can be lowered, what came in is there
abbrev pub Fits : GoUndo → CodeGoroutine → Type 0
Fits (undos.Went f u) g = IsLive g × (0 < g.steps)
Fits (undos.Printed s) g = IsLive g × (0 < g.steps) × (0 < length g.text)
Fits (undos.Entered s) g = IsLive g × (0 < g.steps) × (1 < length g.frames)
Fits (undos.Left l) g = IsLive g × (0 < g.steps)
Fits (undos.Made f u) g = IsLive g × (0 < g.steps) × (0 < g.channels)
Fits (undos.Began s) g = IsLive g × (0 < g.steps) × (0 < g.children)
Fits (undos.Met m) g = IsLive g × (is_finished (status_of m.value.status) ≡ false)
Fits (undos.Parked s) g = IsLive g × (0 < g.steps)
Fits (undos.Finished f) g = (g.status ≡ finished) × (0 < g.steps)
Fits (undos.Faulted s) g = 0 < g.steps
Fits (undos.Retried s) g = IsLive g × (is_finished (status_of s) ≡ false)

-- how much room for frames taking it back needs
abbrev pub need : GoUndo → ℕ
need (undos.Left l) = 1
need u = 0

-- how many frames came in with the change
abbrev pub entered : GoUndo → ℕ
entered (undos.Entered s) = 1
entered u = 0

-- the change from a to b is undone by u; directly after it no memory is needed for that, and what left gave its room back
pub record Undoes (u : GoUndo) (a b : Seen) : Type 0 where
  pub back : undone u b.content ≡ a.content
  pub fits : Fits u b.content
  pub room : need u ≤ b.room
  pub gains : a.room + need u ≤ b.room + entered u
