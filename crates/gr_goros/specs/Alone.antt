-- Steps that reach no further than their goroutine, and are no faults.
use Rattle.std.specs.Prelude.{Bool, true, false, not, List, [], ◌∷◌}
use Rattle.gr_rules.specs.Outcomes.{Outcome, gives}
use Rattle.gr_rules.specs.Deeds.{Moves, Prints, Enters, Leaves}
use Rattle.gr_code.specs.CodeFrames.{ProgramCode, CodeFrame, Task, Steps, Wants}
use Rattle.gr_code.specs.Goroutines.{CodeGoroutine, has_caller, is_deepest, task_of}
use Rattle.gr_goros.specs.declared.alone.Depth.{Depth}
use Rattle.gr_goros.specs.declared.alone.Depth.TheVariants.{Outermost, Inner, Deepest}

-- whether a frame has a caller, and whether its goroutine can have no more frames
abbrev pub has_caller_at : Depth → Bool
has_caller_at Outermost = false
has_caller_at Inner = true
has_caller_at Deepest = true

abbrev pub is_deepest_at : Depth → Bool
is_deepest_at Outermost = false
is_deepest_at Inner = false
is_deepest_at Deepest = true

-- whether a task is such a step: of a frame that has a caller or not, in a goroutine that can have more frames or not
abbrev pub stays : Bool → Bool → Outcome Task → Bool
stays caller deepest (gives (Steps on)) = true
stays caller deepest (gives (Wants (Moves on))) = true
stays caller deepest (gives (Wants (Prints line))) = true
stays caller deepest (gives (Wants (Enters function vs))) = not deepest
stays caller deepest (gives (Wants (Leaves v))) = caller
stays caller deepest _ = false

abbrev pub stays_in : List CodeFrame → Outcome Task → Bool
stays_in [] o = false
stays_in (f ∷ below) o = stays (has_caller below) (is_deepest (f ∷ below)) o

-- whether the next step of a goroutine is one
abbrev pub stays_alone : ProgramCode → CodeGoroutine → Bool
stays_alone code g = stays_in g.frames (task_of code g)
