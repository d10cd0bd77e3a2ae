-- What arrives at a goroutine, and the memory that it may take.
use Rattle.gr_code.specs.Goroutines.{Arrival, Value, Channel, Completion, Child, Passes, IsMet}

-- its undo value may hold what a cell had, or stand in a box
abbrev pub MayGrow : Arrival → Type 0
MayGrow (Value v) = Unit {0}
MayGrow (Channel v) = Unit {0}
MayGrow Completion = ⊥
MayGrow Child = ⊥
MayGrow (Passes clause got) = Unit {0}
MayGrow (IsMet clause got) = Unit {0}
