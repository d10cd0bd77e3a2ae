-- The last step of a run that gave a variable of a goroutine with a name a value.
use Rattle.std.specs.Prelude.{◌≡◌, [], ◌∷◌, Some, None, codes}
use Rattle.gr_rules.specs.Assigned.{assigned}
use Rattle.litmus.specs.Runs.{main, child, steps, times, last_assigned}
use Rattle.litmus.specs.HandOver as hand_over
use Rattle.litmus.specs.Selects as selects
use Rattle.litmus.specs.Closings as closings
use Rattle.litmus.specs.Calls as calls
use Rattle.litmus.specs.Limits as limits

-- the third call gives its parameter a value, and the assignment comes last
abbrev pub OfCalls : Type 0
OfCalls =
    (last_assigned calls.calling (times 12 main []) main (codes "n") ≡ Some 6)
    × (last_assigned calls.calling (times 12 main []) main (codes "x") ≡ Some 9)
    × (last_assigned calls.calling (times 12 main []) main (codes "f") ≡ None)

-- a call that is a fault gives none a value
abbrev pub OfDeepCalls : Type 0
OfDeepCalls =
    (assigned limits.program (limits.state_with main (limits.deep 999)) (steps main) ≡ codes "n" ∷ [])
    × (assigned limits.program (limits.state_with main (limits.deep 1000)) (steps main) ≡ [])

-- `go` gives the parameters of the child no value
abbrev pub OfChildren : Type 0
OfChildren =
    (last_assigned hand_over.program hand_over.receiver_first main (codes "c") ≡ Some 1)
    × (last_assigned hand_over.program hand_over.receiver_first (child 1) (codes "c") ≡ None)

-- a clause that receives and a turn of a range assign after the receive, but not at the end of the range
abbrev pub OfReceives : Type 0
OfReceives =
    (last_assigned selects.pairs selects.both_end (child 2) (codes "v") ≡ Some 8)
    × (last_assigned selects.pairs selects.both_end (child 1) (codes "v") ≡ None)
    × (last_assigned closings.ranging closings.in_turn main (codes "v") ≡ Some 11)
