-- Steps at the limits: sizes of channels, frames of a goroutine, counts in a name, and how many children and channels a
-- goroutine has.
use Rattle.std.specs.Prelude.{◌≡◌, ℕ, ◌-◌, ◌^◌, ℤ, pos, negsuc, List, [], ◌∷◌, replicate, Option, Some, None, option_map, codes}
use Rattle.gr_base.specs.declared.values.Value.TheVariants.{Int}
use Rattle.gr_base.specs.declared.kinds.Fault.TheVariants.{BadSize, CallDepth, NameDepth, NameCount}
use Rattle.gr_base.specs.declared.kinds.Kind.{Kind}
use Rattle.gr_base.specs.declared.kinds.Kind.TheVariants.{Pure, Call, Go, Make, Fault}
use Rattle.gr_program.specs.Types.{IntType}
use Rattle.gr_program.specs.Programs.{Number, Literally, Named, Function, Program, ProgramIs}
use Rattle.gr_program.specs.Programs as term
use Rattle.gr_rules.specs.Outcomes.{gives}
use Rattle.gr_rules.specs.Frames.{called}
use Rattle.gr_rules.specs.Goroutines.{Goroutine, started}
use Rattle.gr_rules.specs.States as states
use Rattle.gr_rules.specs.States.{State, go_has, put}
use Rattle.gr_rules.specs.Attempts.{kind_of}
use Rattle.gr_rules.specs.Steps.{machine}
use Rattle.litmus.specs.Words.{int_channel, local, number, terms, set, start, run, function}
use Rattle.litmus.specs.Runs.{main, steps, times, kinds}

-- n := size; c := make(chan int, n)
abbrev pub sized : ℤ → Program
sized size = ProgramIs (function (codes "main") [] None (Named (codes "n") IntType ∷ Named (codes "c") int_channel ∷ [])
    (set 3 0 (Literally (Number size)) ∷ set 4 1 (term.MakeSized (local 0)) ∷ []) 5 ∷ []) 0

abbrev pub Sizes : Type 0
Sizes =
    (kinds (sized (negsuc 0)) (times 2 main []) ≡ Pure ∷ Fault BadSize ∷ [])
    × (kinds (sized (pos 1000001)) (times 2 main []) ≡ Pure ∷ Fault BadSize ∷ [])
    × (kinds (sized (pos 1000000)) (times 2 main []) ≡ Pure ∷ Make ∷ [])

-- func again(n int) { again(n) }
abbrev pub again : Function
again = function (codes "again") (Named (codes "n") IntType ∷ []) None [] (run 2 (term.Call 0 (terms (local 0 ∷ []))) ∷ []) 2

-- func begin() { go again(1) }
abbrev pub begin : Function
begin = function (codes "begin") [] None [] (start 3 0 (number 1 ∷ []) ∷ []) 3

-- func hold(n int) { c := make(chan int, n) }
abbrev pub hold : Function
hold = function (codes "hold") (Named (codes "n") IntType ∷ []) None (Named (codes "c") int_channel ∷ []) (set 4 1 (term.MakeSized (local 0)) ∷ []) 4

abbrev pub program : Program
program = ProgramIs (again ∷ begin ∷ hold ∷ []) 0

-- a state with such a goroutine of this name, and the kind of its step
abbrev pub state_with : List ℕ → Option Goroutine → State
state_with name g = put (states.start program) (go_has name g)

abbrev pub kind_from : List ℕ → Option Goroutine → Option Kind
kind_from name g = option_map (λ r. kind_of r.1.kind) ((machine program).step (state_with name g) (steps name))

-- a goroutine this deep in calls of `again`
abbrev pub deep : ℕ → Option Goroutine
deep n = elim (called 0 (Int (pos 5) ∷ []) again) [ gives f ↦ Some (record (started f) { frames = replicate n f }) | _ ↦ None ]

abbrev pub Depths : Type 0
Depths = (kind_from main (deep 999) ≡ Some Call) × (kind_from main (deep 1000) ≡ Some (Fault CallDepth))

-- a goroutine that has started this many goroutines, and one that has made this many channels
abbrev pub parent_of : ℕ → Option Goroutine
parent_of n = elim (called 1 [] begin) [ gives f ↦ Some (record (started f) { children = n }) | _ ↦ None ]

abbrev pub maker_of : ℕ → ℤ → Option Goroutine
maker_of n size = elim (called 2 (Int size ∷ []) hold) [ gives f ↦ Some (record (started f) { channels = n }) | _ ↦ None ]

-- a goroutine of the n-th generation after `main`, each the first child of its parent
abbrev pub generation : ℕ → List ℕ
generation n = replicate n 1

-- the depth of the name comes before the count, and a size before it
abbrev pub Counts : Type 0
Counts =
    (kind_from (generation 31) (parent_of 0) ≡ Some Go)
    × (kind_from (generation 32) (parent_of 0) ≡ Some (Fault NameDepth))
    × (kind_from main (parent_of (2 ^ 32 - 2)) ≡ Some Go)
    × (kind_from main (parent_of (2 ^ 32 - 1)) ≡ Some (Fault NameCount))
    × (kind_from (generation 32) (parent_of (2 ^ 32 - 1)) ≡ Some (Fault NameDepth))
    × (kind_from main (maker_of (2 ^ 32 - 2) (pos 1)) ≡ Some Make)
    × (kind_from main (maker_of (2 ^ 32 - 1) (pos 1)) ≡ Some (Fault NameCount))
    × (kind_from main (maker_of (2 ^ 32 - 1) (negsuc 0)) ≡ Some (Fault BadSize))
