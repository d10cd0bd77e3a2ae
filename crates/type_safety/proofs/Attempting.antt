-- What attempts at steps come to in a state whose values have sorts: refusals of some kinds, or cells whose values have sorts.
use Rattle.std.proofs.Common.{◌≡◌, ℕ, ◌+◌, List, [], ◌∷◌, ◌++◌, Some, None}
use Rattle.std.specs.List.{AllByRecursion}
use Rattle.gr_base.specs.declared.names.ChName.{ChName}
use Rattle.gr_base.specs.declared.values.Value.{Value}
use Rattle.gr_causal.specs.Sequences.{In}
use Rattle.gr_channels.specs.declared.waiter.Waiter.{Waiter}
use Rattle.gr_channels.specs.Objects.{GateContent}
use Rattle.gr_typing.specs.Scopes.{Signature}
use Rattle.gr_rules.specs.Operators.{same_channel}
use Rattle.gr_rules.specs.Goroutines.{Goroutine}
use Rattle.gr_rules.specs.States.{Cell, run_has, go_has, gate_has, tail_has, head_has, slot_has, State, look, updated}
use Rattle.gr_rules.specs.Attempts.{Refusal, Attempt, refuse, perform, ask}
use Rattle.type_safety.proofs.Sorts.{Sort, Made, HasSort}
use Rattle.type_safety.proofs.Running.{SortedGoroutine}

-- what may be written over a state: a goroutine that is there, with as many children; a gate of a channel that was made
abbrev pub SortedCell : List Signature → Made → State → Cell → Type 0
SortedCell fs made s (run_has r) = Unit {0}
SortedCell fs made s (go_has n None) = ⊥
SortedCell fs made s (go_has n (Some g)) =
    SortedGoroutine fs made g × (h : Goroutine) × (s.goroutines n ≡ Some h) × (g.children ≡ h.children)
SortedCell fs made s (gate_has c None) = ⊥
SortedCell fs made s (gate_has c (Some gate)) =
    (k : Sort) × (made c ≡ Some k) × ((w : Waiter Value) → In w gate.senders → HasSort made w.value k)
SortedCell fs made s (tail_has c n) = Unit {0}
SortedCell fs made s (head_has c n) = Unit {0}
SortedCell fs made s (slot_has c i None) = Unit {0}
SortedCell fs made s (slot_has c i (Some item)) = (k : Sort) → made c ≡ Some k → HasSort made item.1 k

-- one more channel
abbrev pub with_channel : Made → ChName → Sort → Made
with_channel made c k = updated same_channel made c (Some k)

-- what a step writes
pub data SortedCells (fs : List Signature) (made : Made) (s : State) : List Cell → Type 0 where
  plain : {cells : List Cell} → AllByRecursion (SortedCell fs made s) cells → SortedCells fs made s cells
  makes : {n : List ℕ} {g h : Goroutine} {c : ChName} {gate : GateContent} {k : Sort}
      → made c ≡ None
      → SortedGoroutine fs (with_channel made c k) g
      → s.goroutines n ≡ Some h
      → g.children ≡ h.children
      → gate.senders ≡ []
      → SortedCells fs made s (go_has n (Some g) ∷ gate_has c (Some gate) ∷ [])
  starts : {n : List ℕ} {g h child : Goroutine}
      → SortedGoroutine fs made g
      → s.goroutines n ≡ Some h
      → g.children ≡ h.children + 1
      → SortedGoroutine fs made child
      → child.children ≡ 0
      → SortedCells fs made s (go_has n (Some g) ∷ go_has (n ++ g.children ∷ []) (Some child) ∷ [])

-- it ends in one of these refusals, or writes such cells
abbrev pub Fine : (Refusal → Type 0) → List Signature → Made → State → Attempt → Type 0
Fine P fs made s (refuse r) = P r
Fine P fs made s (perform report cells) = SortedCells fs made s cells
Fine P fs made s (ask o f) = Fine P fs made s (f (look s o))
