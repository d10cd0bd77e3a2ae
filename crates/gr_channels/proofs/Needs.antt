-- Why a change may find no memory.
use Rattle.std.proofs.Common.{◌≡◌, ◌<◌, List, [], ◌∷◌, Some, true, false, true≢false, length, refl, sym, subst, arith}
use Rattle.std.specs.Prelude.{slice_index_or}
use Rattle.gr_base.specs.declared.values.Value.{Value}
use Rattle.gr_base.specs.Values.{IsNamed}
use Rattle.gr_channels.specs.declared.waiter.Waiter.{Waiter}
use Rattle.gr_channels.specs.Changes.{next_value}

-- where the buffer is empty, the first waiting sender's value is next
pub next_sent : (items : List Value) (senders : List (Waiter Value)) (w : Waiter Value) → (0 < length items → false ≡ true) → 0 < length senders → w ≡ slice_index_or senders 0 w → IsNamed w.value → (v : Value) × (next_value items senders ≡ Some v) × IsNamed v
next_sent [] (u ∷ senders) w empty some first named = (u.value, refl, subst (λ (x : Waiter Value). IsNamed x.value) first named)
next_sent [] [] w empty some first named = absurd (omega arith)
next_sent (i ∷ items) senders w empty some first named = absurd (true≢false (sym (empty (omega arith))))
