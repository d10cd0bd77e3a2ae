-- What a change wrote it changed.
use Rattle.std.proofs.Common.{◌≡◌, ℕ, suc, ◌+◌, ◌-◌, ◌%◌, ◌<◌, Bool, true, false, ◌||◌, List, [], ◌∷◌, length, Option, Some, None, ap, sym, ◌∙◌, subst, arith, inl, inr, eqb-true}
use Rattle.std.proofs.lemmas.Bool.{cases_Bool, and_parts}
use Rattle.std.specs.Global.{Vec}
use Rattle.std.proofs.lemmas.List.Edits.{length-insert}
use Rattle.std.proofs.lemmas.Bool.Decides.{eqb_tells}
use Rattle.gr_base.specs.declared.values.Value.{Value}
use Rattle.gr_channels.specs.declared.waiter.Waiter.{Waiter}
use Rattle.gr_channels.specs.declared.changes.ChanUndo.{ChanUndo}
use Rattle.gr_channels.specs.declared.changes.ChanUndo.TheVariants.{Handed, Buffered, Took, Moved, Met, ParkedSender, ParkedReceiver, Withdrawn, Closed}
use Rattle.gr_channels.specs.Queues.{restored, PlacesFit}
use Rattle.gr_channels.specs.Channels.{Content, IsChannel}
use Rattle.gr_channels.specs.Changes.{undone, Fits, front}
use Rattle.gr_channels.specs.Objects.{GateContent, gate_of, slot_from, Part, Gate, Tail, Head, Slot, SameAt, is_gate, has_any, tail_slot, is_written}
use Rattle.gr_channels.proofs.Slots.{some_is_not_none, slot_before, slot_first, slot_found, slot_front_own, slot_last}
use Rattle.gr_channels.proofs.Undoing.{length_front, moved_empty}

-- lists of different lengths differ
shorter : {X : Type 0} → (xs ys : List X) → length xs < length ys → ys ≡ xs → ⊥
shorter xs ys less same = let lengths : length ys ≡ length xs = ap length same in omega arith

length_restored : {X : Type 0} → (rs : List (ℕ × Waiter X)) (ws : List (Waiter X)) → PlacesFit rs ws → length (restored rs ws) ≡ length rs + length ws
length_restored [] ws fits = omega arith
length_restored (r ∷ rs) ws fits = let rest = length_restored rs ws (fits.1) in omega (arith, length-insert (restored rs ws) r.0 r.1 (fits.0))

has_any_long : {X : Type 0} → (xs : List X) → has_any xs ≡ true → 0 < length xs
has_any_long [] e = cc
has_any_long (x ∷ xs) e = omega arith

or_parts : (a b : Bool) → (a || b) ≡ true → (a ≡ false) → b ≡ true
or_parts true b e f = cc
or_parts false b e f = e

more_senders : (x b : Content) → length b.senders < length x.senders → gate_of x ≡ gate_of b → ⊥
more_senders x b less same = shorter b.senders x.senders less (ap (λ (g : GateContent). g.senders) same)

fewer_senders : (x b : Content) → length x.senders < length b.senders → gate_of x ≡ gate_of b → ⊥
fewer_senders x b less same = shorter x.senders b.senders less (sym (ap (λ (g : GateContent). g.senders) same))

more_receivers : (x b : Content) → length b.receivers < length x.receivers → gate_of x ≡ gate_of b → ⊥
more_receivers x b less same = shorter b.receivers x.receivers less (ap (λ (g : GateContent). g.receivers) same)

fewer_receivers : (x b : Content) → length x.receivers < length b.receivers → gate_of x ≡ gate_of b → ⊥
fewer_receivers x b less same = shorter x.receivers b.receivers less (sym (ap (λ (g : GateContent). g.receivers) same))

buffered_changed : (b : Content) → IsChannel b → 0 < length b.items → (p : Part) → is_written Buffered (undone Buffered b) p ≡ true → SameAt p (undone Buffered b) b → ⊥
buffered_changed b valid some Gate e same = cc
buffered_changed b valid some Tail e same = omega (arith, length_front b.items some)
buffered_changed b valid some Head e same = cc
buffered_changed b valid some (Slot i) e same =
    let n = b.capacity in
    let own : (b.head + (length b.items - 1)) % n ≡ i = ap (λ k. (b.head + k) % n) (sym (length_front b.items some)) ∙ eqb-true _ i e in
    let held = slot_last n b.head b.items some (valid.within) in
    let empty : slot_from n i b.head (front b.items) ≡ None = subst (λ k. slot_from n k b.head (front b.items) ≡ None) own (slot_front_own n b.head b.items some (valid.within)) in
    some_is_not_none (sym (subst (λ k. slot_from n k b.head b.items ≡ Some (b.head + (length b.items - 1), held.0)) own (held.1)) ∙ sym same ∙ empty)

took_changed : (v : Value) (b : Content) → Fits (Took v) b → (p : Part) → is_written (Took v) (undone (Took v) b) p ≡ true → SameAt p (undone (Took v) b) b → ⊥
took_changed v b fits Gate e same = cc
took_changed v b fits Tail e same = cc
took_changed v b fits Head e same = omega (arith, fits.0)
took_changed v b fits (Slot i) e same =
    let n = b.capacity in
    let left : 0 < b.head = fits.0 in
    let before : b.head - 1 + 1 ≡ b.head = omega arith in
    let own : (b.head - 1) % n ≡ i = eqb-true _ i e in
    let empty : slot_from n i b.head b.items ≡ None = subst (λ k. slot_from n k b.head b.items ≡ None) own (subst (λ h. slot_from n ((b.head - 1) % n) h b.items ≡ None) before (slot_before n (b.head - 1) b.items (fits.1))) in
    some_is_not_none (sym (subst (λ k. slot_from n k (b.head - 1) (v ∷ b.items) ≡ Some (b.head - 1, v)) own (slot_first n (b.head - 1) v b.items)) ∙ same ∙ empty)

moved_changed : (item : Value) (go : List ℕ) (case : Option ℕ) (b : Content) → IsChannel b → Fits (Moved item go case) b
    → (p : Part) → is_written (Moved item go case) (undone (Moved item go case) b) p ≡ true → SameAt p (undone (Moved item go case) b) b → ⊥
moved_changed item go case b valid fits Gate e same = more_senders (undone (Moved item go case) b) b (omega arith) same
moved_changed item go case b valid fits Tail e same = omega (arith, fits.0, length_front b.items (fits.1))
moved_changed item go case b valid fits Head e same = omega (arith, fits.0)
moved_changed item go case b valid fits (Slot i) e same =
    let n = b.capacity in
    let left : 0 < b.head = fits.0 in
    let some : 0 < length b.items = fits.1 in
    elim (eqb_tells ((b.head - 1) % n) i) [
      | inl h ↦
          let first : slot_from n i (b.head - 1) (item ∷ front b.items) ≡ Some (b.head - 1, item) =
          subst (λ k. slot_from n k (b.head - 1) (item ∷ front b.items) ≡ Some (b.head - 1, item)) (h.1) (slot_first n (b.head - 1) item (front b.items)) in
          let found = slot_found n i b.head b.items (b.head - 1) item (sym same ∙ first) in
          omega (arith, found.0)
      | inr h ↦
          let tail : tail_slot (undone (Moved item go case) b) ≡ i = eqb-true _ i (rw (h.0) at e) in
          let number : b.head + (length b.items - 1) ≡ b.head - 1 + suc (length (front b.items)) = omega (arith, length_front b.items some) in
          let own : (b.head + (length b.items - 1)) % n ≡ i = ap (λ k. k % n) number ∙ tail in
          let held = slot_last n b.head b.items some (valid.within) in
          some_is_not_none (sym (subst (λ k. slot_from n k b.head b.items ≡ Some (b.head + (length b.items - 1), held.0)) own (held.1)) ∙ sym same ∙ moved_empty n i b.head item b.items left some (valid.within) (h.1) own)
    ]

withdrawn_changed : (s : Vec (ℕ × Waiter Value)) (r : Vec (ℕ × Waiter (Unit {0}))) (b : Content) → Fits (Withdrawn s r) b → (has_any s.items || has_any r.items) ≡ true → gate_of (undone (Withdrawn s r) b) ≡ gate_of b → ⊥
withdrawn_changed s r b fits some same =
    elim (cases_Bool (has_any s.items)) [
      | inl h ↦ more_senders (undone (Withdrawn s r) b) b (omega (arith, length_restored s.items b.senders (fits.0), has_any_long s.items h)) same
      | inr h ↦ more_receivers (undone (Withdrawn s r) b) b (omega (arith, length_restored r.items b.receivers (fits.1), has_any_long r.items (or_parts _ _ some h))) same
    ]

-- what a change that wrote the gate alone wrote is the gate
the_gate : (u : ChanUndo) (b : Content) → ((p : Part) → is_written u (undone u b) p ≡ true → is_gate p ≡ true) → (gate_of (undone u b) ≡ gate_of b → ⊥)
    → (p : Part) → is_written u (undone u b) p ≡ true → SameAt p (undone u b) b → ⊥
the_gate u b writes changed Gate e same = changed same
the_gate u b writes changed Tail e same = let no : false ≡ true = writes Tail e in cc
the_gate u b writes changed Head e same = let no : false ≡ true = writes Head e in cc
the_gate u b writes changed (Slot i) e same = let no : false ≡ true = writes (Slot i) e in cc

-- the objects that a change wrote differ before and after it
written_changed : (u : ChanUndo) (b : Content) → IsChannel b → Fits u b → (p : Part) → is_written u (undone u b) p ≡ true → SameAt p (undone u b) b → ⊥
written_changed (Handed w) b valid fits p e same = the_gate (Handed w) b (λ q h. h) (more_receivers (undone (Handed w) b) b (omega arith)) p e same
written_changed Buffered b valid fits p e same = buffered_changed b valid fits p e same
written_changed (Took v) b valid fits p e same = took_changed v b fits p e same
written_changed (Moved item go case) b valid fits p e same = moved_changed item go case b valid fits p e same
written_changed (Met w) b valid fits p e same = the_gate (Met w) b (λ q h. h) (more_senders (undone (Met w) b) b (omega arith)) p e same
written_changed ParkedSender b valid fits p e same =
    the_gate ParkedSender b (λ q h. h) (fewer_senders (undone ParkedSender b) b (omega (arith, fits, length_front b.senders fits))) p e same
written_changed ParkedReceiver b valid fits p e same =
    the_gate ParkedReceiver b (λ q h. h) (fewer_receivers (undone ParkedReceiver b) b (omega (arith, fits, length_front b.receivers fits))) p e same
written_changed (Withdrawn s r) b valid fits p e same =
    the_gate (Withdrawn s r) b (λ q h. (and_parts _ _ h).0) (λ g. withdrawn_changed s r b fits ((and_parts _ _ e).1) g) p e same
written_changed (Closed s r) b valid fits p e same =
    the_gate (Closed s r) b (λ q h. h) (λ g. let no : false ≡ true = ap (λ (x : GateContent). x.closed) g ∙ fits.0 in cc) p e same

pub changes : (u : ChanUndo) (a b : Content) → IsChannel b → undone u b ≡ a → Fits u b → (p : Part) → is_written u a p ≡ true → SameAt p a b → ⊥
changes u a b valid back fits p = subst (λ x. is_written u x p ≡ true → SameAt p x b → ⊥) back (written_changed u b valid fits p)
