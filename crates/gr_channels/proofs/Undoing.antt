-- A change is taken back wherever what it wrote stands.
use Rattle.std.proofs.Common.{◌≡◌, ◌⊎◌, ℕ, suc, ◌+◌, ◌-◌, ◌%◌, ◌<◌, ◌≤◌, ◌==◌, Bool, true, false, ◌&&◌, ◌||◌, List, [], ◌∷◌, length, Option, Some, None, refl, ap, sym, ◌∙◌, subst, arith, inl, inr, eqb-true, eq-eqb, lt_of_le_of_lt}
use Rattle.std.proofs.Math.Bool.{or-true, and-true, and-false}
use Rattle.std.proofs.lemmas.Bool.{eqb-false}
use Rattle.std.specs.Prelude.{slice_get, ◌^◌}
use Rattle.std.specs.Global.{Vec}
use Rattle.std.proofs.lemmas.Option.{slice_get_within}
use Rattle.std.proofs.lemmas.Bool.Decides.{eqb_tells}
use Rattle.gr_base.specs.declared.values.Value.{Value}
use Rattle.gr_channels.specs.declared.waiter.Waiter.{Waiter}
use Rattle.gr_channels.specs.declared.changes.ChanUndo.{ChanUndo}
use Rattle.gr_channels.specs.declared.changes.ChanUndo.TheVariants.{Handed, Buffered, Took, Moved, Met, ParkedSender, ParkedReceiver, Withdrawn, Closed}
use Rattle.gr_channels.specs.Queues.{restored, PlacesFit}
use Rattle.gr_channels.specs.Channels.{Content, IsChannel, tail_of}
use Rattle.gr_channels.specs.Changes.{undone, Fits, front, last_or}
use Rattle.gr_channels.specs.Objects.{GateContent, gate_of, head_of, slot_from, slot_of, Part, Gate, Tail, Head, Slot, SameAt, is_gate, has_any, tail_slot, is_written, Changes, TakesBack}
use Rattle.gr_channels.proofs.Slots.{slot_before, slot_first, slot_rest, slot_found, slot_front, slot_front_own, slot_last, slot_full, front_last, some_inside}

-- a content with another gate
abbrev pub put_gate : Content → GateContent → Content
put_gate c g = record { capacity = g.capacity; closed = g.closed; senders = g.senders; receivers = g.receivers; head = c.head; items = c.items }

-- a content with another capacity
abbrev pub with_capacity : ℕ → Content → Content
with_capacity n c = record { capacity = n; closed = c.closed; senders = c.senders; receivers = c.receivers; head = c.head; items = c.items }

pub same_self : (p : Part) (c : Content) → SameAt p c c
same_self Gate c = refl
same_self Tail c = refl
same_self Head c = refl
same_self (Slot i) c = refl

gate_written : (u : ChanUndo) (f : GateContent → GateContent) (b c : Content)
    → ((x : Content) → undone u x ≡ put_gate x (f (gate_of x))) → ((p : Part) → is_written u (undone u b) p ≡ is_gate p) → gate_of c ≡ gate_of b
    → (p : Part) → is_written u (undone u b) p ≡ true → SameAt p (undone u c) (undone u b)
gate_written u f b c does writes same Gate e = ap gate_of (does c) ∙ ap f same ∙ sym (ap gate_of (does b))
gate_written u f b c does writes same Tail e = let no : false ≡ true = sym (writes Tail) ∙ e in cc
gate_written u f b c does writes same Head e = let no : false ≡ true = sym (writes Head) ∙ e in cc
gate_written u f b c does writes same (Slot i) e = let no : false ≡ true = sym (writes (Slot i)) ∙ e in cc

gate_kept : (u : ChanUndo) (f : GateContent → GateContent) (b c : Content)
    → ((x : Content) → undone u x ≡ put_gate x (f (gate_of x))) → ((g : GateContent) → (f g).capacity ≡ g.capacity) → ((p : Part) → is_written u (undone u b) p ≡ is_gate p)
    → (p : Part) → is_written u (undone u b) p ≡ false → SameAt p (undone u c) c
gate_kept u f b c does keeps writes Gate e = let no : true ≡ false = sym (writes Gate) ∙ e in cc
gate_kept u f b c does keeps writes Tail e = ap tail_of (does c)
gate_kept u f b c does keeps writes Head e = ap head_of (does c)
gate_kept u f b c does keeps writes (Slot i) e = ap (λ (x : Content). slot_of x i) (does c) ∙ ap (λ n. slot_from n i c.head c.items) (keeps (gate_of c))

-- a change that wrote the gate alone, where taking it back makes f of the gate
gate_taken_back : (u : ChanUndo) (f : GateContent → GateContent) (b c : Content)
    → ((x : Content) → undone u x ≡ put_gate x (f (gate_of x))) → ((g : GateContent) → (f g).capacity ≡ g.capacity) → ((p : Part) → is_written u (undone u b) p ≡ is_gate p)
    → IsChannel c → Fits u c → gate_of c ≡ gate_of b → TakesBack u (undone u b) c
gate_taken_back u f b c does keeps writes valid fits same = record {
  fits = fits;
  valid = subst IsChannel (sym (does c)) (record { within = subst (λ n. length c.items ≤ n) (sym (keeps (gate_of c))) (valid.within); counted = valid.counted });
  written = gate_written u f b c does writes same;
  kept = gate_kept u f b c does keeps writes;
}

-- a change that wrote nothing
none_taken_back : (u : ChanUndo) (b c : Content)
    → ((x : Content) → undone u x ≡ x) → ((p : Part) → is_written u (undone u b) p ≡ false) → IsChannel c → Fits u c → TakesBack u (undone u b) c
none_taken_back u b c does writes valid fits = record {
  fits = fits;
  valid = subst IsChannel (sym (does c)) valid;
  written = λ p e. let no : false ≡ true = sym (writes p) ∙ e in cc;
  kept = λ p e. subst (λ x. SameAt p x c) (sym (does c)) (same_self p c);
}

none_or_some : {X : Type 0} → (xs : List X) → (xs ≡ []) ⊎ (has_any xs ≡ true)
none_or_some [] = inl refl
none_or_some (x ∷ xs) = inr refl

or_false : (a b : Bool) → (a || b) ≡ false → (a ≡ false) × (b ≡ false)
or_false true b e = cc
or_false false b e = (refl, e)

somebody_back : (s : Vec (ℕ × Waiter Value)) (r : Vec (ℕ × Waiter (Unit {0}))) (b c : Content) → Fits (Withdrawn s r) b → IsChannel c → (has_any s.items || has_any r.items) ≡ true
    → ((p : Part) → is_written (Withdrawn s r) (undone (Withdrawn s r) b) p ≡ true → SameAt p c b) → TakesBack (Withdrawn s r) (undone (Withdrawn s r) b) c
somebody_back s r b c fits valid some same =
    let gate : gate_of c ≡ gate_of b = same Gate some in
    let P : GateContent → Type 0 = λ g. PlacesFit s.items g.senders × PlacesFit r.items g.receivers in
    gate_taken_back (Withdrawn s r) (λ g. record g { senders = restored s.items g.senders; receivers = restored r.items g.receivers }) b c (λ x. refl) (λ g. refl)
    (λ p. ap (λ x. is_gate p && x) some ∙ and-true (is_gate p)) valid (subst P (sym gate) fits) gate

nobody_back : (s : Vec (ℕ × Waiter Value)) (r : Vec (ℕ × Waiter (Unit {0}))) (b c : Content) → IsChannel c → s.items ≡ [] → r.items ≡ [] → TakesBack (Withdrawn s r) (undone (Withdrawn s r) b) c
nobody_back s r b c valid es er =
    let none : (has_any s.items || has_any r.items) ≡ false = rw (es, er) refl in
    none_taken_back (Withdrawn s r) b c (λ x. λ i. record x { senders = restored (es i) x.senders; receivers = restored (er i) x.receivers })
    (λ p. ap (λ x. is_gate p && x) none ∙ and-false (is_gate p)) valid
    (subst (λ xs. PlacesFit xs c.senders) (sym es) tt, subst (λ xs. PlacesFit xs c.receivers) (sym er) tt)

-- the undo of a withdrawal
withdrawn_back : (s : Vec (ℕ × Waiter Value)) (r : Vec (ℕ × Waiter (Unit {0}))) (b c : Content) → Fits (Withdrawn s r) b → IsChannel c
    → ((p : Part) → is_written (Withdrawn s r) (undone (Withdrawn s r) b) p ≡ true → SameAt p c b) → TakesBack (Withdrawn s r) (undone (Withdrawn s r) b) c
withdrawn_back s r b c fits valid same =
    elim (none_or_some s.items) [
      | inr h ↦ somebody_back s r b c fits valid (ap (λ x. x || has_any r.items) h) same
      | inl es ↦ elim (none_or_some r.items) [
        | inr h ↦ somebody_back s r b c fits valid (ap (λ x. has_any s.items || x) h ∙ or-true (has_any s.items)) same
        | inl er ↦ nobody_back s r b c valid es er
      ]
    ]

closed_back : (s : Vec (ℕ × Waiter Value)) (r : Vec (ℕ × Waiter (Unit {0}))) (b c : Content) → Fits (Closed s r) b → IsChannel c
    → ((p : Part) → is_written (Closed s r) (undone (Closed s r) b) p ≡ true → SameAt p c b) → TakesBack (Closed s r) (undone (Closed s r) b) c
closed_back s r b c fits valid same =
    let gate : gate_of c ≡ gate_of b = same Gate refl in
    let P : GateContent → Type 0 = λ g. (g.closed ≡ true) × PlacesFit s.items g.senders × PlacesFit r.items g.receivers in
    gate_taken_back (Closed s r) (λ g. record g { closed = false; senders = restored s.items g.senders; receivers = restored r.items g.receivers }) b c (λ x. refl) (λ g. refl)
    (λ p. refl) valid (subst P (sym gate) fits) gate

-- what entered last stands: there is an item, and it is the last one
entered_stands : {X : Type 0} → (n h k : ℕ) (ys zs : List X) → 0 < length ys → length ys ≤ n → k + length zs ≡ h + length ys
    → slot_from n ((h + (length ys - 1)) % n) k zs ≡ slot_from n ((h + (length ys - 1)) % n) h ys → (0 < length zs) × ((d : X) → last_or zs d ≡ last_or ys d)
entered_stands {X = X} n h k ys zs some most tails same =
    let held = slot_last n h ys some most in
    let found = slot_found n _ k zs (h + (length ys - 1)) (held.0) (same ∙ held.1) in
    let within : h + (length ys - 1) - k < length zs = slice_get_within zs _ _ (found.1) in
    let there : 0 < length zs = omega arith in
    let parts = front_last zs there in
    let place : h + (length ys - 1) - k ≡ length zs - 1 = omega (arith, found.0) in
    let one : Some (held.0) ≡ Some (parts.0) = sym (found.1) ∙ ap (slice_get zs) place ∙ parts.2 in
    let value : held.0 ≡ parts.0 = some_inside one in
    (there, λ d. parts.3 d ∙ sym value ∙ sym (held.2 d))

pub length_front : {X : Type 0} → (xs : List X) → 0 < length xs → length (front xs) ≡ length xs - 1
length_front xs some = omega (arith, (front_last xs some).4)

buffered_written : (b c : Content) → c.head + length (front c.items) ≡ b.head + length (front b.items)
    → slot_from b.capacity (tail_slot (undone Buffered b)) c.head (front c.items) ≡ slot_from b.capacity (tail_slot (undone Buffered b)) b.head (front b.items)
    → (p : Part) → is_written Buffered (undone Buffered b) p ≡ true → SameAt p (undone Buffered (with_capacity b.capacity c)) (undone Buffered b)
buffered_written b c tails slots Gate e = cc
buffered_written b c tails slots Tail e = tails
buffered_written b c tails slots Head e = cc
buffered_written b c tails slots (Slot i) e =
    subst (λ k. slot_from b.capacity k c.head (front c.items) ≡ slot_from b.capacity k b.head (front b.items)) (eqb-true (tail_slot (undone Buffered b)) i e) slots

buffered_kept : (b c : Content) → 0 < length c.items → (c.head + (length c.items - 1)) % b.capacity ≡ tail_slot (undone Buffered b)
    → (p : Part) → is_written Buffered (undone Buffered b) p ≡ false → SameAt p (undone Buffered (with_capacity b.capacity c)) (with_capacity b.capacity c)
buffered_kept b c there own Gate e = refl
buffered_kept b c there own Tail e = cc
buffered_kept b c there own Head e = refl
buffered_kept b c there own (Slot i) e = slot_front b.capacity i c.head c.items there (λ h. eqb-false (tail_slot (undone Buffered b)) i e (sym own ∙ h))

-- the undo of a value that entered the buffer
buffered_back : (b c0 : Content) → IsChannel b → 0 < length b.items → IsChannel (with_capacity b.capacity c0)
    → ((p : Part) → is_written Buffered (undone Buffered b) p ≡ true → SameAt p (with_capacity b.capacity c0) b) → TakesBack Buffered (undone Buffered b) (with_capacity b.capacity c0)
buffered_back b c0 vb some vc same =
    let n = b.capacity in
    let s = tail_slot (undone Buffered b) in
    let own : s ≡ (b.head + (length b.items - 1)) % n = ap (λ k. (b.head + k) % n) (length_front b.items some) in
    let tails : c0.head + length c0.items ≡ b.head + length b.items = same Tail refl in
    let slots : slot_from n s c0.head c0.items ≡ slot_from n s b.head b.items = same (Slot s) (eq-eqb s s refl) in
    let stands = entered_stands n b.head c0.head b.items c0.items some (vb.within) tails (subst (λ k. slot_from n k c0.head c0.items ≡ slot_from n k b.head b.items) own slots) in
    let there : 0 < length c0.items = stands.0 in
    let number : c0.head + (length c0.items - 1) ≡ b.head + (length b.items - 1) = omega arith in
    let own_c : (c0.head + (length c0.items - 1)) % n ≡ s = ap (λ k. k % n) number ∙ sym own in
    let empty_b : slot_from n s b.head (front b.items) ≡ None = subst (λ k. slot_from n k b.head (front b.items) ≡ None) (sym own) (slot_front_own n b.head b.items some (vb.within)) in
    let empty_c : slot_from n s c0.head (front c0.items) ≡ None = subst (λ k. slot_from n k c0.head (front c0.items) ≡ None) own_c (slot_front_own n c0.head c0.items there (vc.within)) in
    let shorter : length (front c0.items) ≡ length c0.items - 1 = length_front c0.items there in
    let shorter_b : length (front b.items) ≡ length b.items - 1 = length_front b.items some in
    record {
      fits = there;
      valid = record { within = omega (arith, vc.within); counted = lt_of_le_of_lt (omega arith) (vc.counted) };
      written = buffered_written b c0 (omega arith) (empty_c ∙ sym empty_b);
      kept = buffered_kept b c0 there own_c;
    }

took_written : (v : Value) (b c : Content) → c.head ≡ b.head → (p : Part) → is_written (Took v) (undone (Took v) b) p ≡ true → SameAt p (undone (Took v) (with_capacity b.capacity c)) (undone (Took v) b)
took_written v b c heads Gate e = cc
took_written v b c heads Tail e = cc
took_written v b c heads Head e = ap (λ k. k - 1) heads
took_written v b c heads (Slot i) e =
    let own : (b.head - 1) % b.capacity ≡ i = eqb-true _ i e in
    subst (λ k. slot_from b.capacity k (c.head - 1) (v ∷ c.items) ≡ slot_from b.capacity k (b.head - 1) (v ∷ b.items)) own
    (subst (λ h. slot_from b.capacity ((b.head - 1) % b.capacity) (h - 1) (v ∷ c.items) ≡ slot_from b.capacity ((b.head - 1) % b.capacity) (b.head - 1) (v ∷ b.items)) (sym heads)
    (slot_first b.capacity (b.head - 1) v c.items ∙ sym (slot_first b.capacity (b.head - 1) v b.items)))

took_kept : (v : Value) (b c : Content) → 0 < b.head → c.head ≡ b.head → (p : Part) → is_written (Took v) (undone (Took v) b) p ≡ false → SameAt p (undone (Took v) (with_capacity b.capacity c)) (with_capacity b.capacity c)
took_kept v b c some heads Gate e = refl
took_kept v b c some heads Tail e = omega arith
took_kept v b c some heads Head e = cc
took_kept v b c some heads (Slot i) e =
    let before : c.head - 1 + 1 ≡ c.head = omega arith in
    slot_rest b.capacity i (c.head - 1) v c.items (λ h. eqb-false _ i e (ap (λ k. (k - 1) % b.capacity) (sym heads) ∙ h)) ∙ ap (λ k. slot_from b.capacity i k c.items) before

-- the undo of a value that left the buffer
took_back : (v : Value) (b c0 : Content) → Fits (Took v) b → IsChannel (with_capacity b.capacity c0)
    → ((p : Part) → is_written (Took v) (undone (Took v) b) p ≡ true → SameAt p (with_capacity b.capacity c0) b) → TakesBack (Took v) (undone (Took v) b) (with_capacity b.capacity c0)
took_back v b c0 fits vc same =
    let n = b.capacity in
    let s = (b.head - 1) % n in
    let some : 0 < b.head = fits.0 in
    let room : length b.items < n = fits.1 in
    let heads : c0.head ≡ b.head = same Head refl in
    let slots : slot_from n s c0.head c0.items ≡ slot_from n s b.head b.items = same (Slot s) (eq-eqb s s refl) in
    let before : b.head - 1 + 1 ≡ b.head = omega arith in
    let empty_b : slot_from n s b.head b.items ≡ None = subst (λ k. slot_from n s k b.items ≡ None) before (slot_before n (b.head - 1) b.items room) in
    let empty_c : slot_from n s (b.head - 1 + 1) c0.items ≡ None = subst (λ k. slot_from n s k c0.items ≡ None) (heads ∙ sym before) (slots ∙ empty_b) in
    let room_c : length c0.items < n = slot_full n (b.head - 1) c0.items (vc.within) (omega arith) empty_c in
    let tails : c0.head - 1 + suc (length c0.items) ≡ c0.head + length c0.items = omega arith in
    record {
      fits = (omega arith, room_c);
      valid = record { within = omega arith; counted = subst (λ k. k < 2 ^ 64) (sym tails) (vc.counted) };
      written = took_written v b c0 heads;
      kept = took_kept v b c0 some heads;
    }

pub moved_empty : {X : Type 0} → (n i h : ℕ) (x : X) (xs : List X) → 0 < h → 0 < length xs → length xs ≤ n → ((h - 1) % n ≡ i → ⊥) → (h + (length xs - 1)) % n ≡ i → slot_from n i (h - 1) (x ∷ front xs) ≡ None
moved_empty n i h x xs left some most other own =
    let before : h - 1 + 1 ≡ h = omega arith in
    slot_rest n i (h - 1) x (front xs) other ∙ ap (λ k. slot_from n i k (front xs)) before ∙ subst (λ k. slot_from n k h (front xs) ≡ None) own (slot_front_own n h xs some most)

moved_other : {X : Type 0} → (n i h : ℕ) (x : X) (xs : List X) → 0 < h → 0 < length xs → ((h - 1) % n ≡ i → ⊥) → ((h + (length xs - 1)) % n ≡ i → ⊥) → slot_from n i (h - 1) (x ∷ front xs) ≡ slot_from n i h xs
moved_other n i h x xs left some other own =
    let before : h - 1 + 1 ≡ h = omega arith in
    slot_rest n i (h - 1) x (front xs) other ∙ ap (λ k. slot_from n i k (front xs)) before ∙ slot_front n i h xs some own

moved_first : {X : Type 0} → (n i h k : ℕ) (x : X) (xs ys : List X) → k ≡ h → (h - 1) % n ≡ i → slot_from n i (k - 1) (x ∷ xs) ≡ slot_from n i (h - 1) (x ∷ ys)
moved_first n i h k x xs ys heads own =
    subst (λ j. slot_from n j (k - 1) (x ∷ xs) ≡ slot_from n j (h - 1) (x ∷ ys)) own
    (subst (λ j. slot_from n ((h - 1) % n) (j - 1) (x ∷ xs) ≡ slot_from n ((h - 1) % n) (h - 1) (x ∷ ys)) (sym heads)
    (slot_first n (h - 1) x xs ∙ sym (slot_first n (h - 1) x ys)))

moved_written : (item : Value) (go : List ℕ) (case : Option ℕ) (b c : Content) → 0 < length b.items → 0 < length c.items → length b.items ≤ b.capacity → length c.items ≤ b.capacity → 0 < b.head
    → gate_of (with_capacity b.capacity c) ≡ gate_of b → c.head ≡ b.head → length c.items ≡ length b.items → last_or c.items item ≡ last_or b.items item
    → (p : Part) → is_written (Moved item go case) (undone (Moved item go case) b) p ≡ true → SameAt p (undone (Moved item go case) (with_capacity b.capacity c)) (undone (Moved item go case) b)
moved_written item go case b c some_b some_c most_b most_c left gate heads longs last Gate e =
    λ j. record { capacity = (gate j).capacity; closed = (gate j).closed; senders = record { go = go; case = case; value = last j } ∷ (gate j).senders; receivers = (gate j).receivers }
moved_written item go case b c some_b some_c most_b most_c left gate heads longs last Tail e = omega (arith, length_front c.items some_c, length_front b.items some_b)
moved_written item go case b c some_b some_c most_b most_c left gate heads longs last Head e = ap (λ k. k - 1) heads
moved_written item go case b c some_b some_c most_b most_c left gate heads longs last (Slot i) e =
    let n = b.capacity in
    elim (eqb_tells ((b.head - 1) % n) i) [
      | inl h ↦ moved_first n i b.head c.head item (front c.items) (front b.items) heads (h.1)
      | inr h ↦
          let tail : tail_slot (undone (Moved item go case) b) ≡ i = eqb-true _ i (rw (h.0) at e) in
          let number_b : b.head + (length b.items - 1) ≡ b.head - 1 + suc (length (front b.items)) = omega (arith, length_front b.items some_b) in
          let number_c : c.head + (length c.items - 1) ≡ b.head - 1 + suc (length (front b.items)) = omega (arith, length_front b.items some_b) in
          moved_empty n i c.head item c.items (omega arith) some_c most_c (λ w. h.1 (ap (λ k. (k - 1) % n) (sym heads) ∙ w)) (ap (λ k. k % n) number_c ∙ tail)
          ∙ sym (moved_empty n i b.head item b.items left some_b most_b (h.1) (ap (λ k. k % n) number_b ∙ tail))
    ]

moved_kept : (item : Value) (go : List ℕ) (case : Option ℕ) (b c : Content) → 0 < length b.items → 0 < length c.items → 0 < b.head → c.head ≡ b.head → length c.items ≡ length b.items
    → (p : Part) → is_written (Moved item go case) (undone (Moved item go case) b) p ≡ false → SameAt p (undone (Moved item go case) (with_capacity b.capacity c)) (with_capacity b.capacity c)
moved_kept item go case b c some_b some_c left heads longs Gate e = cc
moved_kept item go case b c some_b some_c left heads longs Tail e = cc
moved_kept item go case b c some_b some_c left heads longs Head e = cc
moved_kept item go case b c some_b some_c left heads longs (Slot i) e =
    let n = b.capacity in
    let both = or_false ((b.head - 1) % n == i) (tail_slot (undone (Moved item go case) b) == i) e in
    let number_c : c.head + (length c.items - 1) ≡ b.head - 1 + suc (length (front b.items)) = omega (arith, length_front b.items some_b) in
    moved_other n i c.head item c.items (omega arith) some_c (λ w. eqb-false _ i (both.0) (ap (λ k. (k - 1) % n) (sym heads) ∙ w)) (λ w. eqb-false _ i (both.1) (ap (λ k. k % n) (sym number_c) ∙ w))

-- the undo of a value that left the buffer for one that entered it
moved_back : (item : Value) (go : List ℕ) (case : Option ℕ) (b c0 : Content) → Fits (Moved item go case) b → IsChannel b → IsChannel (with_capacity b.capacity c0)
    → ((p : Part) → is_written (Moved item go case) (undone (Moved item go case) b) p ≡ true → SameAt p (with_capacity b.capacity c0) b)
    → TakesBack (Moved item go case) (undone (Moved item go case) b) (with_capacity b.capacity c0)
moved_back item go case b c0 fits vb vc same =
    let n = b.capacity in
    let some : 0 < length b.items = fits.1 in
    let left : 0 < b.head = fits.0 in
    let gate : gate_of (with_capacity n c0) ≡ gate_of b = same Gate refl in
    let heads : c0.head ≡ b.head = same Head refl in
    let tails : c0.head + length c0.items ≡ b.head + length b.items = same Tail refl in
    let longs : length c0.items ≡ length b.items = omega arith in
    let s = tail_slot (undone (Moved item go case) b) in
    let own : s ≡ (b.head + (length b.items - 1)) % n =
    let number : b.head - 1 + suc (length (front b.items)) ≡ b.head + (length b.items - 1) = omega (arith, length_front b.items some) in
    ap (λ k. k % n) number in
    let slots : slot_from n s c0.head c0.items ≡ slot_from n s b.head b.items = same (Slot s) (rw (eq-eqb s s refl) (or-true ((b.head - 1) % n == s))) in
    let stands = entered_stands n b.head c0.head b.items c0.items some (vb.within) tails (subst (λ k. slot_from n k c0.head c0.items ≡ slot_from n k b.head b.items) own slots) in
    let there : 0 < length c0.items = stands.0 in
    let shorter : length (front c0.items) ≡ length c0.items - 1 = length_front c0.items there in
    record {
      fits = (omega arith, there);
      valid = record { within = omega (arith, vc.within); counted = lt_of_le_of_lt (omega arith) (vc.counted) };
      written = moved_written item go case b c0 some there (vb.within) (vc.within) left gate heads longs (stands.1 item);
      kept = moved_kept item go case b c0 some there left heads longs;
    }

one_capacity_back : (u : ChanUndo) (b c0 : Content) → IsChannel b → Fits u b → IsChannel (with_capacity b.capacity c0)
    → ((p : Part) → is_written u (undone u b) p ≡ true → SameAt p (with_capacity b.capacity c0) b) → TakesBack u (undone u b) (with_capacity b.capacity c0)
one_capacity_back (Handed w) b c vb fits vc same =
    gate_taken_back (Handed w) (λ g. record g { receivers = w ∷ g.receivers }) b (with_capacity b.capacity c) (λ x. refl) (λ g. refl) (λ p. refl) vc tt (same Gate refl)
one_capacity_back Buffered b c vb fits vc same = buffered_back b c vb fits vc same
one_capacity_back (Took v) b c vb fits vc same = took_back v b c fits vc same
one_capacity_back (Moved item go case) b c vb fits vc same = moved_back item go case b c fits vb vc same
one_capacity_back (Met w) b c vb fits vc same =
    gate_taken_back (Met w) (λ g. record g { senders = w ∷ g.senders }) b (with_capacity b.capacity c) (λ x. refl) (λ g. refl) (λ p. refl) vc tt (same Gate refl)
one_capacity_back ParkedSender b c vb fits vc same =
    let P : GateContent → Type 0 = λ g. 0 < length g.senders in
    gate_taken_back ParkedSender (λ g. record g { senders = front g.senders }) b (with_capacity b.capacity c) (λ x. refl) (λ g. refl) (λ p. refl) vc (subst P (sym (same Gate refl)) fits) (same Gate refl)
one_capacity_back ParkedReceiver b c vb fits vc same =
    let P : GateContent → Type 0 = λ g. 0 < length g.receivers in
    gate_taken_back ParkedReceiver (λ g. record g { receivers = front g.receivers }) b (with_capacity b.capacity c) (λ x. refl) (λ g. refl) (λ p. refl) vc (subst P (sym (same Gate refl)) fits) (same Gate refl)
one_capacity_back (Withdrawn s r) b c vb fits vc same = withdrawn_back s r b (with_capacity b.capacity c) fits vc same
one_capacity_back (Closed s r) b c vb fits vc same = closed_back s r b (with_capacity b.capacity c) fits vc same

-- a change is taken back from any content of the channel in which what it wrote stands
pub taken_back : (u : ChanUndo) (a b c : Content) → Changes u a b → IsChannel c → c.capacity ≡ b.capacity → ((p : Part) → is_written u a p ≡ true → SameAt p c b) → TakesBack u a c
taken_back u a b c change =
    let P : Content → Type 0 = λ x. IsChannel x → ((p : Part) → is_written u (undone u b) p ≡ true → SameAt p x b) → TakesBack u (undone u b) x in
    let Q : Content → Type 0 = λ x. IsChannel c → c.capacity ≡ b.capacity → ((p : Part) → is_written u x p ≡ true → SameAt p c b) → TakesBack u x c in
    subst Q (change.back)
    (λ valid capacity same. subst P (ap (λ n. with_capacity n c) (sym capacity)) (λ v w. one_capacity_back u b c (change.valid) (change.fits) v w) valid same)
