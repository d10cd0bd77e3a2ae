-- Buffers of channels stay sound as values enter and leave.
use Rattle.std.proofs.Common.{◌≡◌, ℕ, ◌+◌, ◌-◌, ◌%◌, ◌<◌, ◌≤◌, nat_eq, true, false, List, [], ◌∷◌, Option, Some, None, refl, sym, ◌∙◌, ap, subst, arith, inl, inr, eqb-true, eq-eqb}
use Rattle.std.proofs.Math.Nat.{add-mod_right}
use Rattle.gr_base.specs.declared.values.Value.{Value}
use Rattle.std.proofs.lemmas.Bool.{cases_eq}
use Rattle.std.proofs.lemmas.Option.{none-some, same_Some}
use Rattle.gr_channels.specs.Objects.{GateContent}
use Rattle.gr_channels.specs.Queues.{others}
use Rattle.gr_channels.proofs.Slots.{apart, le_or_more}
use Rattle.gr_rules.specs.States.{updated}
use Rattle.gr_rules.specs.Actors.{without}
use Rattle.gr_laws.specs.Soundness.{SoundBuffer, EmptyBuffer, SoundChannel}
use Rattle.gr_laws.proofs.CellLemmas.{updated_here, updated_else}

-- the ends and slots that a buffer is told by may be given by others that are equal
pub told : (x : Option GateContent) {h h' t t' : ℕ} {f f' : ℕ → Option (ℕ × Value)} → h' ≡ h → t' ≡ t → f' ≡ f → SoundChannel x h t f → SoundChannel x h' t' f'
told x {h} {h'} {t} {t'} {f} {f'} p q r b =
    let one : SoundChannel x h' t f = subst (λ z. SoundChannel x z t f) (sym p) b in
    let two : SoundChannel x h' t' f = subst (λ z. SoundChannel x h' z f) (sym q) one in
    subst (λ z. SoundChannel x h' t' z) (sym r) two

-- a number below the tail with the tail's slot is a whole round below it
round : (c n t : ℕ) → n < t → n % c ≡ t % c → n + c ≤ t
round c n t less same = elim (le_or_more (n + c) t) [
  | inl h ↦ h
  | inr h ↦
      let gap : n + (t - n) ≡ t = omega arith in
      absurd (apart c n (t - n) (omega arith) (omega arith) (ap (λ k. k % c) gap ∙ sym same))
]

-- of two numbers in a window no wider than the capacity, with one slot, the one from below is the other
alone : (c h n : ℕ) → h ≤ n → n < h + c → n % c ≡ h % c → n ≡ h
alone c h n le less same = elim (le_or_more n h) [
  | inl k ↦ omega arith
  | inr k ↦ let r = round c h n (omega arith) (sym same) in omega arith
]

here_slot : (f : ℕ → Option (ℕ × Value)) (i : ℕ) (x : Option (ℕ × Value)) → updated nat_eq f i x i ≡ x
here_slot f i x = updated_here nat_eq (λ n. eq-eqb n n refl) f i x

else_slot : (f : ℕ → Option (ℕ × Value)) (i j : ℕ) (x : Option (ℕ × Value)) → (j ≡ i → ⊥) → updated nat_eq f i x j ≡ f j
else_slot f i j x n = updated_else nat_eq eqb-true f i j x n

abbrev pub item : ℕ → Value → Option (ℕ × Value)
item n v = Some (n, v)

pub number_is : (n m : ℕ) (v w : Value) → item n v ≡ item m w → n ≡ m
number_is n m v w e = ap (λ (x : ℕ × Value). x.0) (same_Some _ _ e)

-- a channel that is made where none was
pub fresh : (n : ℕ) {h t : ℕ} {f : ℕ → Option (ℕ × Value)} → EmptyBuffer h t f → SoundBuffer (record { capacity = n; closed = false; senders = []; receivers = [] }) h t f
fresh n {h} {t} {f} b =
    let p : h ≡ 0 = b.none_left in
    let q : t ≡ 0 = b.none_entered in
    record {
      ordered = omega arith;
      within = omega arith;
      holds = λ i k. (λ w. absurd (none-some _ (sym (b.none_held i) ∙ w.1)), λ w. let l : k < t = w.1 in absurd (omega arith));
      senders = inl refl;
      receivers = inl refl;
      closed = λ e. (refl, refl);
    }

module _ (gate : GateContent) (h t : ℕ) (f : ℕ → Option (ℕ × Value)) (b : SoundBuffer gate h t f) where
  -- with other waiters
  thinner : (n : List ℕ) → SoundBuffer (record gate { senders = others n gate.senders; receivers = others n gate.receivers }) h t f
  thinner n = record {
    ordered = b.ordered;
    within = b.within;
    holds = b.holds;
    senders = elim b.senders [ inl e ↦ inl (ap (others n) e) | inr e ↦ inr e ];
    receivers = elim b.receivers [ inl e ↦ inl (ap (others n) e) | inr e ↦ inr e ];
    closed = λ e. let k = b.closed e in (ap (others n) k.0, ap (others n) k.1);
  }

  pub shut : SoundBuffer (record gate { closed = true; senders = []; receivers = [] }) h t f
  shut = record { ordered = b.ordered; within = b.within; holds = b.holds; senders = inl refl; receivers = inl refl; closed = λ e. (refl, refl) }

  -- whether there is room, by the capacity and by the slot of the tail
  pub full_of_none : gate.capacity ≡ 0 → t ≡ h + gate.capacity
  full_of_none e = let p = b.ordered in let q = b.within in omega arith

  pub full_of_item : (n : ℕ) (v : Value) → f (t % gate.capacity) ≡ Some (n, v) → t ≡ h + gate.capacity
  full_of_item n v e =
      let w = (b.holds (t % gate.capacity) n).0 (v, e) in
      let r = round gate.capacity n t w.1 w.2 in
      let p : h ≤ n = w.0 in
      let q = b.within in
      omega arith

  pub empty_of_none : gate.capacity ≡ 0 → t ≡ h
  empty_of_none e = let p = b.ordered in let q = b.within in omega arith

  pub empty_of_slot : f (h % gate.capacity) ≡ None → t ≡ h
  empty_of_slot e = elim (le_or_more t h) [
    | inl l ↦ let p = b.ordered in omega arith
    | inr l ↦ let w = (b.holds (h % gate.capacity) h).1 (omega arith, omega arith, refl) in absurd (none-some _ (sym e ∙ w.1))
  ]

  -- the front item has the number of the head
  pub front_is : (n : ℕ) (v : Value) → f (h % gate.capacity) ≡ Some (n, v) → h < t
  front_is n v e = let w = (b.holds (h % gate.capacity) n).0 (v, e) in let p : h ≤ n = w.0 in let q : n < t = w.1 in omega arith

  pub room_is : f (t % gate.capacity) ≡ None → (gate.capacity ≡ 0 → ⊥) → t < h + gate.capacity
  room_is e some = elim (le_or_more (h + gate.capacity) t) [
    | inl l ↦
        let p = b.within in
        let q : t ≡ h + gate.capacity = omega arith in
        let low : h < t = elim (le_or_more gate.capacity 0) [ inl z ↦ absurd (some (omega arith)) | inr z ↦ omega arith ] in
        let slot : t % gate.capacity ≡ h % gate.capacity = ap (λ k. k % gate.capacity) q ∙ add-mod_right h gate.capacity in
        let w = (b.holds (h % gate.capacity) h).1 (omega arith, low, refl) in
        absurd (none-some _ (sym e ∙ ap f slot ∙ w.1))
    | inr l ↦ omega arith
  ]

  -- a value enters
  pub entered : (v : Value) → f (t % gate.capacity) ≡ None → (gate.capacity ≡ 0 → ⊥) → gate.receivers ≡ [] → SoundBuffer gate h (t + 1) (updated nat_eq f (t % gate.capacity) (Some (t, v)))
  entered v e some none =
      let room = room_is e some in
      let p = b.ordered in record {
        ordered = omega arith;
        within = omega arith;
        holds = λ i n. (λ w. there i n w, λ w. back i n w);
        senders = elim b.senders [ inl q ↦ inl q | inr q ↦ absurd (omega arith) ];
        receivers = inl none;
        closed = b.closed;
      }
    where
      there : (i n : ℕ) → ((w : Value) × (updated nat_eq f (t % gate.capacity) (Some (t, v)) i ≡ Some (n, w))) → (h ≤ n) × (n < t + 1) × (n % gate.capacity ≡ i)
      there i n w = elim (cases_eq i (t % gate.capacity)) [
        | inl q ↦
            let m : item t v ≡ item n w.0 = sym (here_slot f (t % gate.capacity) (Some (t, v))) ∙ ap (updated nat_eq f (t % gate.capacity) (Some (t, v))) (sym q) ∙ w.1 in
            let k : t ≡ n = number_is t n v w.0 m in
            let p = b.ordered in
            (omega arith, omega arith, ap (λ k. k % gate.capacity) (sym k) ∙ sym q)
        | inr q ↦
            let old = (b.holds i n).0 (w.0, sym (else_slot f (t % gate.capacity) i (Some (t, v)) q) ∙ w.1) in
            let l : n < t = old.1 in
            (old.0, omega arith, old.2)
      ]

      back : (i n : ℕ) → (h ≤ n) × (n < t + 1) × (n % gate.capacity ≡ i) → ((w : Value) × (updated nat_eq f (t % gate.capacity) (Some (t, v)) i ≡ Some (n, w)))
      back i n w = elim (cases_eq n t) [
        | inl q ↦
            let at : i ≡ t % gate.capacity = sym w.2 ∙ ap (λ k. k % gate.capacity) q in
            (v, ap (updated nat_eq f (t % gate.capacity) (Some (t, v))) at ∙ here_slot f (t % gate.capacity) (Some (t, v)) ∙ ap (λ (k : ℕ). Some (k, v)) (sym q))
        | inr q ↦
            let l : n < t + 1 = w.1 in
            let less : n < t = elim (le_or_more t n) [ inl z ↦ absurd (q (omega arith)) | inr z ↦ omega arith ] in
            let old = (b.holds i n).1 (w.0, less, w.2) in
            (old.0, else_slot f (t % gate.capacity) i (Some (t, v)) (λ z. none-some _ (sym e ∙ ap f (sym z) ∙ old.1)) ∙ old.1)
      ]

  -- the front item leaves, and nobody waits to send
  pub left : (n : ℕ) (v : Value) → f (h % gate.capacity) ≡ Some (n, v) → gate.senders ≡ [] → SoundBuffer gate (h + 1) t (updated nat_eq f (h % gate.capacity) None)
  left m u e none =
      let some = front_is m u e in
      let p = b.within in record {
        ordered = omega arith;
        within = omega arith;
        holds = λ i n. (λ w. there i n w, λ w. back i n w);
        senders = inl none;
        receivers = elim b.receivers [ inl q ↦ inl q | inr q ↦ absurd (omega arith) ];
        closed = b.closed;
      }
    where
      there : (i n : ℕ) → ((w : Value) × (updated nat_eq f (h % gate.capacity) None i ≡ Some (n, w))) → (h + 1 ≤ n) × (n < t) × (n % gate.capacity ≡ i)
      there i n w = elim (cases_eq i (h % gate.capacity)) [
        | inl q ↦ absurd (none-some _ (sym (here_slot f (h % gate.capacity) None) ∙ ap (updated nat_eq f (h % gate.capacity) None) (sym q) ∙ w.1))
        | inr q ↦
            let old = (b.holds i n).0 (w.0, sym (else_slot f (h % gate.capacity) i None q) ∙ w.1) in
            let l : h ≤ n = old.0 in
            let other : h ≡ n → ⊥ = λ z. q (sym old.2 ∙ ap (λ k. k % gate.capacity) (sym z)) in
            (elim (le_or_more n h) [ inl z ↦ absurd (other (omega arith)) | inr z ↦ z ], old.1, old.2)
      ]

      back : (i n : ℕ) → (h + 1 ≤ n) × (n < t) × (n % gate.capacity ≡ i) → ((w : Value) × (updated nat_eq f (h % gate.capacity) None i ≡ Some (n, w)))
      back i n w =
          let l : h + 1 ≤ n = w.0 in
          let m : n < t = w.1 in
          let p = b.within in
          let old = (b.holds i n).1 (omega arith, w.1, w.2) in
          let other : i ≡ h % gate.capacity → ⊥ = λ z. let q = alone gate.capacity h n (omega arith) (omega arith) (w.2 ∙ z) in omega arith in
          (old.0, else_slot f (h % gate.capacity) i None other ∙ old.1)

  -- the front item leaves a full buffer, and another value enters
  pub moved_up : (n : ℕ) (v u : Value) → f (h % gate.capacity) ≡ Some (n, v) → t ≡ h + gate.capacity → SoundBuffer gate (h + 1) (t + 1) (updated nat_eq f (h % gate.capacity) (Some (t, u)))
  moved_up m v u e full =
      let some = front_is m v e in record {
        ordered = omega arith;
        within = omega arith;
        holds = λ i n. (λ w. there i n w, λ w. back i n w);
        senders = inr (omega arith);
        receivers = elim b.receivers [ inl q ↦ inl q | inr q ↦ absurd (omega arith) ];
        closed = b.closed;
      }
    where
      slot : t % gate.capacity ≡ h % gate.capacity
      slot = ap (λ k. k % gate.capacity) full ∙ add-mod_right h gate.capacity

      there : (i n : ℕ) → ((w : Value) × (updated nat_eq f (h % gate.capacity) (Some (t, u)) i ≡ Some (n, w))) → (h + 1 ≤ n) × (n < t + 1) × (n % gate.capacity ≡ i)
      there i n w = elim (cases_eq i (h % gate.capacity)) [
        | inl q ↦
            let p : item t u ≡ item n w.0 = sym (here_slot f (h % gate.capacity) (Some (t, u))) ∙ ap (updated nat_eq f (h % gate.capacity) (Some (t, u))) (sym q) ∙ w.1 in
            let k : t ≡ n = number_is t n u w.0 p in
            let some = front_is m v e in
            (omega arith, omega arith, ap (λ k. k % gate.capacity) (sym k) ∙ slot ∙ sym q)
        | inr q ↦
            let old = (b.holds i n).0 (w.0, sym (else_slot f (h % gate.capacity) i (Some (t, u)) q) ∙ w.1) in
            let l : h ≤ n = old.0 in
            let r : n < t = old.1 in
            let other : h ≡ n → ⊥ = λ z. q (sym old.2 ∙ ap (λ k. k % gate.capacity) (sym z)) in
            (elim (le_or_more n h) [ inl z ↦ absurd (other (omega arith)) | inr z ↦ z ], omega arith, old.2)
      ]

      back : (i n : ℕ) → (h + 1 ≤ n) × (n < t + 1) × (n % gate.capacity ≡ i) → ((w : Value) × (updated nat_eq f (h % gate.capacity) (Some (t, u)) i ≡ Some (n, w)))
      back i n w = elim (cases_eq n t) [
        | inl q ↦
            let at : i ≡ h % gate.capacity = sym w.2 ∙ ap (λ k. k % gate.capacity) q ∙ slot in
            (u, ap (updated nat_eq f (h % gate.capacity) (Some (t, u))) at ∙ here_slot f (h % gate.capacity) (Some (t, u)) ∙ ap (λ (k : ℕ). Some (k, u)) (sym q))
        | inr q ↦
            let l : h + 1 ≤ n = w.0 in
            let r : n < t + 1 = w.1 in
            let less : n < t = elim (le_or_more t n) [ inl z ↦ absurd (q (omega arith)) | inr z ↦ omega arith ] in
            let old = (b.holds i n).1 (omega arith, less, w.2) in
            let other : i ≡ h % gate.capacity → ⊥ = λ z. let q = alone gate.capacity h n (omega arith) (omega arith) (w.2 ∙ z) in omega arith in
            (old.0, else_slot f (h % gate.capacity) i (Some (t, u)) other ∙ old.1)
      ]

-- without some waiters
pub thinned : (names : List (List ℕ)) (gate : GateContent) (h t : ℕ) (f : ℕ → Option (ℕ × Value)) → SoundBuffer gate h t f → SoundBuffer (without names gate) h t f
thinned [] gate h t f b = b
thinned (n ∷ names) gate h t f b = thinned names _ h t f (thinner gate h t f b n)
