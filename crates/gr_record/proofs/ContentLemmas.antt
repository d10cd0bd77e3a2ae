-- Changes of one channel that wrote different parts of it are taken back in either order.
use Rattle.std.proofs.Common.{◌≡◌, ◌%◌, true, false, ◌||◌, List, [], ◌∷◌, length, refl, sym, ap, ap₂, ◌∙◌, inl, inr, arith}
use Rattle.std.proofs.lemmas.Bool.{cases_Bool, or_left, or_right}
use Rattle.gr_channels.specs.declared.changes.ChanUndo.{ChanUndo}
use Rattle.gr_channels.specs.declared.changes.ChanUndo.TheVariants.{Handed, Buffered, Took, Moved, Met, ParkedSender, ParkedReceiver, Withdrawn, Closed}
use Rattle.gr_channels.specs.Channels.{Content, IsChannel, tail_of}
use Rattle.gr_channels.specs.Changes.{undone}
use Rattle.gr_channels.specs.Objects.{GateContent, gate_of, slot_from, Part, SameAt, is_written, is_gate, is_tail, is_head, is_slot}
use Rattle.gr_channels.specs.Objects as parts
use Rattle.gr_channels.proofs.Slots.{slots_same}
use Rattle.gr_channels.proofs.Undoing.{same_self}
use Rattle.gr_refine.specs.TakingBack.{all_undone, AllFit, any_written, AllTakenBack}
use Rattle.gr_refine.proofs.BackLemmas.{changes_go_back_anywhere}

pub same_back : (q : Part) (a b : Content) → SameAt q a b → SameAt q b a
same_back parts.Gate a b e = sym e
same_back parts.Tail a b e = sym e
same_back parts.Head a b e = sym e
same_back (parts.Slot i) a b e = sym e

pub same_on : (q : Part) (a b c : Content) → SameAt q a b → SameAt q b c → SameAt q a c
same_on parts.Gate a b c d e = d ∙ e
same_on parts.Tail a b c d e = d ∙ e
same_on parts.Head a b c d e = d ∙ e
same_on (parts.Slot i) a b c d e = d ∙ e

one_capacity : (u : ChanUndo) (x : Content) → (undone u x).capacity ≡ x.capacity
one_capacity (Handed w) x = refl
one_capacity Buffered x = refl
one_capacity (Took v) x = refl
one_capacity (Moved item go case) x = refl
one_capacity (Met w) x = refl
one_capacity ParkedSender x = refl
one_capacity ParkedReceiver x = refl
one_capacity (Withdrawn s r) x = refl
one_capacity (Closed s r) x = refl

pub same_capacity : (us : List ChanUndo) (x : Content) → (all_undone us x).capacity ≡ x.capacity
same_capacity [] x = refl
same_capacity (u ∷ us) x = one_capacity u (all_undone us x) ∙ same_capacity us x

-- a content is its parts
all_parts : (a b : Content) → IsChannel a → ((q : Part) → SameAt q a b) → a ≡ b
all_parts a b valid same =
    let gate : gate_of a ≡ gate_of b = same parts.Gate in
    let head : a.head ≡ b.head = same parts.Head in
    let tail : tail_of a ≡ tail_of b = same parts.Tail in
    let long : length a.items ≡ length b.items = omega (arith, head, tail) in
    let one : b.capacity ≡ a.capacity = ap (λ (g : GateContent). g.capacity) (sym gate) in
    let items : a.items ≡ b.items = slots_same a.capacity a.head a.items b.items long valid.within (λ i less.
    same (parts.Slot i) ∙ ap (λ n. slot_from n i b.head b.items) one ∙ ap (λ n. slot_from a.capacity i n b.items) (sym head)) in
    λ i. record { capacity = (gate i).capacity; closed = (gate i).closed; senders = (gate i).senders; receivers = (gate i).receivers; head = head i; items = items i }

-- what is written, where both ends of the buffer are as they were
module _ (u : ChanUndo) (a b : Content) (capacity : a.capacity ≡ b.capacity) where
  tail_slots : tail_of a ≡ tail_of b → parts.tail_slot a ≡ parts.tail_slot b
  tail_slots e = ap₂ (λ n k. n % k) e capacity

  head_slots : a.head ≡ b.head → parts.head_slot a ≡ parts.head_slot b
  head_slots e = ap₂ (λ n k. n % k) e capacity

written_alike : (u : ChanUndo) (a b : Content) → a.capacity ≡ b.capacity → ((q : Part) → is_written u b q ≡ true → SameAt q a b)
    → (q : Part) → is_written u a q ≡ is_written u b q
written_alike (Handed w) a b capacity same q = refl
written_alike Buffered a b capacity same q = ap (λ k. is_tail q || is_slot k q) (tail_slots Buffered a b capacity (same parts.Tail refl))
written_alike (Took v) a b capacity same q = ap (λ k. is_head q || is_slot k q) (head_slots (Took v) a b capacity (same parts.Head refl))
written_alike (Moved item go case) a b capacity same q =
    ap₂ (λ h t. is_gate q || is_tail q || is_head q || is_slot h q || is_slot t q)
    (head_slots (Moved item go case) a b capacity (same parts.Head refl)) (tail_slots (Moved item go case) a b capacity (same parts.Tail refl))
written_alike (Met w) a b capacity same q = refl
written_alike ParkedSender a b capacity same q = refl
written_alike ParkedReceiver a b capacity same q = refl
written_alike (Withdrawn s r) a b capacity same q = refl
written_alike (Closed s r) a b capacity same q = refl

-- changes write the same where what they wrote stands
pub all_written_alike : (us : List ChanUndo) (b x : Content) → IsChannel b → AllFit us b → IsChannel x → x.capacity ≡ b.capacity
    → ((q : Part) → any_written us b q ≡ true → SameAt q x b) → (q : Part) → any_written us x q ≡ any_written us b q
all_written_alike [] b x valid fits later capacity stands q = refl
all_written_alike (u ∷ us) b x valid fits later capacity stands q =
    let back = changes_go_back_anywhere (u ∷ us) b x valid fits later capacity stands in
    let first = written_alike u (undone u (all_undone us x)) (undone u (all_undone us b))
    (same_capacity (u ∷ us) x ∙ capacity ∙ sym (same_capacity (u ∷ us) b)) (λ p e. back.written p (or_left _ _ e)) q in
    ap₂ (λ v w. v || w) first (all_written_alike us b x valid fits.1 later capacity (λ p e. stands p (or_right _ _ e)) q)

-- Changes `us` led to a content, and then changes `vs`, which wrote no part of it that `us` wrote, to z.
module _ (us vs : List ChanUndo) (z : Content) (valid : IsChannel z) (fits : AllFit vs z) (first_fits : AllFit us (all_undone vs z))
    (apart : (q : Part) → any_written us (all_undone vs z) q ≡ true → any_written vs z q ≡ true → ⊥) where
  abbrev y : Content
  y = all_undone vs z

  abbrev w : Content
  w = all_undone us z

  not_by_first : (q : Part) → any_written vs z q ≡ true → any_written us y q ≡ false
  not_by_first q e = elim (cases_Bool (any_written us y q)) [ inl t ↦ absurd (apart q t e) | inr f ↦ f ]

  not_by_second : (q : Part) → any_written us y q ≡ true → any_written vs z q ≡ false
  not_by_second q e = elim (cases_Bool (any_written vs z q)) [ inl t ↦ absurd (apart q e t) | inr f ↦ f ]

  own_second : AllTakenBack vs z z
  own_second = changes_go_back_anywhere vs z z valid fits valid refl (λ q e. same_self q z)

  own_first : AllTakenBack us y y
  own_first = changes_go_back_anywhere us y y own_second.valid first_fits own_second.valid refl (λ q e. same_self q y)

  stands_first : (q : Part) → any_written us y q ≡ true → SameAt q z y
  stands_first q e = same_back q y z (own_second.kept q (not_by_second q e))

  -- the first of them are taken back alone
  pub first_back : AllTakenBack us y z
  first_back = changes_go_back_anywhere us y z own_second.valid first_fits valid (sym (same_capacity vs z)) stands_first

  stands_second : (q : Part) → any_written vs z q ≡ true → SameAt q w z
  stands_second q e = first_back.kept q (not_by_first q e)

  -- the others are taken back after the first
  pub second_back : AllTakenBack vs z w
  second_back = changes_go_back_anywhere vs z w valid fits first_back.valid (same_capacity us z) stands_second

  pub first_writes : (q : Part) → any_written us z q ≡ any_written us y q
  first_writes = all_written_alike us y z own_second.valid first_fits valid (sym (same_capacity vs z)) stands_first

  pub second_writes : (q : Part) → any_written vs w q ≡ any_written vs z q
  second_writes = all_written_alike vs z w valid fits first_back.valid (same_capacity us z) stands_second

  same_part : (q : Part) → SameAt q (all_undone vs w) (all_undone us y)
  same_part q = elim (cases_Bool (any_written vs z q)) [
    | inl t ↦ same_on q (all_undone vs w) y (all_undone us y) (second_back.written q t)
        (same_back q (all_undone us y) y (own_first.kept q (not_by_first q t)))
    | inr f ↦ same_on q (all_undone vs w) w (all_undone us y) (second_back.kept q f) (elim (cases_Bool (any_written us y q)) [
      | inl t ↦ first_back.written q t
      | inr g ↦ same_on q w z (all_undone us y) (first_back.kept q g)
          (same_on q z y (all_undone us y) (same_back q y z (own_second.kept q f)) (same_back q (all_undone us y) y (own_first.kept q g)))
    ])
  ]

  -- taking back in either order gives the same
  pub either_order : all_undone vs w ≡ all_undone us y
  either_order = all_parts (all_undone vs w) (all_undone us y) second_back.valid same_part
