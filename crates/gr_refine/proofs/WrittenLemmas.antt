-- The parts of a channel that a change writes are the objects that it is said to write.
use Rattle.std.proofs.Common.{◌≡◌, ℕ, ◌+◌, ◌%◌, true, false, List, [], ◌∷◌, refl, sym, ◌∙◌, ap, eqb-true, inl, inr}
use Rattle.std.specs.List.{list_any}
use Rattle.std.proofs.lemmas.Bool.{or_cases, and_parts}
use Rattle.std.proofs.Math.Nat.{add-mod_right}
use Rattle.gr_base.specs.declared.names.ChName.{ChName}
use Rattle.gr_base.specs.declared.objects.Object.{Object}
use Rattle.gr_channels.specs.declared.changes.ChanUndo.TheVariants.{Handed, Buffered, Took, Moved, Met, ParkedSender, ParkedReceiver, Withdrawn, Closed}
use Rattle.gr_channels.specs.Objects.{Part, is_gate, is_tail, is_head, is_slot}
use Rattle.gr_channels.specs.Objects as parts
use Rattle.gr_rules.specs.States.{same}
use Rattle.gr_refine.specs.TakingBack.{part_of}
use Rattle.gr_refine.specs.Written.{WrittenPartsAreNamed, AllWrittenPartsAreNamed, FullSlotsMeet}

module _ (c : ChName) (os : List Object) (p : Part) where
  abbrev Named : Type 0
  Named = list_any (same (part_of c p)) os ≡ true

  at_part : (q : Part) → p ≡ q → list_any (same (part_of c q)) os ≡ true → Named
  at_part q is e = ap (λ (r : Part). list_any (same (part_of c r)) os) is ∙ e

is_the_gate : (p : Part) → is_gate p ≡ true → p ≡ parts.Gate
is_the_gate parts.Gate e = refl
is_the_gate parts.Tail e = absurd (let no : false ≡ true = e in cc)
is_the_gate parts.Head e = absurd (let no : false ≡ true = e in cc)
is_the_gate (parts.Slot i) e = absurd (let no : false ≡ true = e in cc)

is_the_tail : (p : Part) → is_tail p ≡ true → p ≡ parts.Tail
is_the_tail parts.Gate e = absurd (let no : false ≡ true = e in cc)
is_the_tail parts.Tail e = refl
is_the_tail parts.Head e = absurd (let no : false ≡ true = e in cc)
is_the_tail (parts.Slot i) e = absurd (let no : false ≡ true = e in cc)

is_the_head : (p : Part) → is_head p ≡ true → p ≡ parts.Head
is_the_head parts.Gate e = absurd (let no : false ≡ true = e in cc)
is_the_head parts.Tail e = absurd (let no : false ≡ true = e in cc)
is_the_head parts.Head e = refl
is_the_head (parts.Slot i) e = absurd (let no : false ≡ true = e in cc)

is_the_slot : (k : ℕ) (p : Part) → is_slot k p ≡ true → p ≡ parts.Slot k
is_the_slot k parts.Gate e = absurd (let no : false ≡ true = e in cc)
is_the_slot k parts.Tail e = absurd (let no : false ≡ true = e in cc)
is_the_slot k parts.Head e = absurd (let no : false ≡ true = e in cc)
is_the_slot k (parts.Slot i) e = ap parts.Slot (sym (eqb-true k i e))

pub written_parts_are_named : WrittenPartsAreNamed
written_parts_are_named c Buffered x os among p e = elim (or_cases _ _ e) [
  | inl t ↦ at_part c os p _ (is_the_tail p t) (among.0)
  | inr s ↦ at_part c os p _ (is_the_slot _ p s) (among.1.0)
]
written_parts_are_named c (Took v) x os among p e = elim (or_cases _ _ e) [
  | inl h ↦ at_part c os p _ (is_the_head p h) (among.0)
  | inr s ↦ at_part c os p _ (is_the_slot _ p s) (among.1.0)
]
written_parts_are_named c (Moved item go case) x os among p e = elim (or_cases _ _ e) [
  | inr s ↦ at_part c os p _ (is_the_slot _ p s) (among.1.1.1.1.0)
  | inl e ↦ elim (or_cases _ _ e) [
    | inr s ↦ at_part c os p _ (is_the_slot _ p s) (among.1.1.1.0)
    | inl e ↦ elim (or_cases _ _ e) [
      | inr h ↦ at_part c os p _ (is_the_head p h) (among.1.1.0)
      | inl e ↦ elim (or_cases _ _ e) [
        | inl g ↦ at_part c os p _ (is_the_gate p g) (among.0)
        | inr t ↦ at_part c os p _ (is_the_tail p t) (among.1.0)
      ]
    ]
  ]
]
written_parts_are_named c (Handed w) x os among p e = at_part c os p _ (is_the_gate p e) (among.0)
written_parts_are_named c (Met w) x os among p e = at_part c os p _ (is_the_gate p e) (among.0)
written_parts_are_named c ParkedSender x os among p e = at_part c os p _ (is_the_gate p e) (among.0)
written_parts_are_named c ParkedReceiver x os among p e = at_part c os p _ (is_the_gate p e) (among.0)
written_parts_are_named c (Withdrawn s r) x os among p e = at_part c os p _ (is_the_gate p ((and_parts _ _ e).0)) (among.0)
written_parts_are_named c (Closed s r) x os among p e = at_part c os p _ (is_the_gate p e) (among.0)

pub all_written_parts_are_named : AllWrittenPartsAreNamed
all_written_parts_are_named c [] b os among p e = absurd (let no : false ≡ true = e in cc)
all_written_parts_are_named c (u ∷ us) b os among p e = elim (or_cases _ _ e) [
  | inl w ↦ written_parts_are_named c u _ os (among.0) p w
  | inr w ↦ all_written_parts_are_named c us b os (among.1) p w
]

pub full_slots_meet : FullSlotsMeet
full_slots_meet x full = ap (λ n. (x.head + n) % x.capacity) full ∙ add-mod_right x.head x.capacity
