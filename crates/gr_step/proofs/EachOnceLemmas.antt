-- Objects that are touched, each once, found one after the other; and what communications look at.
use Rattle.std.proofs.Common.{◌≡◌, ℕ, ◌+◌, ◌<◌, ◌≤◌, Bool, true, false, ◌||◌, List, [], ◌∷◌, ◌++◌, length, drop, get_or, refl, sym, ap, ◌∙◌, append-nil, append_assoc, drop_of_length-le, inl, inr}
use Rattle.std.specs.List.{list_any, list_all, flat_map}
use Rattle.std.proofs.lemmas.List.Folds.{list_any-append}
use Rattle.std.proofs.lemmas.Bool.{cases_Bool, and_parts}
use Rattle.gr_base.specs.declared.objects.Object.{Object}
use Rattle.gr_rules.specs.States.{State, same}
use Rattle.gr_rules.specs.Deeds.{Communication}
use Rattle.gr_rules.specs.Touches.{side}
use Rattle.gr_laws.specs.Touched.{each_once}
use Rattle.gr_goros.specs.Views.{communication_of, communications_of}
use Rattle.gr_goros.specs.declared.needs.Clause.{Clause}
use Rattle.gr_step.proofs.QueueLemmas.{first_left}

-- two lists have the same ones of these objects
abbrev pub AlikeFor : (Object → Bool) → List Object → List Object → Type 0
AlikeFor among a b = (o : Object) → among o ≡ true → list_any (same o) a ≡ list_any (same o) b

pub alike_after : (among : Object → Bool) (a b os : List Object) → list_all among os ≡ true → AlikeFor among a b → each_once a os ≡ each_once b os
alike_after among a b [] all alike = refl
alike_after among a b (o ∷ os) all alike =
    let parts = and_parts (among o) (list_all among os) all in
    elim (cases_Bool (list_any (same o) b)) [
      | inl t ↦ rw (alike o parts.0, t) (alike_after among a b os parts.1 alike)
      | inr n ↦ rw (alike o parts.0, n) (ap (λ l. o ∷ l)
          (alike_after among (o ∷ a) (o ∷ b) os parts.1 (λ q h. ap (λ k. same q o || k) (alike q h))))
    ]

or_swapped : (a b c : Bool) → (a || (b || c)) ≡ (b || (a || c))
or_swapped true true c = refl
or_swapped true false c = refl
or_swapped false b c = refl

-- the object that was found last stands first among those that were seen, or last
alike_swapped : (kept seen : List Object) (o q : Object) → list_any (same q) (o ∷ (kept ++ seen)) ≡ list_any (same q) ((kept ++ o ∷ []) ++ seen)
alike_swapped [] seen o q = refl
alike_swapped (k ∷ ks) seen o q =
    or_swapped (same q o) (same q k) (list_any (same q) (ks ++ seen)) ∙ ap (λ b. same q k || b) (alike_swapped ks seen o q)

all_such : (os : List Object) → list_all (λ o. true) os ≡ true
all_such [] = refl
all_such (o ∷ os) = all_such os

module _ (seen os : List Object) (i : ℕ) (o : Object) (kept : List Object) (below : i < length os) (is : o ≡ get_or os i o) where
  -- an object that was seen is not told again
  pub known : list_any (same o) (kept ++ seen) ≡ true
      → kept ++ each_once (kept ++ seen) (drop (i + 1) os) ≡ kept ++ each_once (kept ++ seen) (drop i os)
  known t = rw (first_left os i o below is, t) refl

  -- one that was not is told next
  pub found : list_any (same o) (kept ++ seen) ≡ false
      → (kept ++ o ∷ []) ++ each_once ((kept ++ o ∷ []) ++ seen) (drop (i + 1) os) ≡ kept ++ each_once (kept ++ seen) (drop i os)
  found n =
      let rest = drop (i + 1) os in
      rw (first_left os i o below is, n)
      (append_assoc kept (o ∷ []) _
      ∙ ap (λ l. kept ++ (o ∷ l))
      (sym (alike_after (λ q. true) (o ∷ (kept ++ seen)) ((kept ++ o ∷ []) ++ seen) rest (all_such rest) (λ q h. alike_swapped kept seen o q))))

-- it was seen before, or found before, or neither
module _ (p : Object → Bool) (kept seen : List Object) where
  pub any_seen : list_any p seen ≡ true → list_any p (kept ++ seen) ≡ true
  any_seen t = list_any-append p kept seen ∙ ap (λ b. list_any p kept || b) t ∙ or_true (list_any p kept)
    where
      or_true : (b : Bool) → (b || true) ≡ true
      or_true true = refl
      or_true false = refl

  pub any_found : list_any p kept ≡ true → list_any p (kept ++ seen) ≡ true
  any_found t = list_any-append p kept seen ∙ ap (λ b. b || list_any p seen) t

  pub in_neither : list_any p seen ≡ false → list_any p kept ≡ false → list_any p (kept ++ seen) ≡ false
  in_neither a b = list_any-append p kept seen ∙ ap (λ x. x || list_any p seen) b ∙ a

-- none are left
pub all_told : (seen os : List Object) (i : ℕ) (kept : List Object) → length os ≤ i → kept ≡ kept ++ each_once (kept ++ seen) (drop i os)
all_told seen os i kept h = rw (drop_of_length-le os h) (sym (append-nil kept))

-- what communications look at
module _ (t : State) (cs : List Clause) (i : ℕ) (touched : List Object) (total : List Object)
    (told : touched ++ flat_map (side t) (communications_of (drop i cs)) ≡ total) where
  pub side_next : (c : Clause) (here more : List Object) → i < length cs → c ≡ get_or cs i c → here ≡ side t (communication_of c) → more ≡ touched ++ here
      → more ++ flat_map (side t) (communications_of (drop (i + 1) cs)) ≡ total
  side_next c here more h at is are =
      let rest : List Object = flat_map (side t) (communications_of (drop (i + 1) cs)) in
      ap (λ l. l ++ rest) (are ∙ ap (λ l. touched ++ l) is)
      ∙ append_assoc touched (side t (communication_of c)) rest
      ∙ ap (λ l. touched ++ flat_map (side t) (communications_of l)) (sym (first_left cs i c h at))
      ∙ told

  pub sides_told : length cs ≤ i → touched ≡ total
  sides_told h =
      sym (append-nil touched) ∙ ap (λ l. touched ++ flat_map (side t) (communications_of l)) (sym (drop_of_length-le cs h)) ∙ told

-- what is so of all communications is so of the first that is left, and of the others
pub first_so : (p : Communication → Bool) (cs : List Clause) (i : ℕ) (c : Clause) → i < length cs → c ≡ get_or cs i c
    → list_all p (communications_of (drop i cs)) ≡ true
    → (p (communication_of c) ≡ true) × (list_all p (communications_of (drop (i + 1) cs)) ≡ true)
first_so p cs i c h at all =
    and_parts (p (communication_of c)) (list_all p (communications_of (drop (i + 1) cs)))
    (ap (λ l. list_all p (communications_of l)) (sym (first_left cs i c h at)) ∙ all)
