-- Who waits on a channel, found one after the other.
use Rattle.std.proofs.Common.{◌≡◌, ℕ, zero, suc, ◌+◌, ◌-◌, ◌<◌, ◌≤◌, Bool, true, false, not, ◌||◌, cond, if◌then◌else◌, reverse, arith, List, [], ◌∷◌, ◌++◌, length, map, drop, get_or, Some, None, refl, sym, ap, ◌∙◌, append-nil, append_assoc}
use Rattle.std.specs.List.{slice_get, list_any}
use Rattle.std.specs.BTreeSet.{BTreeSet, contains, Updates}
use Rattle.std.specs.Cmp.Lexicographic.{slice_cmp}
use Rattle.std.specs.Ordering.{nat_cmp, is_eq}
use Rattle.std.proofs.lemmas.List.{reverse-append}
use Rattle.std.proofs.lemmas.Map.Text.{is_eq-slice_cmp}
use Rattle.gr_rules.specs.Communications.{once}
use Rattle.gr_rules.specs.States.{same_go}
use Rattle.gr_refine.proofs.NameLemmas.{go_sym}
use Rattle.std.proofs.lemmas.Option.{slice_get_within, get_or_from_slice_get}
use Rattle.gr_channels.specs.declared.waiter.Waiter.{Waiter}
use Rattle.gr_step.proofs.QueueLemmas.{first_left}

-- past the end of a list nothing is left
none_left : {X : Type 0} (xs : List X) (i : ℕ) → slice_get xs i ≡ None → drop i xs ≡ []
none_left [] zero h = refl
none_left [] (suc i) h = refl
none_left (x ∷ xs) zero h = absurd (let no : Some x ≡ None = h in cc)
none_left (x ∷ xs) (suc i) h = none_left xs i h

module _ {X : Type 0} (ws : List (Waiter X)) (i : ℕ) (names total : List (List ℕ)) (told : names ++ map (λ w. w.go) (drop i ws) ≡ total) where
  pub all_pushed : slice_get ws i ≡ None → names ≡ total
  all_pushed none = sym (append-nil names) ∙ ap (λ l. names ++ map (λ w. w.go) l) (sym (none_left ws i none)) ∙ told

  pub one_pushed : (w : Waiter X) (more : List (List ℕ)) → slice_get ws i ≡ Some w → more ≡ names ++ w.go ∷ []
      → more ++ map (λ w. w.go) (drop (i + 1) ws) ≡ total
  one_pushed w more is are =
      let rest : List (List ℕ) = map (λ w. w.go) (drop (i + 1) ws) in
      ap (λ l. l ++ rest) are
      ∙ append_assoc names (w.go ∷ []) rest
      ∙ ap (λ l. names ++ map (λ w. w.go) l) (sym (first_left ws i w (slice_get_within ws i w is) (sym (get_or_from_slice_get ws i w w is))))
      ∙ told

-- names from the last one on, each once, and those that were seen
module _ (names : List (List ℕ)) (place : ℕ) (left : 0 < place) (within : place ≤ length names) (name : List ℕ) (at : name ≡ get_or names (place - 1) name)
    (kept : List (List ℕ)) (seen : BTreeSet (List ℕ)) (told : reverse kept ≡ once (drop place names))
    (known : (q : List ℕ) → contains (slice_cmp nat_cmp) seen q ≡ list_any (same_go q) (drop place names)) (key : List ℕ) (is : key ≡ name) where
  next : drop (place - 1) names ≡ name ∷ drop place names
  next =
      let below : place - 1 < length names = omega arith in
      let again : place - 1 + 1 ≡ place = omega arith in
      first_left names (place - 1) name below at ∙ ap (λ i. name ∷ drop i names) again

  pub known_next : (new : BTreeSet (List ℕ)) → Updates (slice_cmp nat_cmp) seen new key true
      → (q : List ℕ) → contains (slice_cmp nat_cmp) new q ≡ list_any (same_go q) (drop (place - 1) names)
  known_next new updates q =
      let here : is_eq (slice_cmp nat_cmp key q) ≡ same_go q name = is_eq-slice_cmp key q ∙ go_sym key q ∙ ap (same_go q) is in
      updates.0 q
      ∙ ap (λ b. cond b true (contains (slice_cmp nat_cmp) seen q)) here
      ∙ ap (cond (same_go q name) true) (known q)
      ∙ or_is (same_go q name) (list_any (same_go q) (drop place names))
      ∙ ap (list_any (same_go q)) (sym next)
    where
      or_is : (a b : Bool) → cond a true b ≡ (a || b)
      or_is true b = refl
      or_is false b = refl

  was_there : (b : Bool) → b ≡ not (contains (slice_cmp nat_cmp) seen key) → list_any (same_go name) (drop place names) ≡ not b
  was_there b added =
      sym (ap (λ q. list_any (same_go q) (drop place names)) is)
      ∙ sym (known key)
      ∙ twice (contains (slice_cmp nat_cmp) seen key)
      ∙ ap not (sym added)
    where
      twice : (b : Bool) → b ≡ not (not b)
      twice true = refl
      twice false = refl

  pub told_again : (b : Bool) → b ≡ not (contains (slice_cmp nat_cmp) seen key) → b ≡ false → reverse kept ≡ once (drop (place - 1) names)
  told_again b added old =
      let there : list_any (same_go name) (drop place names) ≡ true = was_there b added ∙ ap not old in
      told ∙ sym (ap once next ∙ ap (λ t. if t then once (drop place names) else name ∷ once (drop place names)) there)

  pub told_new : (b : Bool) (more : List (List ℕ)) → b ≡ not (contains (slice_cmp nat_cmp) seen key) → b ≡ true → more ≡ kept ++ name ∷ []
      → reverse more ≡ once (drop (place - 1) names)
  told_new b more added new are =
      let there : list_any (same_go name) (drop place names) ≡ false = was_there b added ∙ ap not new in
      ap reverse are
      ∙ reverse-append kept (name ∷ [])
      ∙ ap (λ l. name ∷ l) told
      ∙ sym (ap once next ∙ ap (λ t. if t then once (drop place names) else name ∷ once (drop place names)) there)
