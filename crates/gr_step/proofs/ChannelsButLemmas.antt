-- The channels of waits, found one after the other.
use Rattle.std.proofs.Common.{◌≡◌, ℕ, ◌+◌, ◌<◌, ◌≤◌, Bool, true, false, ◌||◌, List, [], ◌∷◌, ◌++◌, length, drop, get_or, drop-cons, add-one, suc, refl, sym, ap, ◌∙◌, append-nil, append_assoc, drop_of_length-le}
use Rattle.std.specs.List.{list_any}
use Rattle.std.proofs.lemmas.List.Folds.{list_any-append}
use Rattle.std.proofs.lemmas.Bool.{cases_Bool}
use Rattle.gr_base.specs.declared.names.ChName.{ChName}
use Rattle.gr_refine.proofs.NameLemmas.{channel_self}
use Rattle.gr_rules.specs.Operators.{same_channel}
use Rattle.gr_rules.specs.Goroutines as rules
use Rattle.gr_rules.specs.Goroutines.{channel_of}
use Rattle.gr_rules.specs.Actors.{channels_but}
use Rattle.gr_goros.specs.declared.wait.Wait.{Wait}
use Rattle.gr_goros.specs.Views.{wait_of, waits_of}
use Rattle.std.proofs.Common.{inl, inr}

-- names that are the same but for their order
Alike : List ChName → List ChName → Type 0
Alike a b = (d : ChName) → list_any (same_channel d) a ≡ list_any (same_channel d) b

alike_after : (a b : List ChName) (ws : List rules.Wait) → Alike a b → channels_but a ws ≡ channels_but b ws
unfolding Alike
alike_after a b [] same = refl
alike_after a b (w ∷ ws) same = elim (cases_Bool (list_any (same_channel (channel_of w)) b)) [
  | inl t ↦ rw (same (channel_of w), t) (alike_after a b ws same)
  | inr n ↦ rw (same (channel_of w), n) (ap (λ ns. channel_of w ∷ ns)
      (alike_after (channel_of w ∷ a) (channel_of w ∷ b) ws (λ d. ap (λ k. same_channel d (channel_of w) || k) (same d))))
]

or_swapped : (a b c : Bool) → (a || (b || c)) ≡ (b || (a || c))
or_swapped true true c = refl
or_swapped true false c = refl
or_swapped false b c = refl

-- the name that was found last stands first among those that were seen, or last
alike_swapped : (names seen : List ChName) (c : ChName) → Alike (c ∷ (names ++ seen)) ((names ++ c ∷ []) ++ seen)
unfolding Alike
alike_swapped [] seen c d = refl
alike_swapped (n ∷ ns) seen c d =
    or_swapped (same_channel d c) (same_channel d n) (list_any (same_channel d) (ns ++ seen))
    ∙ ap (λ k. same_channel d n || k) (alike_swapped ns seen c d)

-- a goroutine that waits on this channel alone
pub none_but : (w : Wait) (c : ChName) → channel_of (wait_of w) ≡ c → channels_but (c ∷ []) (waits_of (w ∷ [])) ≡ []
none_but w c is = rw (is, channel_self c) refl

module _ (seen : List ChName) (ws : List Wait) (i : ℕ) (w : Wait) (names : List ChName) (below : i < length ws) (is : w ≡ get_or ws i w)
    (c : ChName) (of : c ≡ channel_of (wait_of w)) where
  first : waits_of (drop i ws) ≡ wait_of w ∷ waits_of (drop (i + 1) ws)
  first =
      let here : drop i ws ≡ w ∷ drop (i + 1) ws = rw add-one (drop-cons ws i w below ∙ ap (λ x. x ∷ drop (suc i) ws) (sym is)) in
      ap waits_of here

  -- a channel that was seen is not named again
  pub known : list_any (same_channel c) (names ++ seen) ≡ true
      → names ++ channels_but (names ++ seen) (waits_of (drop (i + 1) ws)) ≡ names ++ channels_but (names ++ seen) (waits_of (drop i ws))
  known t = rw (first, ← of, t) refl

  -- one that was not is named next
  pub found : list_any (same_channel c) (names ++ seen) ≡ false
      → (names ++ c ∷ []) ++ channels_but ((names ++ c ∷ []) ++ seen) (waits_of (drop (i + 1) ws))
      ≡ names ++ channels_but (names ++ seen) (waits_of (drop i ws))
  found n = rw (first, ← of, n)
      (append_assoc names (c ∷ []) _
      ∙ ap (λ l. names ++ (c ∷ l)) (sym (alike_after (c ∷ (names ++ seen)) ((names ++ c ∷ []) ++ seen) (waits_of (drop (i + 1) ws)) (alike_swapped names seen c))))

-- it was seen before, or found before, or neither
pub any_seen : (p : ChName → Bool) (names seen : List ChName) → list_any p seen ≡ true → list_any p (names ++ seen) ≡ true
any_seen p names seen t = list_any-append p names seen ∙ ap (λ b. list_any p names || b) t ∙ or_true (list_any p names)
  where
    or_true : (b : Bool) → (b || true) ≡ true
    or_true true = refl
    or_true false = refl

pub any_found : (p : ChName → Bool) (names seen : List ChName) → list_any p names ≡ true → list_any p (names ++ seen) ≡ true
any_found p names seen t = list_any-append p names seen ∙ ap (λ b. b || list_any p seen) t

pub in_neither : (p : ChName → Bool) (names seen : List ChName) → list_any p seen ≡ false → list_any p names ≡ false → list_any p (names ++ seen) ≡ false
in_neither p names seen a b = list_any-append p names seen ∙ ap (λ x. x || list_any p seen) b ∙ a

-- none are left
pub all_named : (seen : List ChName) (ws : List Wait) (i : ℕ) (names : List ChName) → length ws ≤ i
    → names ≡ names ++ channels_but (names ++ seen) (waits_of (drop i ws))
all_named seen ws i names h = rw (drop_of_length-le ws h) (sym (append-nil names))
