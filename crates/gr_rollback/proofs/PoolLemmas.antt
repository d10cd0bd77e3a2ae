-- Names that are made ready or not in a pool.
use Rattle.std.proofs.Common.{◌≡◌, ℕ, zero, suc, arith, ◌+◌, ◌<◌, Bool, true, false, ◌||◌, if◌then◌else◌, List, [], ◌∷◌, ◌++◌, length, take, inl, inr, get_or, refl, ap, sym, ◌∙◌, subst}
use Rattle.std.specs.declared.cmp.Ordering.{Ordering}
use Rattle.std.specs.declared.cmp.Ordering.TheVariants.{Less, Equal, Greater}
use Rattle.std.proofs.lemmas.Bool.{cases_Bool}
use Rattle.std.proofs.lemmas.List.Folds.{list_any-append, list_any_more, list_any_at}
use Rattle.std.proofs.lemmas.Map.Lookups.{exact_bytes}
use Rattle.gr_base.specs.Names.{go_cmp}
use Rattle.gr_rules.specs.States.{same_go}
use Rattle.gr_laws.proofs.CellLemmas.{go_self, go_is}
use Rattle.gr_refine.specs.Contents.{Contents}
use Rattle.gr_pool.specs.Goroutines as pools
use Rattle.gr_pool.specs.Goroutines.{is_among, lesser, greater, with_name, without_name}
use Rattle.gr_pool.proofs.Order.{ties_itself}
use Rattle.gr_goros.specs.declared.undo.GoUndo.{GoUndo}
use Rattle.gr_rollback.specs.Readiness.{IsReadyIn, IsAsIn, Settles, KnowsMore, KnowsReady, names_met}
use Rattle.gr_rollback.proofs.Basics.{or_left, or_right, true_not_false, neither}

no_tie : {o : Ordering} → o ≡ Equal → o ≡ Less → ⊥
no_tie e f = cc

no_great : {o : Ordering} → o ≡ Equal → o ≡ Greater → ⊥
no_great e f = cc

or_false : (a b : Bool) → a ≡ false → b ≡ false → (a || b) ≡ false
or_false a b e f = rw (e, f) refl

or_same : (a b : Bool) → b ≡ false → (a || b) ≡ a
or_same true b e = refl
or_same false b e = e

-- a name of a list that has one more in front
one_more : (x b c : Bool) (rest : Bool) → (b || c) ≡ rest → ((x || b) || c) ≡ (x || rest)
one_more true b c rest e = refl
one_more false b c rest e = e

further_on : (x b c : Bool) (rest : Bool) → (b || c) ≡ rest → (b || (x || c)) ≡ (x || rest)
further_on true true c rest e = refl
further_on true false c rest e = refl
further_on false b c rest e = e

left_out : (x b c : Bool) (rest : Bool) → x ≡ false → (b || c) ≡ rest → (b || c) ≡ (x || rest)
left_out true b c rest e f = cc
left_out false b c rest e f = f

-- a name other than this one stands among the lesser or among the greater ones
apart : (h n : List ℕ) (xs : List (List ℕ)) → same_go h n ≡ false → (is_among h (lesser n xs) || is_among h (greater n xs)) ≡ is_among h xs
apart h n [] other = refl
apart h n (x ∷ xs) other = by_order (apart h n xs other) (go_cmp x n) refl
  where
    by_order : (is_among h (lesser n xs) || is_among h (greater n xs)) ≡ is_among h xs → (o : Ordering) → go_cmp x n ≡ o → (is_among h (lesser n (x ∷ xs)) || is_among h (greater n (x ∷ xs))) ≡ is_among h (x ∷ xs)
    by_order rest Less e = rw e (one_more (same_go h x) (is_among h (lesser n xs)) (is_among h (greater n xs)) (is_among h xs) rest)
    by_order rest Greater e = rw e (further_on (same_go h x) (is_among h (lesser n xs)) (is_among h (greater n xs)) (is_among h xs) rest)
    by_order rest Equal e =
        rw e (left_out (same_go h x) (is_among h (lesser n xs)) (is_among h (greater n xs)) (is_among h xs)
        (ap (same_go h) (exact_bytes x n e) ∙ other) rest)

-- this one does not
not_lesser : (n : List ℕ) (xs : List (List ℕ)) → is_among n (lesser n xs) ≡ false
not_lesser n [] = refl
not_lesser n (x ∷ xs) = by_order (not_lesser n xs) (go_cmp x n) refl
  where
    other : (o : Ordering) → go_cmp x n ≡ o → (o ≡ Equal → ⊥) → same_go n x ≡ false
    other o e h = elim (cases_Bool (same_go n x)) [ inl t ↦ absurd (h (sym e ∙ ap (λ m. go_cmp m n) (sym (go_is n x t)) ∙ ties_itself n)) | inr f ↦ f ]

    by_order : is_among n (lesser n xs) ≡ false → (o : Ordering) → go_cmp x n ≡ o → is_among n (lesser n (x ∷ xs)) ≡ false
    by_order rest Less e = rw e (or_false (same_go n x) (is_among n (lesser n xs)) (other Less e (λ h. cc)) rest)
    by_order rest Greater e = rw e rest
    by_order rest Equal e = rw e rest

not_greater : (n : List ℕ) (xs : List (List ℕ)) → is_among n (greater n xs) ≡ false
not_greater n [] = refl
not_greater n (x ∷ xs) = by_order (not_greater n xs) (go_cmp x n) refl
  where
    other : (o : Ordering) → go_cmp x n ≡ o → (o ≡ Equal → ⊥) → same_go n x ≡ false
    other o e h = elim (cases_Bool (same_go n x)) [ inl t ↦ absurd (h (sym e ∙ ap (λ m. go_cmp m n) (sym (go_is n x t)) ∙ ties_itself n)) | inr f ↦ f ]

    by_order : is_among n (greater n xs) ≡ false → (o : Ordering) → go_cmp x n ≡ o → is_among n (greater n (x ∷ xs)) ≡ false
    by_order rest Greater e = rw e (or_false (same_go n x) (is_among n (greater n xs)) (other Greater e (λ h. cc)) rest)
    by_order rest Less e = rw e rest
    by_order rest Equal e = rw e rest

-- the names with one more have it, and without it they have not; of others nothing changes
pub with_itself : (n : List ℕ) (xs : List (List ℕ)) → is_among n (with_name n xs) ≡ true
with_itself n xs =
    list_any-append (same_go n) (lesser n xs) (n ∷ greater n xs)
    ∙ or_right (is_among n (lesser n xs)) (is_among n (n ∷ greater n xs)) (or_left (same_go n n) (is_among n (greater n xs)) (go_self n))

pub without_itself : (n : List ℕ) (xs : List (List ℕ)) → is_among n (without_name n xs) ≡ false
without_itself n xs =
    list_any-append (same_go n) (lesser n xs) (greater n xs)
    ∙ or_false (is_among n (lesser n xs)) (is_among n (greater n xs)) (not_lesser n xs) (not_greater n xs)

pub with_others : (h n : List ℕ) (xs : List (List ℕ)) → same_go h n ≡ false → is_among h (with_name n xs) ≡ is_among h xs
with_others h n xs other =
    list_any-append (same_go h) (lesser n xs) (n ∷ greater n xs)
    ∙ ap (λ b. is_among h (lesser n xs) || (b || is_among h (greater n xs))) other ∙ apart h n xs other

pub without_others : (h n : List ℕ) (xs : List (List ℕ)) → same_go h n ≡ false → is_among h (without_name n xs) ≡ is_among h xs
without_others h n xs other = list_any-append (same_go h) (lesser n xs) (greater n xs) ∙ apart h n xs other

-- the one name of a list
only_name : (h n : List ℕ) → is_among h (n ∷ []) ≡ same_go h n
only_name h n = or_same (same_go h n) false refl

pub itself_alone : (n : List ℕ) → is_among n (n ∷ []) ≡ true
itself_alone n = only_name n n ∙ go_self n

-- a goroutine is made ready where it is so
pub settles_ready : (s : Contents) (n : List ℕ) (old new : pools.Goroutines) → IsReadyIn s n → new.ready ≡ with_name n old.ready → new.known ≡ old.known
    → Settles (n ∷ []) s old new
settles_ready s n old new up ready known = record {
  known = known;
  these = λ h t. let is : h ≡ n = go_is h n (sym (only_name h n) ∙ t) in record {
    has = λ r. ap (is_among h) ready ∙ ap (λ m. is_among m (with_name n old.ready)) is ∙ with_itself n old.ready;
    only = λ r. subst (IsReadyIn s) (sym is) up;
  };
  others = λ h f. ap (is_among h) ready ∙ with_others h n old.ready (sym (only_name h n) ∙ f);
}

-- a goroutine that is not ready is made unready
pub settles_unready : (s : Contents) (n : List ℕ) (old new : pools.Goroutines) → (IsReadyIn s n → ⊥) → new.ready ≡ without_name n old.ready → new.known ≡ old.known
    → Settles (n ∷ []) s old new
settles_unready s n old new down ready known = record {
  known = known;
  these = λ h t. let is : h ≡ n = go_is h n (sym (only_name h n) ∙ t) in
      let gone : is_among h new.ready ≡ false = ap (is_among h) ready ∙ ap (λ m. is_among m (without_name n old.ready)) is ∙ without_itself n old.ready in
      record {
        has = λ r. absurd (down (subst (IsReadyIn s) is r));
        only = λ r. absurd (true_not_false r gone);
      };
  others = λ h f. ap (is_among h) ready ∙ without_others h n old.ready (sym (only_name h n) ∙ f);
}

-- no name, and one name more
pub settles_none : (s : Contents) (pool : pools.Goroutines) → Settles [] s pool pool
settles_none s pool = record { known = refl; these = λ n t. absurd (true_not_false t refl); others = λ n f. refl }

as_before : (s : Contents) (old new : pools.Goroutines) (n : List ℕ) → is_among n new.ready ≡ is_among n old.ready → IsAsIn old s n → IsAsIn new s n
as_before s old new n same was = record { has = λ r. same ∙ was.has r; only = λ t. was.only (sym same ∙ t) }

module _ (names : List (List ℕ)) (i : ℕ) (here : List ℕ) (within : i < length names) (is_here : here ≡ get_or names i here) where
  among_next : (h : List ℕ) → is_among h (take (i + 1) names) ≡ (is_among h (take i names) || same_go h here)
  among_next h = list_any_more (same_go h) names i here within ∙ ap (λ m. is_among h (take i names) || same_go h m) (sym is_here)

  pub settles_more : (s : Contents) (old mid new : pools.Goroutines) → Settles (take i names) s old mid → Settles (here ∷ []) s mid new
      → Settles (take (i + 1) names) s old new
  settles_more s old mid new first next = record { known = next.known ∙ first.known; these = these; others = others }
    where
      earlier : (h : List ℕ) → is_among h (take (i + 1) names) ≡ true → same_go h here ≡ false → is_among h (take i names) ≡ true
      earlier h t f = sym (or_same (is_among h (take i names)) (same_go h here) f) ∙ sym (among_next h) ∙ t

      these : (h : List ℕ) → is_among h (take (i + 1) names) ≡ true → IsAsIn new s h
      these h t = elim (cases_Bool (same_go h here)) [
        | inl e ↦ next.these h (only_name h here ∙ e)
        | inr f ↦ as_before s mid new h (next.others h (only_name h here ∙ f)) (first.these h (earlier h t f))
      ]

      others : (h : List ℕ) → is_among h (take (i + 1) names) ≡ false → is_among h new.ready ≡ is_among h old.ready
      others h f =
          let both = neither (is_among h (take i names)) (same_go h here) (sym (among_next h) ∙ f) in
          next.others h (only_name h here ∙ both.1) ∙ first.others h both.0

  -- the name at a place is one of the names
  pub among_here : is_among here names ≡ true
  among_here = list_any_at (same_go here) names i here within (ap (same_go here) (sym is_here) ∙ go_self here)

  -- it is known where it is ready, if that is so of each of them
  pub ready_here : (s : Contents) (old pool : pools.Goroutines) → pool.known ≡ old.known → KnowsReady names s old → KnowsReady (here ∷ []) s pool
  ready_here s old pool same knows h among up =
      ap (is_among h) same
      ∙ knows h (subst (λ m. is_among m names ≡ true) (sym (go_is h here (sym (only_name h here) ∙ among))) among_here) up

-- a name that becomes known leaves the others known
kept_among : (h n : List ℕ) (xs : List (List ℕ)) → is_among h xs ≡ true → is_among h (xs ++ n ∷ []) ≡ true
kept_among h n xs t = list_any-append (same_go h) xs (n ∷ []) ∙ or_left (is_among h xs) (is_among h (n ∷ [])) t

pub knows_one_more : (n : List ℕ) (old new : pools.Goroutines) → new.known ≡ (if is_among n old.known then old.known else old.known ++ n ∷ []) → KnowsMore old new
knows_one_more n old new is = by_test (is_among n old.known) is
  where
    by_test : (b : Bool) → new.known ≡ (if b then old.known else old.known ++ n ∷ []) → KnowsMore old new
    by_test true e h t = ap (is_among h) e ∙ t
    by_test false e h t = ap (is_among h) e ∙ kept_among h n old.known t

-- one that was ready and is leaves the pool as it is
pub settles_still : (s : Contents) (n : List ℕ) (pool : pools.Goroutines) → IsReadyIn s n → is_among n pool.ready ≡ true → Settles (n ∷ []) s pool pool
settles_still s n pool is was = record {
  known = refl;
  these = λ h among. record {
    has = λ up. ap (λ m. is_among m pool.ready) (same h among) ∙ was;
    only = λ up. subst (IsReadyIn s) (sym (same h among)) is;
  };
  others = λ h none. refl;
}
  where
    same : (h : List ℕ) → is_among h (n ∷ []) ≡ true → h ≡ n
    same h among = go_is h n (sym (only_name h n) ∙ among)

-- names, and then others
pub settles_join : (names more : List (List ℕ)) (s : Contents) (old mid new : pools.Goroutines) → Settles names s old mid → Settles more s mid new
    → Settles (names ++ more) s old new
settles_join names more s old mid new first next = record { known = next.known ∙ first.known; these = these; others = others }
  where
    both : (h : List ℕ) → is_among h (names ++ more) ≡ (is_among h names || is_among h more)
    both h = list_any-append (same_go h) names more

    these : (h : List ℕ) → is_among h (names ++ more) ≡ true → IsAsIn new s h
    these h t = elim (cases_Bool (is_among h more)) [
      | inl e ↦ next.these h e
      | inr f ↦ as_before s mid new h (next.others h f) (first.these h (sym (or_same (is_among h names) (is_among h more) f) ∙ sym (both h) ∙ t))
    ]

    others : (h : List ℕ) → is_among h (names ++ more) ≡ false → is_among h new.ready ≡ is_among h old.ready
    others h f =
        let apart = neither (is_among h names) (is_among h more) (sym (both h) ∙ f) in
        next.others h apart.1 ∙ first.others h apart.0

-- the name of a goroutine at a place
pub met_here : (met : List (List ℕ × GoUndo)) (i : ℕ) (e : List ℕ × GoUndo) → i < length met → e ≡ get_or met i e
    → (i < length (names_met met)) × (e.0 ≡ get_or (names_met met) i e.0)
met_here [] i e within is = absurd (omega (arith, within))
met_here (x ∷ met) zero e within is = (omega arith, ap (λ y. y.0) is)
met_here (x ∷ met) (suc i) e within is =
    let rest = met_here met i e (omega (arith, within)) is in
    (omega (arith, rest.0), rest.1)
