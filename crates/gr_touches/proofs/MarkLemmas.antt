-- Marks that are set touch by touch.
use Rattle.std.proofs.Common.{◌≡◌, ◌<◌, ◌≤◌, ◌+◌, ◌==◌, ◌||◌, ◌&&◌, ℕ, zero, suc, Bool, true, false, nat_lt, cond, List, [], ◌∷◌, ◌++◌, length, take, drop, slice_index_or, refl, sym, ap, subst, ◌∙◌, eqb-true, inl, inr, arith}
use Rattle.std.specs.List.{list_any}
use Rattle.std.proofs.lemmas.Bool.{cases_Bool}
use Rattle.std.proofs.lemmas.Bool.Decides.{nat_tests}
use Rattle.std.proofs.lemmas.List.{take_more, drop_more}
use Rattle.gr_touches.specs.declared.touch.Touch.{Touch}
use Rattle.gr_touches.specs.declared.marks.LogSide.TheVariants.{Later, Earlier}
use Rattle.gr_touches.specs.declared.marks.Origin.{Origin}
use Rattle.gr_touches.specs.declared.marks.Wanted.{Wanted}
use Rattle.gr_touches.specs.Marks.{takes, wanted, hits, is_on, is_beyond, IsAscending, InReach, has_mark, Marks}

lt_true : (a b : ℕ) → a < b → nat_lt a b ≡ true
lt_true a b h = grind (arith, nat_tests)

true_lt : (a b : ℕ) → nat_lt a b ≡ true → a < b
true_lt a b h = grind (arith, nat_tests)

not_equal : (a b : ℕ) → (a ≡ b → ⊥) → (a == b) ≡ false
not_equal a b h = elim (cases_Bool (a == b)) [ inl t ↦ absurd (h (eqb-true a b t)) | inr f ↦ f ]

pub later_than : (o : Origin) (p : ℕ) → o.side ≡ Later → o.place < p → is_beyond o p ≡ true
later_than o p e h = ap (λ s. is_on s o.place p) e ∙ lt_true o.place p h

pub earlier_than : (o : Origin) (p : ℕ) → o.side ≡ Earlier → p < o.place → is_beyond o p ≡ true
earlier_than o p e h = ap (λ s. is_on s o.place p) e ∙ lt_true p o.place h

is_later : (o : Origin) (p : ℕ) → o.side ≡ Later → is_beyond o p ≡ true → o.place < p
is_later o p e h = true_lt o.place p (sym (ap (λ s. is_on s o.place p) e) ∙ h)

is_earlier : (o : Origin) (p : ℕ) → o.side ≡ Earlier → is_beyond o p ≡ true → p < o.place
is_earlier o p e h = true_lt p o.place (sym (ap (λ s. is_on s o.place p) e) ∙ h)

pub reach_at : (o : Origin) (n : ℕ) (ts : List Touch) (i : ℕ) (d : Touch) → InReach o n ts → i < length ts → is_beyond o (slice_index_or ts i d).place ≡ true
    → (o.base ≤ (slice_index_or ts i d).place) × ((slice_index_or ts i d).place < o.base + n)
reach_at o n [] i d h w b = absurd (omega arith)
reach_at o n (t ∷ ts) zero d h w b = h.0 b
reach_at o n (t ∷ ts) (suc i) d h w b = reach_at o n ts i d h.1 (omega arith) b

-- one touch more
pub hits_first : (which : Wanted) (t : Touch) (ts : List Touch) (p : ℕ) → hits which (t ∷ ts) p ≡ (((takes which t.writes) && (t.place == p)) || hits which ts p)
hits_first which t ts p = by (takes which t.writes)
  where
    by : (w : Bool) → list_any (λ x. x.place == p) (cond w (t ∷ wanted which ts) (wanted which ts)) ≡ ((w && (t.place == p)) || hits which ts p)
    by true = refl
    by false = refl

hits_last : (which : Wanted) (ts : List Touch) (t : Touch) (p : ℕ) → hits which (ts ++ t ∷ []) p ≡ (hits which ts p || ((takes which t.writes) && (t.place == p)))
hits_last which [] t p = hits_first which t [] p ∙ or_nothing ((takes which t.writes) && (t.place == p))
  where
    or_nothing : (b : Bool) → (b || false) ≡ b
    or_nothing true = refl
    or_nothing false = refl
hits_last which (x ∷ ts) t p =
    hits_first which x (ts ++ t ∷ []) p ∙ ap (λ b. ((takes which x.writes) && (x.place == p)) || b) (hits_last which ts t p)
    ∙ or_assoc ((takes which x.writes) && (x.place == p)) (hits which ts p) ((takes which t.writes) && (t.place == p))
    ∙ ap (λ b. b || ((takes which t.writes) && (t.place == p))) (sym (hits_first which x ts p))
  where
    or_assoc : (a b c : Bool) → (a || (b || c)) ≡ ((a || b) || c)
    or_assoc true b c = refl
    or_assoc false b c = refl

pub hits_not : (which : Wanted) (t : Touch) (ts : List Touch) (p : ℕ) → (t.place ≡ p → ⊥) → hits which (t ∷ ts) p ≡ hits which ts p
hits_not which t ts p h = hits_first which t ts p ∙ ap (λ e. ((takes which t.writes) && e) || hits which ts p) (not_equal t.place p h) ∙ by (takes which t.writes)
  where
    by : (w : Bool) → ((w && false) || hits which ts p) ≡ hits which ts p
    by true = refl
    by false = refl

-- what stands at a number of an ascending list is no less
least : (n : ℕ) (ts : List Touch) (i : ℕ) (d : Touch) → IsAscending n ts → i < length ts → n ≤ (slice_index_or ts i d).place
least n [] i d h w = absurd (omega arith)
least n (t ∷ ts) zero d h w = h.0
least n (t ∷ ts) (suc i) d h w = let rest = least (suc t.place) ts i d h.1 (omega arith) in omega (arith, rest, h.0)

pub none_below : (which : Wanted) (n : ℕ) (ts : List Touch) (p : ℕ) → IsAscending n ts → p < n → hits which ts p ≡ false
none_below which n [] p h w = refl
none_below which n (t ∷ ts) p h w = hits_not which t ts p (λ e. omega (arith, h.0, e)) ∙ none_below which (suc t.place) ts p h.1 (omega (arith, h.0))

pub cut_later : (which : Wanted) (n : ℕ) (ts : List Touch) (i : ℕ) (d : Touch) (q p : ℕ) → IsAscending n ts → i < length ts → (slice_index_or ts i d).place ≤ q → q < p
    → hits which (drop (suc i) ts) p ≡ hits which ts p
cut_later which n [] i d q p h w le lt = absurd (omega arith)
cut_later which n (t ∷ ts) zero d q p h w le lt = sym (hits_not which t ts p (λ e. omega arith))
cut_later which n (t ∷ ts) (suc i) d q p h w le lt =
    let low = least (suc t.place) ts i d h.1 (omega arith) in
    cut_later which (suc t.place) ts i d q p h.1 (omega arith) le lt ∙ sym (hits_not which t ts p (λ e. omega arith))

cut_earlier : (which : Wanted) (n : ℕ) (ts : List Touch) (i : ℕ) (d : Touch) (q p : ℕ) → IsAscending n ts → i < length ts → q ≤ (slice_index_or ts i d).place → p < q
    → hits which (take i ts) p ≡ hits which ts p
cut_earlier which n [] i d q p h w le lt = absurd (omega arith)
cut_earlier which n (t ∷ ts) zero d q p h w le lt =
    sym (hits_not which t ts p (λ e. omega arith) ∙ none_below which (suc t.place) ts p h.1 (omega arith))
cut_earlier which n (t ∷ ts) (suc i) d q p h w le lt =
    hits_first which t (take i ts) p ∙ ap (λ b. ((takes which t.writes) && (t.place == p)) || b) (cut_earlier which (suc t.place) ts i d q p h.1 (omega arith) le lt)
    ∙ sym (hits_first which t ts p)

guarded : (b x y : Bool) → (b ≡ true → x ≡ y) → (b && x) ≡ (b && y)
guarded true x y h = h refl
guarded false x y h = refl

-- the mark of one touch
abbrev pub Sets : Origin → Wanted → Touch → List Bool → List Bool → Type 0
Sets o which t old new = (j : ℕ) → j < length old → has_mark new j ≡ (has_mark old j || ((takes which t.writes) && (t.place == o.base + j)))

module _ (o : Origin) (which : Wanted) (ts : List Touch) (i : ℕ) (d : Touch) (w : i < length ts) (a b c : List Bool) where
  abbrev t : Touch
  t = slice_index_or ts i d

  pub later_done : o.side ≡ Later → IsAscending 0 ts → t.place ≤ o.place → Marks o (hits which (drop (i + 1) ts)) a b → Marks o (hits which ts) a b
  later_done side up le marks j h =
      marks j h ∙ ap (λ x. has_mark a j || x)
      (guarded (is_beyond o (o.base + j)) _ _
      (λ e. let low = is_later o (o.base + j) side e in let s : i + 1 ≡ suc i = omega arith in
      ap (λ n. hits which (drop n ts) (o.base + j)) s ∙ cut_later which 0 ts i d o.place (o.base + j) up w le low))

  pub earlier_done : o.side ≡ Earlier → IsAscending 0 ts → o.place ≤ t.place → Marks o (hits which (take i ts)) a b → Marks o (hits which ts) a b
  earlier_done side up le marks j h =
      marks j h ∙ ap (λ x. has_mark a j || x)
      (guarded (is_beyond o (o.base + j)) _ _
      (λ e. let low = is_earlier o (o.base + j) side e in cut_earlier which 0 ts i d o.place (o.base + j) up w le low))

  module _ (beyond : is_beyond o t.place ≡ true) (same_length : length b ≡ length a) (sets : Sets o which t b c) where
    at_place : (p : ℕ) → (t.place == p) ≡ true → is_beyond o p ≡ true
    at_place p e = subst (λ n. is_beyond o n ≡ true) (eqb-true t.place p e) beyond

    pub later_more : Marks o (hits which (drop (i + 1) ts)) a b → Marks o (hits which (drop i ts)) a c
    later_more marks j h =
        let first = drop_more ts i d w in
        sets j (omega arith) ∙ ap (λ x. x || ((takes which t.writes) && (t.place == o.base + j))) (marks j h)
        ∙ join (has_mark a j) (is_beyond o (o.base + j)) (hits which (drop (i + 1) ts) (o.base + j)) (takes which t.writes) (t.place == o.base + j) (at_place (o.base + j))
        ∙ ap (λ x. has_mark a j || (is_beyond o (o.base + j) && x)) (sym (ap (λ l. hits which l (o.base + j)) first ∙ hits_first which t (drop (i + 1) ts) (o.base + j)))
      where
        join : (x b h w e : Bool) → (e ≡ true → b ≡ true) → ((x || (b && h)) || (w && e)) ≡ (x || (b && ((w && e) || h)))
        join true b h w e k = refl
        join false true h w e k = or_comm h (w && e)
          where
            or_comm : (a b : Bool) → (a || b) ≡ (b || a)
            or_comm true true = refl
            or_comm true false = refl
            or_comm false true = refl
            or_comm false false = refl
        join false false h true true k = sym (k refl)
        join false false h true false k = refl
        join false false h false e k = refl

    pub earlier_more : Marks o (hits which (take i ts)) a b → Marks o (hits which (take (i + 1) ts)) a c
    earlier_more marks j h =
        let last = take_more ts i d w in
        sets j (omega arith) ∙ ap (λ x. x || ((takes which t.writes) && (t.place == o.base + j))) (marks j h)
        ∙ join (has_mark a j) (is_beyond o (o.base + j)) (hits which (take i ts) (o.base + j)) (takes which t.writes) (t.place == o.base + j) (at_place (o.base + j))
        ∙ ap (λ x. has_mark a j || (is_beyond o (o.base + j) && x)) (sym (ap (λ l. hits which l (o.base + j)) last ∙ hits_last which (take i ts) t (o.base + j)))
      where
        join : (x b h w e : Bool) → (e ≡ true → b ≡ true) → ((x || (b && h)) || (w && e)) ≡ (x || (b && (h || (w && e))))
        join true b h w e k = refl
        join false true h w e k = refl
        join false false h true true k = sym (k refl)
        join false false h true false k = refl
        join false false h false e k = refl
