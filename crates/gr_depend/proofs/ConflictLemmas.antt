-- Conflicts of steps by the touches of their objects.
use Rattle.std.proofs.Common.{◌≡◌, ◌<◌, ◌≤◌, ◌+◌, ◌==◌, ◌||◌, ◌&&◌, ℕ, zero, suc, Bool, true, false, if◌then◌else◌, List, [], ◌∷◌, ◌++◌, length, slice_get, get_or, Some, refl, sym, ap, subst, ◌∙◌, eq-eqb, inl, inr, arith}
use Rattle.std.specs.List.{list_any}
use Rattle.std.proofs.lemmas.Bool.{cases_Bool}
use Rattle.std.proofs.lemmas.List.Folds.{list_any-append}
use Rattle.gr_base.specs.declared.objects.Object.{Object}
use Rattle.gr_causal.specs.Machine.{meets}
use Rattle.gr_rules.specs.States.{same}
use Rattle.gr_record.specs.declared.record.Record.{Record}
use Rattle.gr_record.specs.Conflicts.{written_by, read_by, touched_by, conflict_of}
use Rattle.gr_touches.specs.declared.touch.Touch.{Touch}
use Rattle.gr_touches.specs.declared.lanes.Lanes.{Lanes}
use Rattle.gr_touches.specs.declared.marks.Origin.{Origin}
use Rattle.gr_touches.specs.Touches.{is_among, touch_at, touches_in}
use Rattle.gr_touches.specs.Lists.{list_of}
use Rattle.gr_touches.specs.declared.marks.Wanted.{Wanted}
use Rattle.gr_touches.specs.declared.marks.Wanted.TheVariants as which_are
use Rattle.gr_touches.specs.Marks.{hits, is_beyond, IsAscending, InReach, has_mark, Marks}
use Rattle.gr_touches.specs.Walks.{AreInReach, meets_step}
use Rattle.gr_depend.specs.Marked.{conflict_at}
use Rattle.gr_touches.proofs.SameLemmas.{same_sym}
use Rattle.gr_touches.proofs.MarkLemmas.{hits_first, hits_not, none_below}
use Rattle.gr_depend.proofs.SpreadLemmas.{there}
use Rattle.std.proofs.lemmas.Option.{slice_get-get_or}

or_no_more : (b : Bool) → (b || false) ≡ b
or_no_more true = refl
or_no_more false = refl

-- the touches of an object ascend
pub touches_ascend : (o : Object) (s : ℕ) (rs : List Record) → IsAscending s (touches_in o s rs)
touches_ascend o s [] = tt
touches_ascend o s (r ∷ rs) = by (is_among o (touched_by r)) (touches_ascend o (suc s) rs)
  where
    wider : (n m : ℕ) (ts : List Touch) → m ≤ n → IsAscending n ts → IsAscending m ts
    wider n m [] le h = tt
    wider n m (t ∷ ts) le h = (omega (arith, h.0), h.1)

    by : (b : Bool) → IsAscending (suc s) (touches_in o (suc s) rs)
        → IsAscending s ((if b then record { place = s; writes = is_among o (written_by r) } ∷ [] else []) ++ touches_in o (suc s) rs)
    by true h = (omega arith, h)
    by false h = wider (suc s) s (touches_in o (suc s) rs) (omega arith) h

pub touches_in_reach : (origin : Origin) (count : ℕ) (o : Object) (s : ℕ) (rs : List Record)
    → ((p : ℕ) → p < s + length rs → is_beyond origin p ≡ true → (origin.base ≤ p) × (p < origin.base + count)) → InReach origin count (touches_in o s rs)
touches_in_reach origin count o s [] h = tt
touches_in_reach origin count o s (r ∷ rs) h =
    by (is_among o (touched_by r)) (touches_in_reach origin count o (suc s) rs (λ p w b. h p (omega arith) b)) (λ b. h s (omega arith) b)
  where
    by : (b : Bool) → InReach origin count (touches_in o (suc s) rs) → (is_beyond origin s ≡ true → (origin.base ≤ s) × (s < origin.base + count))
        → InReach origin count ((if b then record { place = s; writes = is_among o (written_by r) } ∷ [] else []) ++ touches_in o (suc s) rs)
    by true rest here = (here, rest)
    by false rest here = rest

-- whether the step has what is wanted of the object
abbrev wanted_of : Wanted → Bool → Bool → Bool
wanted_of which_are.All touched writes = touched
wanted_of which_are.Writes touched writes = writes

abbrev pub wants : Wanted → Object → Record → Bool
wants which o r = wanted_of which (is_among o (touched_by r)) (is_among o (written_by r))

hits_here : (which : Wanted) (o : Object) (s : ℕ) (r : Record) (ts : List Touch) → IsAscending (suc s) ts → hits which (touch_at o s r ++ ts) s ≡ wants which o r
hits_here which o s r ts up =
    by which (is_among o (touched_by r)) (is_among o (read_by r)) (is_among o (written_by r)) (list_any-append (same o) (read_by r) (written_by r))
  where
    self : (s == s) ≡ true
    self = eq-eqb s s refl

    by : (which : Wanted) (touched reads writes : Bool) → touched ≡ (reads || writes)
        → hits which ((if touched then record { place = s; writes = writes } ∷ [] else []) ++ ts) s ≡ wanted_of which touched writes
    by which_are.All true reads writes e = hits_first which_are.All (record { place = s; writes = writes }) ts s ∙ ap (λ b. b || hits which_are.All ts s) self
    by which_are.All false reads writes e = none_below which_are.All (suc s) ts s up (omega arith)
    by which_are.Writes true reads true e = hits_first which_are.Writes (record { place = s; writes = true }) ts s ∙ ap (λ b. b || hits which_are.Writes ts s) self
    by which_are.Writes true reads false e = hits_first which_are.Writes (record { place = s; writes = false }) ts s ∙ none_below which_are.Writes (suc s) ts s up (omega arith)
    by which_are.Writes false true writes e = cc
    by which_are.Writes false false true e = cc
    by which_are.Writes false false false e = none_below which_are.Writes (suc s) ts s up (omega arith)

hits_there : (which : Wanted) (o : Object) (s : ℕ) (r : Record) (ts : List Touch) (p : ℕ) → s < p → hits which (touch_at o s r ++ ts) p ≡ hits which ts p
hits_there which o s r ts p w = by (is_among o (touched_by r))
  where
    by : (b : Bool) → hits which ((if b then record { place = s; writes = is_among o (written_by r) } ∷ [] else []) ++ ts) p ≡ hits which ts p
    by true = hits_not which (record { place = s; writes = is_among o (written_by r) }) ts p (λ e. omega arith)
    by false = refl

pub hits_touched : (which : Wanted) (o : Object) (s : ℕ) (rs : List Record) (i : ℕ) (x : Record) → slice_get rs i ≡ Some x → hits which (touches_in o s rs) (s + i) ≡ wants which o x
hits_touched which o s [] i x h = cc
hits_touched which o s (r ∷ rs) zero x h =
    let at : s + 0 ≡ s = omega arith in
    let is : r ≡ x = cc in
    ap (hits which (touches_in o s (r ∷ rs))) at ∙ hits_here which o s r (touches_in o (suc s) rs) (touches_ascend o (suc s) rs) ∙ ap (wants which o) is
hits_touched which o s (r ∷ rs) (suc i) x h =
    let at : s + suc i ≡ suc s + i = omega arith in
    hits_there which o s r (touches_in o (suc s) rs) (s + suc i) (omega arith) ∙ ap (hits which (touches_in o (suc s) rs)) at ∙ hits_touched which o (suc s) rs i x h

-- `meets` is symmetric
any_none : (os : List Object) → list_any (λ o. false) os ≡ false
any_none [] = refl
any_none (o ∷ os) = any_none os

any_or : (f g : Object → Bool) (os : List Object) → list_any (λ o. f o || g o) os ≡ (list_any f os || list_any g os)
any_or f g [] = refl
any_or f g (o ∷ os) = ap (λ b. (f o || g o) || b) (any_or f g os) ∙ mix (f o) (g o) (list_any f os) (list_any g os)
  where
    mix : (a b c d : Bool) → ((a || b) || (c || d)) ≡ ((a || c) || (b || d))
    mix true b c d = refl
    mix false true true d = refl
    mix false true false d = refl
    mix false false c d = refl

meets_sym : (os ps : List Object) → meets same os ps ≡ meets same ps os
meets_sym os [] = any_none os
meets_sym os (p ∷ ps) =
    any_or (λ o. same o p) (λ o. list_any (same o) ps) os
    ∙ (λ i. list_any (λ o. same_sym o p i) os || meets_sym os ps i)

-- two steps conflict where the second wrote what the first read, or touched what the first wrote
pub conflict_split : (a b : Record) → conflict_of a b ≡ (list_any (λ o. is_among o (written_by b)) (read_by a) || list_any (λ o. is_among o (touched_by b)) (written_by a))
conflict_split a b =
    ap (λ x. meets same (written_by a) (touched_by b) || x)
    (meets_sym (written_by b) (touched_by a) ∙ list_any-append (λ o. is_among o (written_by b)) (read_by a) (written_by a))
    ∙ join (meets same (written_by a) (touched_by b)) (meets same (read_by a) (written_by b)) (meets same (written_by a) (written_by b)) (wider (written_by a))
  where
    wider : (os : List Object) → meets same os (written_by b) ≡ true → meets same os (touched_by b) ≡ true
    wider [] h = h
    wider (o ∷ os) h = elim (cases_Bool (is_among o (written_by b))) [
      | inl t ↦ ap (λ x. x || meets same os (touched_by b)) (list_any-append (same o) (read_by b) (written_by b) ∙ ap (λ x. is_among o (read_by b) || x) t ∙ or_true (is_among o (read_by b)))
      | inr f ↦ right (is_among o (touched_by b)) (meets same os (touched_by b)) (wider os (rw f at h))
    ]
      where
        or_true : (x : Bool) → (x || true) ≡ true
        or_true true = refl
        or_true false = refl

        right : (x y : Bool) → y ≡ true → (x || y) ≡ true
        right true y h = refl
        right false y h = h

    join : (x y z : Bool) → (z ≡ true → x ≡ true) → (x || (y || z)) ≡ (y || x)
    join true true z k = refl
    join true false z k = refl
    join false true z k = refl
    join false false true k = sym (k refl)
    join false false false k = refl

-- said of the lists that are kept
module _ (l : Lanes) (rs : List Record) (are : (o : Object) → list_of l o ≡ touches_in o 0 rs) where
  pub lists_in_reach : (origin : Origin) (count : ℕ) → ((p : ℕ) → p < length rs → is_beyond origin p ≡ true → (origin.base ≤ p) × (p < origin.base + count))
      → AreInReach l origin count
  lists_in_reach origin count h = record {
    ascending = λ o. subst (IsAscending 0) (sym (are o)) (touches_ascend o 0 rs);
    reach = λ o. subst (InReach origin count) (sym (are o)) (touches_in_reach origin count o 0 rs (λ p w. h p (omega arith)));
  }

  hits_is : (which : Wanted) (p : ℕ) (x : Record) → slice_get rs p ≡ Some x → (o : Object) → hits which (list_of l o) p ≡ wants which o x
  hits_is which p x at o =
      let zero_more : p ≡ 0 + p = omega arith in
      ap (λ ts. hits which ts p) (are o) ∙ ap (hits which (touches_in o 0 rs)) zero_more ∙ hits_touched which o 0 rs p x at

  pub meets_is : (i p : ℕ) (r x : Record) → slice_get rs i ≡ Some r → slice_get rs p ≡ Some x → meets_step l r p ≡ conflict_at rs i p
  meets_is i p r x here there =
      (λ k. list_any (λ o. hits_is which_are.Writes p x there o k) (read_by r) || list_any (λ o. hits_is which_are.All p x there o k) (written_by r))
      ∙ sym (conflict_split r x) ∙ sym (or_no_more (conflict_of r x)) ∙ rw (here, there) refl

  pub step_marks : (origin : Origin) (r : Record) (a b : List Bool) → origin.place < length rs → r ≡ get_or rs origin.place r → origin.base + length a ≤ length rs
      → Marks origin (meets_step l r) a b → Marks origin (conflict_at rs origin.place) a b
  step_marks origin r a b within is no_more marks j h =
      let p = origin.base + j in
      let x = (there rs (origin.base + j) (omega arith)) in
      let here : slice_get rs origin.place ≡ Some r = slice_get-get_or rs origin.place r within ∙ ap Some (sym is) in
      marks j h ∙ ap (λ y. has_mark a j || (is_beyond origin (origin.base + j) && y)) (meets_is origin.place (origin.base + j) r x.0 here x.1)
