-- Touches that are added for several objects, one after the other, and taken away again.
use Rattle.std.proofs.Common.{◌≡◌, ◌<◌, ◌+◌, ◌-◌, ℕ, Bool, true, false, if◌then◌else◌, List, [], ◌∷◌, ◌++◌, length, get_or, take, None, refl, sym, ap, subst, ◌∙◌, append_assoc, append-nil, arith}
use Rattle.std.proofs.lemmas.List.{take_more, take_at, length-append}
use Rattle.gr_base.specs.declared.objects.Object.{Object}
use Rattle.gr_base.specs.declared.objects.Object.TheVariants.{Run, Go}
use Rattle.gr_rules.specs.States.{same}
use Rattle.gr_touches.specs.declared.touch.Touch.{Touch}
use Rattle.gr_touches.specs.declared.lanes.Lanes.{Lanes}
use Rattle.gr_record.specs.declared.record.Record.{Record}
use Rattle.gr_record.specs.Conflicts.{read_by, written_by}
use Rattle.gr_touches.specs.Touches.{without_last, touches_for, kept_for}
use Rattle.gr_touches.specs.Lists.{list_of, AddsFor, TakesFor}

-- without its last, the list is as it was before it was added
pub last_gone : {A : Type 0} (xs : List A) (x : A) → without_last (xs ++ x ∷ []) ≡ xs
last_gone xs x = let e : length (xs ++ x ∷ []) - 1 ≡ length xs = omega (arith, length-append xs (x ∷ [])) in rw e (take_at xs (x ∷ []) (length xs) refl)

abbrev pub one_for : Object → Touch → Object → List Touch
one_for q t o = if same o q then t ∷ [] else []

pub first_more : (q : Object) (t : Touch) (o : Object) (os : List Object) → touches_for q t (o ∷ os) ≡ one_for q t o ++ touches_for q t os
first_more q t o os = by (same o q)
  where
    by : (b : Bool) → (if b then t ∷ touches_for q t os else touches_for q t os) ≡ (if b then t ∷ [] else []) ++ touches_for q t os
    by true = refl
    by false = refl

pub touches_both : (q : Object) (t : Touch) (xs ys : List Object) → touches_for q t (xs ++ ys) ≡ touches_for q t xs ++ touches_for q t ys
touches_both q t [] ys = refl
touches_both q t (x ∷ xs) ys =
    first_more q t x (xs ++ ys) ∙ ap (λ l. one_for q t x ++ l) (touches_both q t xs ys)
    ∙ sym (append_assoc (one_for q t x) (touches_for q t xs) (touches_for q t ys)) ∙ ap (λ l. l ++ touches_for q t ys) (sym (first_more q t x xs))

module _ (o : Object) (old new : Object → List Touch) where
  -- a touch that is added to one list
  pub one_added : (t : Touch) → ((q : Object) → new q ≡ (if same o q then old q ++ t ∷ [] else old q)) → (q : Object) → new q ≡ old q ++ touches_for q t (o ∷ [])
  one_added t adds q = adds q ∙ by (same o q)
    where
      by : (k : Bool) → (if k then old q ++ t ∷ [] else old q) ≡ old q ++ (if k then t ∷ [] else [])
      by true = refl
      by false = sym (append-nil (old q))

  -- what was added last is taken away
  pub one_taken : ((q : Object) → new q ≡ (if same o q then without_last (old q) else old q)) → (before : Object → List Touch) (t : Touch)
      → ((q : Object) → old q ≡ before q ++ touches_for q t (o ∷ [])) → (q : Object) → new q ≡ before q
  one_taken takes before t is q = takes q ∙ ap (λ l. if same o q then without_last l else l) (is q) ∙ by (same o q)
    where
      by : (k : Bool) → (if k then without_last (before q ++ (if k then t ∷ [] else [])) else before q ++ (if k then t ∷ [] else [])) ≡ before q
      by true = last_gone (before q) t
      by false = append-nil (before q)

module _ (a b c : Lanes) (xs ys : List Object) where
  pub added_both : (t : Touch) → AddsFor xs t a b → AddsFor ys t b c → AddsFor (xs ++ ys) t a c
  added_both t first second q =
      second q ∙ ap (λ l. l ++ touches_for q t ys) (first q) ∙ append_assoc (list_of a q) (touches_for q t xs) (touches_for q t ys)
      ∙ ap (λ l. list_of a q ++ l) (sym (touches_both q t xs ys))

  -- what was added for these objects is taken away, the last of them first
  pub taken_both : TakesFor ys a b → TakesFor xs b c → TakesFor (xs ++ ys) a c
  taken_both second first before t had =
      first before t
      (second (λ q. before q ++ touches_for q t xs) t
      (λ q. had q ∙ ap (λ l. before q ++ l) (touches_both q t xs ys) ∙ sym (append_assoc (before q) (touches_for q t xs) (touches_for q t ys))))

module _ (os : List Object) (i : ℕ) (o : Object) (below : i < length os) (is : o ≡ get_or os i o) where
  one_more : take i os ++ o ∷ [] ≡ take (i + 1) os
  one_more = ap (λ x. take i os ++ x ∷ []) is ∙ sym (take_more os i o below)

  -- one more of the objects
  pub added_more : (a b c : Lanes) (t : Touch) → AddsFor (take i os) t a b → AddsFor (o ∷ []) t b c → AddsFor (take (i + 1) os) t a c
  added_more a b c t done adds = subst (λ (l : List Object). AddsFor l t a c) one_more (added_both a b c (take i os) (o ∷ []) t done adds)

  -- the last of those that are left is taken
  pub taken_more : (a b : Lanes) (t : Touch) (before : Object → List Touch) → ((q : Object) → list_of a q ≡ before q ++ touches_for q t (take (i + 1) os))
      → TakesFor (o ∷ []) a b → (q : Object) → list_of b q ≡ before q ++ touches_for q t (take i os)
  taken_more a b t before had takes =
      takes (λ q. before q ++ touches_for q t (take i os)) t
      (λ q. had q ∙ ap (λ l. before q ++ touches_for q t l) (sym one_more) ∙ ap (λ l. before q ++ l) (touches_both q t (take i os) (o ∷ []))
      ∙ sym (append_assoc (before q) (touches_for q t (take i os)) (touches_for q t (o ∷ []))))

pub taken_none : (before : Object → List Touch) (t : Touch) (os : List Object) (n : ℕ) → n ≡ 0 → (q : Object) → before q ++ touches_for q t (take n os) ≡ before q
taken_none before t os n none q = ap (λ i. before q ++ touches_for q t (take i os)) none ∙ append-nil (before q)

-- what was kept of a step is taken away, what it wrote first
pub step_taken : (a b c : Lanes) (r : Record) (ws rs : List Object) → written_by r ≡ ws → TakesFor ws a b → read_by r ≡ rs → TakesFor rs b c
    → (before : Object → List Touch) (place : ℕ) → ((q : Object) → list_of a q ≡ before q ++ kept_for q place r) → (q : Object) → list_of c q ≡ before q
step_taken a b c r ws rs wrote first read second before place had =
    second before (record { place = place; writes = false })
    (first (λ q. before q ++ touches_for q (record { place = place; writes = false }) rs) (record { place = place; writes = true })
    (λ q. had q ∙ sym (append_assoc (before q) _ _)
    ∙ ap (λ l. (before q ++ touches_for q (record { place = place; writes = false }) l) ++ touches_for q (record { place = place; writes = true }) (written_by r)) read
    ∙ ap (λ l. (before q ++ touches_for q (record { place = place; writes = false }) rs) ++ touches_for q (record { place = place; writes = true }) l) wrote))

-- a step that reached no further than its goroutine read whether the program runs, and wrote its goroutine
pub read_alone : (r : Record) → r.change.beyond ≡ None → read_by r ≡ Run ∷ []
read_alone r none = ap (λ o. read_by (record r { change = record (r.change) { beyond = o } })) none

pub written_alone : (r : Record) → r.change.beyond ≡ None → written_by r ≡ Go r.id.go ∷ []
written_alone r none = ap (λ o. written_by (record r { change = record (r.change) { beyond = o } })) none

pub kept_alone : (q : Object) (place : ℕ) (r : Record) → r.change.beyond ≡ None
    → kept_for q place r ≡ one_for q (record { place = place; writes = false }) Run ++ one_for q (record { place = place; writes = true }) (Go r.id.go)
kept_alone q place r none = ap (λ o. kept_for q place (record r { change = record (r.change) { beyond = o } })) none
