-- Lists are walked once, and marks only grow.
use Rattle.std.proofs.Common.{◌≡◌, ◌<◌, ◌≤◌, ◌+◌, ◌==◌, ◌||◌, ◌&&◌, ℕ, suc, Bool, true, false, cond, List, [], ◌∷◌, ◌++◌, length, take, set, get_or, get_or-set_other, refl, sym, ap, subst, ◌∙◌, eqb-true, eq-eqb, inl, inr, arith}
use Rattle.std.specs.List.{list_any}
use Rattle.std.proofs.lemmas.Bool.{cases_Bool}
use Rattle.std.proofs.lemmas.List.{take_more}
use Rattle.std.proofs.lemmas.List.Folds.{list_any-append}
use Rattle.gr_base.specs.declared.objects.Object.{Object}
use Rattle.gr_touches.specs.declared.touch.Touch.{Touch}
use Rattle.gr_touches.specs.declared.lanes.Lanes.{Lanes}
use Rattle.gr_touches.specs.declared.marks.Origin.{Origin}
use Rattle.gr_touches.specs.declared.marks.Wanted.{Wanted}
use Rattle.gr_touches.specs.Lists.{list_of, list_numbered, IsNumbered}
use Rattle.gr_touches.specs.Marks.{takes, wanted, hits, is_beyond, IsAscending, InReach, has_mark, Marks}
use Rattle.gr_touches.specs.Walks.{AreWalked, hits_any}

-- a part of an ascending list ascends
weaker : (n m : ℕ) (ts : List Touch) → m ≤ n → IsAscending n ts → IsAscending m ts
weaker n m [] le h = tt
weaker n m (t ∷ ts) le h = (omega (arith, h.0), h.1)

pub part_ascends : (which : Wanted) (n : ℕ) (ts : List Touch) → IsAscending n ts → IsAscending n (wanted which ts)
part_ascends which n [] h = tt
part_ascends which n (t ∷ ts) h = by (part_ascends which (suc t.place) ts h.1) (part_ascends which n ts (weaker (suc t.place) n ts (omega (arith, h.0)) h.1)) (takes which t.writes)
  where
    by : IsAscending (suc t.place) (wanted which ts) → IsAscending n (wanted which ts) → (w : Bool) → IsAscending n (cond w (t ∷ wanted which ts) (wanted which ts))
    by later same true = (h.0, later)
    by later same false = same

pub part_in_reach : (which : Wanted) (o : Origin) (n : ℕ) (ts : List Touch) → InReach o n ts → InReach o n (wanted which ts)
part_in_reach which o n [] h = tt
part_in_reach which o n (t ∷ ts) h = by (part_in_reach which o n ts h.1) (takes which t.writes)
  where
    by : InReach o n (wanted which ts) → (w : Bool) → InReach o n (cond w (t ∷ wanted which ts) (wanted which ts))
    by rest true = (h.0, rest)
    by rest false = rest

or_nothing : (x b : Bool) → x ≡ (x || (b && false))
or_nothing true b = refl
or_nothing false true = refl
or_nothing false false = refl

or_known : (x b h : Bool) → (b ≡ true → h ≡ true → x ≡ true) → x ≡ (x || (b && h))
or_known true b h k = refl
or_known false true true k = k refl refl
or_known false true false k = refl
or_known false false h k = refl

or_left : (x y : Bool) → x ≡ true → (x || y) ≡ true
or_left true y h = refl
or_left false y h = absurd (let no : false ≡ true = h in cc)

-- what is not touched needs no marks
pub nothing_marked : (o : Origin) (which : Wanted) (ts : List Touch) (a : List Bool) → ts ≡ [] → Marks o (hits which ts) a a
nothing_marked o which ts a none j h = or_nothing (has_mark a j) (is_beyond o (o.base + j)) ∙ ap (λ l. has_mark a j || (is_beyond o (o.base + j) && hits which l (o.base + j))) (sym none)

-- marks stay
pub marks_stay : (l : Lanes) (o : Origin) (which : Wanted) (test : ℕ → Bool) (w a b : List Bool) → length b ≡ length a → Marks o test a b → AreWalked l o which w a → AreWalked l o which w b
marks_stay l o which test w a b same marks walked n e j h beyond hit =
    marks j (omega arith) ∙ or_left (has_mark a j) (is_beyond o (o.base + j) && test (o.base + j)) (walked n e j (omega arith) beyond hit)

module _ (l : Lanes) (o : Origin) (which : Wanted) (q : Object) (number : ℕ) (ts : List Touch) (is : IsNumbered l q which number ts) (w a b : List Bool) where
  pub numbered_ascends : ((p : Object) → IsAscending 0 (list_of l p)) → IsAscending 0 ts
  numbered_ascends h = subst (IsAscending 0) (sym is.is_part) (part_ascends is.part 0 (list_of l q) (h q))

  pub numbered_in_reach : (n : ℕ) → ((p : Object) → InReach o n (list_of l p)) → InReach o n ts
  numbered_in_reach n h = subst (InReach o n) (sym is.is_part) (part_in_reach is.part o n (list_of l q) (h q))

  -- of a list that was walked all is marked
  pub already_marked : has_mark w number ≡ true → AreWalked l o which w a → Marks o (hits which (list_of l q)) a a
  already_marked e walked j h =
      or_known (has_mark a j) (is_beyond o (o.base + j)) (hits which (list_of l q) (o.base + j))
      (λ beyond hit. walked number e j h beyond (ap (λ x. hits which x (o.base + j)) is.list ∙ hit))

  pub marked_now : Marks o (hits which ts) a b → Marks o (hits which (list_of l q)) a b
  marked_now marks j h = marks j h ∙ ap (λ x. has_mark a j || (is_beyond o (o.base + j) && list_any (λ t. t.place == o.base + j) x)) is.touches

  pub walked_now : length b ≡ length a → number < length w → Marks o (hits which ts) a b → AreWalked l o which w a → AreWalked l o which (set w number true) b
  walked_now same within marks walked n e j h beyond hit = elim (cases_Bool (n == number)) [
    | inl at ↦
        let here : hits which (list_of l q) (o.base + j) ≡ true = ap (λ x. hits which x (o.base + j)) (sym is.list) ∙ ap (λ k. hits which (list_numbered l k) (o.base + j)) (sym (eqb-true n number at)) ∙ hit in
        marked_now marks j (omega arith) ∙ (λ i. has_mark a j || (beyond i && here i)) ∙ or_true (has_mark a j)
    | inr not ↦
        let other : n ≡ number → ⊥ = λ at. (let no : true ≡ false = sym (eq-eqb n number at) ∙ not in cc) in
        marks_stay l o which (hits which ts) w a b same marks walked n (sym (get_or-set_other w number n true false other) ∙ e) j h beyond hit
  ]
    where
      or_true : (x : Bool) → (x || true) ≡ true
      or_true true = refl
      or_true false = refl

-- one set of marks after the other
pub marks_both : (o : Origin) (f g : ℕ → Bool) (a b c : List Bool) → length b ≡ length a → Marks o f a b → Marks o g b c → Marks o (λ p. f p || g p) a c
marks_both o f g a b c same first second j h =
    second j (omega arith) ∙ ap (λ x. x || (is_beyond o (o.base + j) && g (o.base + j))) (first j h)
    ∙ join (has_mark a j) (is_beyond o (o.base + j)) (f (o.base + j)) (g (o.base + j))
  where
    join : (x b f g : Bool) → ((x || (b && f)) || (b && g)) ≡ (x || (b && (f || g)))
    join true b f g = refl
    join false true f g = refl
    join false false f g = refl

pub marks_as : (o : Origin) (f g : ℕ → Bool) (a b : List Bool) → ((p : ℕ) → f p ≡ g p) → Marks o f a b → Marks o g a b
marks_as o f g a b same marks j h = marks j h ∙ ap (λ x. has_mark a j || (is_beyond o (o.base + j) && x)) (same (o.base + j))

-- for one object more
pub hits_more : (l : Lanes) (which : Wanted) (os : List Object) (i : ℕ) (o : Object) → i < length os → o ≡ get_or os i o → (p : ℕ)
    → (hits_any l which (take i os) p || hits which (list_of l o) p) ≡ hits_any l which (take (i + 1) os) p
hits_more l which os i o below is p =
    ap (λ x. hits_any l which (take i os) p || x) (sym (or_no_more (hits which (list_of l o) p)))
    ∙ sym (list_any-append (λ q. hits which (list_of l q) p) (take i os) (o ∷ []))
    ∙ ap (λ x. hits_any l which x p) (ap (λ x. take i os ++ x ∷ []) is ∙ sym (take_more os i o below))
  where
    or_no_more : (b : Bool) → (b || false) ≡ b
    or_no_more true = refl
    or_no_more false = refl
