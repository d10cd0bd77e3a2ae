-- Ready names as a list in order, and the places that stand for them.
use Rattle.std.proofs.Common.{◌≡◌, inl, inr, ℕ, zero, suc, ◌+◌, ◌<◌, ◌≤◌, Bool, true, false, List, [], ◌∷◌, ◌++◌, length, take, drop, filter, refl, ap, sym, ◌∙◌, subst, arith, eqb, eqb-true, add-one, Some, None, take-append-drop, length-drop, length-append}
use Rattle.std.proofs.lemmas.Bool.{cases_Bool, cases_lt}
use Rattle.std.specs.Prelude.{slice_index_or, slice_get, nat_eq, insert, remove, All}
use Rattle.std.specs.List.{list_any, position, AllByRecursion, IsDistinct}
use Rattle.std.specs.Ordering.{is_lt, is_gt}
use Rattle.std.specs.Cmp.Lexicographic.{pointwise}
use Rattle.std.specs.declared.cmp.Ordering.{Ordering}
use Rattle.std.specs.declared.cmp.Ordering.TheVariants.{Less, Equal, Greater}
use Rattle.std.proofs.lemmas.List.Folds.{list_any-append}
use Rattle.std.proofs.lemmas.List.Quantifiers.{position-Some}
use Rattle.std.proofs.lemmas.List.Edits.{length-insert}
use Rattle.std.proofs.lemmas.Option.{slice_get-get_or, slice_get_past}
use Rattle.std.proofs.lemmas.Cmp.{nat_list_eq_equiv}
use Rattle.std.proofs.lemmas.Map.Steps.{length-le_from_distinct_below}
use Rattle.indexmap.specs.IndexSet.{insert_key}
use Rattle.gr_base.specs.Names.{go_cmp}
use Rattle.gr_pool.specs.Goroutines.{is_among, IsInOrder, lesser, greater, with_name, without_name, next_name, names_at, StandsAt, BelongsAt, IsKnownAt}
use Rattle.gr_pool.proofs.Order.{length_names, less_trans, greater_back, less_back, ties_itself, compared, stands}

-- in order, by recursion
Chain : List (List ℕ) → Type 0
Chain [] = Unit {0}
Chain (x ∷ xs) = AllByRecursion (λ y. go_cmp x y ≡ Less) xs × Chain xs

each_less : (x : List ℕ) (xs : List (List ℕ)) → ((k : ℕ) (d : List ℕ) → k < length xs → go_cmp x (slice_index_or xs k d) ≡ Less) → AllByRecursion (λ y. go_cmp x y ≡ Less) xs
each_less x [] h = tt
each_less x (y ∷ ys) h = (h 0 y (omega arith), each_less x ys (λ k d w. h (suc k) d (omega arith)))

less_each : (x : List ℕ) (xs : List (List ℕ)) → AllByRecursion (λ y. go_cmp x y ≡ Less) xs → (k : ℕ) (d : List ℕ) → k < length xs → go_cmp x (slice_index_or xs k d) ≡ Less
less_each x [] h k d w = absurd (omega arith)
less_each x (y ∷ ys) h zero d w = h.0
less_each x (y ∷ ys) h (suc k) d w = less_each x ys (h.1) k d (omega arith)

chain_from : (xs : List (List ℕ)) → IsInOrder xs → Chain xs
unfolding Chain
chain_from [] h = tt
chain_from (x ∷ xs) h =
    (each_less x xs (λ k d w. h 0 (suc k) d (omega arith) (omega arith)), chain_from xs (λ i j d l w. h (suc i) (suc j) d (omega arith) (omega arith)))

from_chain : (xs : List (List ℕ)) → Chain xs → IsInOrder xs
unfolding Chain
from_chain [] h i j d l w = absurd (omega arith)
from_chain (x ∷ xs) h i zero d l w = absurd (omega arith)
from_chain (x ∷ xs) h zero (suc j) d l w = less_each x xs (h.0) j d (omega arith)
from_chain (x ∷ xs) h (suc i) (suc j) d l w = from_chain xs (h.1) i j d (omega arith) (omega arith)

filter_each : (P : List ℕ → Type 0) (p : List ℕ → Bool) (xs : List (List ℕ)) → AllByRecursion P xs → AllByRecursion P (filter p xs)
filter_each P p [] h = tt
filter_each P p (x ∷ xs) h = elim (cases_Bool (p x)) [ inl e ↦ rw e (h.0, filter_each P p xs (h.1)) | inr e ↦ rw e (filter_each P p xs (h.1)) ]

filter_chain : (p : List ℕ → Bool) (xs : List (List ℕ)) → Chain xs → Chain (filter p xs)
unfolding Chain
filter_chain p [] h = tt
filter_chain p (x ∷ xs) h = elim (cases_Bool (p x)) [
  | inl e ↦ rw e (filter_each (λ y. go_cmp x y ≡ Less) p xs (h.0), filter_chain p xs (h.1))
  | inr e ↦ rw e (filter_chain p xs (h.1))
]

lt_is : (r : Ordering) → is_lt r ≡ true → r ≡ Less
lt_is Less e = refl
lt_is Equal e = cc
lt_is Greater e = cc

gt_is : (r : Ordering) → is_gt r ≡ true → r ≡ Greater
gt_is Less e = cc
gt_is Equal e = cc
gt_is Greater e = refl

lesser_less : (n : List ℕ) (xs : List (List ℕ)) → AllByRecursion (λ x. go_cmp x n ≡ Less) (lesser n xs)
lesser_less n [] = tt
lesser_less n (x ∷ xs) = elim (cases_Bool (is_lt (go_cmp x n))) [
  | inl e ↦ rw e (lt_is (go_cmp x n) e, lesser_less n xs)
  | inr e ↦ rw e (lesser_less n xs)
]

greater_more : (n : List ℕ) (xs : List (List ℕ)) → AllByRecursion (λ x. go_cmp n x ≡ Less) (greater n xs)
greater_more n [] = tt
greater_more n (x ∷ xs) = elim (cases_Bool (is_gt (go_cmp x n))) [
  | inl e ↦ rw e (greater_back x n (gt_is (go_cmp x n) e), greater_more n xs)
  | inr e ↦ rw e (greater_more n xs)
]

each_append : (P : List ℕ → Type 0) (xs ys : List (List ℕ)) → AllByRecursion P xs → AllByRecursion P ys → AllByRecursion P (xs ++ ys)
each_append P [] ys h k = k
each_append P (x ∷ xs) ys h k = (h.0, each_append P xs ys (h.1) k)

further : (x n : List ℕ) (ys : List (List ℕ)) → go_cmp x n ≡ Less → AllByRecursion (λ y. go_cmp n y ≡ Less) ys → AllByRecursion (λ y. go_cmp x y ≡ Less) ys
further x n [] e h = tt
further x n (y ∷ ys) e h = (less_trans x n y e (h.0), further x n ys e (h.1))

chain_with : (n : List ℕ) (xs ys : List (List ℕ)) → Chain xs → Chain ys → AllByRecursion (λ x. go_cmp x n ≡ Less) xs → AllByRecursion (λ y. go_cmp n y ≡ Less) ys → Chain (xs ++ n ∷ ys)
unfolding Chain
chain_with n [] ys cx cy lo hi = (hi, cy)
chain_with n (x ∷ xs) ys cx cy lo hi =
    (each_append (λ y. go_cmp x y ≡ Less) xs (n ∷ ys) (cx.0) (lo.0, further x n ys (lo.0) hi), chain_with n xs ys (cx.1) cy (lo.1) hi)

chain_without : (n : List ℕ) (xs ys : List (List ℕ)) → Chain xs → Chain ys → AllByRecursion (λ x. go_cmp x n ≡ Less) xs → AllByRecursion (λ y. go_cmp n y ≡ Less) ys → Chain (xs ++ ys)
unfolding Chain
chain_without n [] ys cx cy lo hi = cy
chain_without n (x ∷ xs) ys cx cy lo hi =
    (each_append (λ y. go_cmp x y ≡ Less) xs ys (cx.0) (further x n ys (lo.0) hi), chain_without n xs ys (cx.1) cy (lo.1) hi)

-- the names stay in order with one more, and without one
pub ordered_with : (n : List ℕ) (xs : List (List ℕ)) → IsInOrder xs → IsInOrder (with_name n xs)
ordered_with n xs h = let c = chain_from xs h in
    from_chain (with_name n xs) (chain_with n (lesser n xs) (greater n xs) (filter_chain (λ x. is_lt (go_cmp x n)) xs c) (filter_chain (λ x. is_gt (go_cmp x n)) xs c) (lesser_less n xs) (greater_more n xs))

pub ordered_without : (n : List ℕ) (xs : List (List ℕ)) → IsInOrder xs → IsInOrder (without_name n xs)
ordered_without n xs h = let c = chain_from xs h in
    from_chain (without_name n xs) (chain_without n (lesser n xs) (greater n xs) (filter_chain (λ x. is_lt (go_cmp x n)) xs c) (filter_chain (λ x. is_gt (go_cmp x n)) xs c) (lesser_less n xs) (greater_more n xs))

-- places of different names differ
no_tie : (x : List ℕ) → go_cmp x x ≡ Less → ⊥
no_tie x e = let more : go_cmp x x ≡ Greater = less_back x x e in let no : Less ≡ Greater = sym e ∙ more in cc

different : (known : List (List ℕ)) (i : ℕ) (is : List ℕ) → AllByRecursion (λ y. go_cmp (slice_index_or known i []) y ≡ Less) (names_at known is) → AllByRecursion (λ j. eqb i j ≡ false) is
different known i [] h = tt
different known i (j ∷ js) h = (
  elim (cases_Bool (eqb i j)) [
    | inl e ↦ absurd (no_tie (slice_index_or known i []) (subst (λ k. go_cmp (slice_index_or known i []) (slice_index_or known k []) ≡ Less) (sym (eqb-true i j e)) (h.0)))
    | inr e ↦ e
  ],
  different known i js (h.1),
)

distinct : (known : List (List ℕ)) (is : List ℕ) → Chain (names_at known is) → IsDistinct eqb is
unfolding Chain IsDistinct
distinct known [] h = tt
distinct known (i ∷ is) h = (different known i is (h.0), distinct known is (h.1))

among_below : (n : ℕ) (is : List ℕ) → All (λ i. i < n) is → (q : ℕ) → list_any (eqb q) is ≡ true → q < n
among_below n [] h q e = cc
among_below n (i ∷ is) h q e = elim (cases_Bool (eqb q i)) [
  | inl t ↦ subst (λ k. k < n) (sym (eqb-true q i t)) (h 0 0 (omega arith))
  | inr f ↦ among_below n is (λ k d w. h (suc k) d (omega arith)) q (rw f at e)
]

-- places of names in order are no more than there are names
pub few_places : (known : List (List ℕ)) (is : List ℕ) → All (λ i. i < length known) is → IsInOrder (names_at known is) → length is ≤ length known
few_places known is within ordered = length-le_from_distinct_below is (length known) (distinct known is (chain_from (names_at known is) ordered)) (among_below (length known) is within)

same_name : (a b : List ℕ) → pointwise nat_eq a b ≡ true → a ≡ b
same_name [] [] e = refl
same_name [] (y ∷ ys) e = cc
same_name (x ∷ xs) [] e = cc
same_name (x ∷ xs) (y ∷ ys) e = elim (cases_Bool (eqb x y)) [
  | inl t ↦ let heads : x ≡ y = eqb-true x y t in let tails : xs ≡ ys = same_name xs ys (rw t at e) in cc
  | inr f ↦ let no : false ≡ true = rw f at e in cc
]

-- a name stands where it was found the same
pub stands_same : (known : List (List ℕ)) (ready : List ℕ) (m : ℕ) (name x : List ℕ) → IsInOrder (names_at known ready) → m < length ready → slice_index_or ready m 0 < length known
    → x ≡ slice_index_or known (slice_index_or ready m 0) x → pointwise nat_eq x name ≡ true → StandsAt name (names_at known ready) m
stands_same known ready m name x ordered less within is same =
    let tie : Equal ≡ go_cmp x name = sym (ap (λ y. go_cmp y name) (same_name x name same) ∙ ties_itself name) in
    stands (names_at known ready) name m ordered (omega (arith, less, length_names known ready)) (compared known ready m name x Equal less within is tie)

own_name : (a : List ℕ) → pointwise nat_eq a a ≡ true
own_name a = nat_list_eq_equiv.refl a

-- a name that stands among the names
any_there : (p : List ℕ → Bool) (xs : List (List ℕ)) (k : ℕ) (d : List ℕ) → k < length xs → p (slice_index_or xs k d) ≡ true → list_any p xs ≡ true
any_there p [] k d w e = absurd (omega arith)
any_there p (x ∷ xs) zero d w e = rw e refl
any_there p (x ∷ xs) (suc k) d w e = elim (cases_Bool (p x)) [ inl t ↦ rw t refl | inr f ↦ rw f (any_there p xs k d (omega arith) e) ]

pub among_standing : (name : List ℕ) (names : List (List ℕ)) (p : ℕ) → StandsAt name names p → is_among name names ≡ true
among_standing name names p s = any_there (pointwise nat_eq name) names p [] (s.within) (rw (s.here []) (own_name name))

not_lesser : (name : List ℕ) (xs : List (List ℕ)) → is_among name (lesser name xs) ≡ false
not_lesser name [] = refl
not_lesser name (x ∷ xs) = elim (cases_Bool (is_lt (go_cmp x name))) [
  | inl t ↦ rw t (elim (cases_Bool (pointwise nat_eq name x)) [
    | inl e ↦ absurd (no_tie name (subst (λ y. go_cmp y name ≡ Less) (sym (same_name name x e)) (lt_is (go_cmp x name) t)))
    | inr f ↦ rw f (not_lesser name xs)
  ])
  | inr f ↦ rw f (not_lesser name xs)
]

not_greater : (name : List ℕ) (xs : List (List ℕ)) → is_among name (greater name xs) ≡ false
not_greater name [] = refl
not_greater name (x ∷ xs) = elim (cases_Bool (is_gt (go_cmp x name))) [
  | inl t ↦ rw t (elim (cases_Bool (pointwise nat_eq name x)) [
    | inl e ↦ absurd (no_tie name (subst (λ y. go_cmp name y ≡ Less) (sym (same_name name x e)) (greater_back x name (gt_is (go_cmp x name) t))))
    | inr f ↦ rw f (not_greater name xs)
  ])
  | inr f ↦ rw f (not_greater name xs)
]

whole : (name : List ℕ) (names : List (List ℕ)) (p : ℕ) → BelongsAt name names p → lesser name names ++ greater name names ≡ names
whole name names p b = ap (λ l. l ++ greater name names) (sym (b.before)) ∙ ap (λ l. take p names ++ l) (sym (b.after)) ∙ take-append-drop p names

pub among_missing : (name : List ℕ) (names : List (List ℕ)) (p : ℕ) → BelongsAt name names p → is_among name names ≡ false
among_missing name names p b =
    ap (is_among name) (sym (whole name names p b)) ∙ list_any-append (pointwise nat_eq name) (lesser name names) (greater name names) ∙ rw (not_lesser name names, not_greater name names) refl

-- a name that is not there is left out already
pub without_missing : (name : List ℕ) (names : List (List ℕ)) (p : ℕ) → BelongsAt name names p → names ≡ without_name name names
without_missing name names p b = sym (whole name names p b)

-- put in at its place, taken out at its place
pub with_belonging : (name : List ℕ) (names : List (List ℕ)) (p : ℕ) → BelongsAt name names p → insert names p name ≡ with_name name names
with_belonging name names p b = ap (λ l. l ++ name ∷ drop p names) (b.before) ∙ ap (λ l. lesser name names ++ name ∷ l) (b.after)

pub without_standing : (name : List ℕ) (names : List (List ℕ)) (p : ℕ) → StandsAt name names p → remove names p ≡ without_name name names
without_standing name names p s = ap (λ l. l ++ drop (suc p) names) (s.before) ∙ ap (λ l. lesser name names ++ l) (rw (← add-one) (s.after))

drop_next : (xs : List (List ℕ)) (p : ℕ) (d : List ℕ) → p < length xs → drop p xs ≡ slice_index_or xs p d ∷ drop (suc p) xs
drop_next [] p d w = absurd (omega arith)
drop_next (x ∷ xs) zero d w = refl
drop_next (x ∷ xs) (suc p) d w = drop_next xs p d (omega arith)

pub with_standing : (name : List ℕ) (names : List (List ℕ)) (p : ℕ) → StandsAt name names p → names ≡ with_name name names
with_standing name names p s =
    let after : drop (suc p) names ≡ greater name names = rw (← add-one) (s.after) in
    sym (take-append-drop p names) ∙ ap (λ l. l ++ drop p names) (s.before) ∙ ap (λ l. lesser name names ++ l) (drop_next names p [] (s.within) ∙ ap (λ y. y ∷ drop (suc p) names) (s.here []) ∙ ap (λ l. name ∷ l) after)

-- the names at places, where a place comes in or goes out
pub names_insert : (known : List (List ℕ)) (is : List ℕ) (p i : ℕ) → names_at known (insert is p i) ≡ insert (names_at known is) p (slice_index_or known i [])
names_insert known [] zero i = refl
names_insert known [] (suc p) i = refl
names_insert known (j ∷ js) zero i = refl
names_insert known (j ∷ js) (suc p) i = ap (λ l. slice_index_or known j [] ∷ l) (names_insert known js p i)

pub names_remove : (known : List (List ℕ)) (is : List ℕ) (p : ℕ) → names_at known (remove is p) ≡ remove (names_at known is) p
names_remove known [] zero = refl
names_remove known [] (suc p) = refl
names_remove known (j ∷ js) zero = refl
names_remove known (j ∷ js) (suc p) = ap (λ l. slice_index_or known j [] ∷ l) (names_remove known js p)

early : (known : List (List ℕ)) (name : List ℕ) (i : ℕ) → i < length known → slice_index_or (known ++ name ∷ []) i [] ≡ slice_index_or known i []
early [] name i w = absurd (omega arith)
early (x ∷ xs) name zero w = refl
early (x ∷ xs) name (suc i) w = early xs name i (omega arith)

-- the places stay places when a name becomes known
pub names_more : (known : List (List ℕ)) (name : List ℕ) (is : List ℕ) → All (λ i. i < length known) is → names_at (known ++ name ∷ []) is ≡ names_at known is
names_more known name [] h = refl
names_more known name (i ∷ is) h =
    let here : slice_index_or (known ++ name ∷ []) i [] ≡ slice_index_or known i [] = early known name i (h 0 0 (omega arith)) in
    rw here (ap (λ l. slice_index_or known i [] ∷ l) (names_more known name is (λ k d w. h (suc k) d (omega arith))))

all_cons : (P : ℕ → Type 0) (x : ℕ) (xs : List ℕ) → P x → All P xs → All P (x ∷ xs)
all_cons P x xs h t zero d w = h
all_cons P x xs h t (suc k) d w = t k d (omega arith)

all_rest : (P : ℕ → Type 0) (x : ℕ) (xs : List ℕ) → All P (x ∷ xs) → All P xs
all_rest P x xs h k d w = h (suc k) d (omega arith)

pub all_insert : (n : ℕ) (is : List ℕ) (p i : ℕ) → All (λ j. j < n) is → i < n → All (λ j. j < n) (insert is p i)
all_insert n [] zero i h w = all_cons (λ j. j < n) i [] w h
all_insert n [] (suc p) i h w = all_cons (λ j. j < n) i [] w h
all_insert n (j ∷ js) zero i h w = all_cons (λ j. j < n) i (j ∷ js) w h
all_insert n (j ∷ js) (suc p) i h w = all_cons (λ j. j < n) j (insert js p i) (h 0 0 (omega arith)) (all_insert n js p i (all_rest (λ j. j < n) j js h) w)

pub all_remove : (n : ℕ) (is : List ℕ) (p : ℕ) → All (λ j. j < n) is → All (λ j. j < n) (remove is p)
all_remove n [] zero h = h
all_remove n [] (suc p) h = h
all_remove n (j ∷ js) zero h = all_rest (λ j. j < n) j js h
all_remove n (j ∷ js) (suc p) h = all_cons (λ j. j < n) j (remove js p) (h 0 0 (omega arith)) (all_remove n js p (all_rest (λ j. j < n) j js h))

pub all_more : (n m : ℕ) (is : List ℕ) → n ≤ m → All (λ j. j < n) is → All (λ j. j < m) is
all_more n m is le h k d w = let less : slice_index_or is k d < n = h k d w in omega arith

-- a known name comes in at its place
pub inserted_names : (known : List (List ℕ)) (is : List ℕ) (name : List ℕ) (p i : ℕ) → BelongsAt name (names_at known is) p → IsKnownAt known name i → names_at known (insert is p i) ≡ with_name name (names_at known is)
inserted_names known is name p i b found =
    names_insert known is p i ∙ ap (insert (names_at known is) p) (sym (same_name name (slice_index_or known i []) found.here)) ∙ with_belonging name (names_at known is) p b

pub inserted_within : (known : List (List ℕ)) (is : List ℕ) (name : List ℕ) (p i : ℕ) → All (λ j. j < length known) is → IsKnownAt known name i → All (λ j. j < length known) (insert is p i)
inserted_within known is name p i within found = all_insert (length known) is p i within found.within

pub inserted_order : (known : List (List ℕ)) (is : List ℕ) (name : List ℕ) (p i : ℕ) → BelongsAt name (names_at known is) p → IsKnownAt known name i → IsInOrder (names_at known is) → IsInOrder (names_at known (insert is p i))
inserted_order known is name p i b found ordered = subst IsInOrder (sym (inserted_names known is name p i b found)) (ordered_with name (names_at known is) ordered)

-- there is room for it
pub inserted_room : (known : List (List ℕ)) (is : List ℕ) (name : List ℕ) (p i : ℕ) → BelongsAt name (names_at known is) p → IsKnownAt known name i → All (λ j. j < length known) is → IsInOrder (names_at known is) → length is < length known
inserted_room known is name p i b found within ordered =
    let few = few_places known (insert is p i) (inserted_within known is name p i within found) (inserted_order known is name p i b found ordered) in
    omega (arith, few, length-insert is p i (omega (arith, b.within, length_names known is)))

-- where a known name is found, and a guess that is right
pub known_found : (known : List (List ℕ)) (name : List ℕ) (i : ℕ) → position (pointwise nat_eq name) known ≡ Some i → IsKnownAt known name i
known_found known name i e = let at = position-Some (pointwise nat_eq name) known i [] e in record { within = at.0; here = at.1 }

pub known_here : (known : List (List ℕ)) (name found : List ℕ) (i : ℕ) → slice_get known i ≡ Some found → pointwise nat_eq found name ≡ true → IsKnownAt known name i
known_here known name found i is same = elim (cases_lt i (length known)) [
  | inr past ↦ let none : None ≡ Some found = sym (slice_get_past known i past) ∙ is in cc
  | inl within ↦
      let there : Some (slice_index_or known i []) ≡ Some found = sym (slice_get-get_or known i [] within) ∙ is in
      let here : slice_index_or known i [] ≡ found = cc in
      record { within = within; here = ap (pointwise nat_eq name) (here ∙ same_name found name same) ∙ own_name name }
]

-- a name goes out
pub removed_names : (known : List (List ℕ)) (is : List ℕ) (name : List ℕ) (p : ℕ) → StandsAt name (names_at known is) p → names_at known (remove is p) ≡ without_name name (names_at known is)
removed_names known is name p s = names_remove known is p ∙ without_standing name (names_at known is) p s

pub removed_order : (known : List (List ℕ)) (is : List ℕ) (name : List ℕ) (p : ℕ) → StandsAt name (names_at known is) p → IsInOrder (names_at known is) → IsInOrder (names_at known (remove is p))
removed_order known is name p s ordered = subst IsInOrder (sym (removed_names known is name p s)) (ordered_without name (names_at known is) ordered)

-- what comes next
no_length : {X : Type 0} → (xs : List X) → length xs ≡ 0 → xs ≡ []
no_length [] e = refl
no_length (x ∷ xs) e = absurd (omega arith)

first_of : {X : Type 0} → (xs : List X) (p : ℕ) → slice_get (drop p xs) 0 ≡ slice_get xs p
first_of [] zero = refl
first_of [] (suc p) = refl
first_of (x ∷ xs) zero = refl
first_of (x ∷ xs) (suc p) = first_of xs p

first_both : {X : Type 0} → (xs ys : List X) → 0 < length xs → slice_get (xs ++ ys) 0 ≡ slice_get xs 0
first_both [] ys w = absurd (omega arith)
first_both (x ∷ xs) ys w = refl

pub next_within : (name : List ℕ) (names : List (List ℕ)) (p : ℕ) → drop p names ≡ greater name names → p < length names → slice_get names p ≡ next_name name names
next_within name names p after w =
    sym (first_of names p) ∙ ap (λ l. slice_get l 0) after ∙ sym (first_both (greater name names) names (let long : length (drop p names) ≡ length (greater name names) = ap length after in omega (arith, length-drop p names)))

pub next_past : (name : List ℕ) (names : List (List ℕ)) (p : ℕ) → drop p names ≡ greater name names → length names ≤ p → slice_get names 0 ≡ next_name name names
next_past name names p after w =
    let long : length (drop p names) ≡ length (greater name names) = ap length after in
    let none : greater name names ≡ [] = no_length (greater name names) (omega (arith, length-drop p names)) in
    ap (λ l. slice_get (l ++ names) 0) (sym none)

-- the names at places when one more name is known
pub known_names : (known : List (List ℕ)) (name : List ℕ) (is : List ℕ) → All (λ i. i < length known) is → names_at (insert_key (pointwise nat_eq) known name) is ≡ names_at known is
known_names known name is h = elim (cases_Bool (is_among name known)) [ inl t ↦ rw t refl | inr f ↦ rw f (names_more known name is h) ]

pub known_long : (known : List (List ℕ)) (name : List ℕ) → (length known ≤ length (insert_key (pointwise nat_eq) known name)) × (length (insert_key (pointwise nat_eq) known name) ≤ length known + 1)
known_long known name =
    let more = length-append known (name ∷ []) in
    elim (cases_Bool (is_among name known)) [ inl t ↦ rw t (omega arith, omega arith) | inr f ↦ rw f (omega (arith, more), omega (arith, more)) ]

pub known_order : (known : List (List ℕ)) (name : List ℕ) (is : List ℕ) → All (λ i. i < length known) is → IsInOrder (names_at known is) → IsInOrder (names_at (insert_key (pointwise nat_eq) known name) is)
known_order known name is h ordered = subst IsInOrder (sym (known_names known name is h)) ordered

pub known_within : (known : List (List ℕ)) (name : List ℕ) (is : List ℕ) → All (λ i. i < length known) is → All (λ i. i < length (insert_key (pointwise nat_eq) known name)) is
known_within known name is h = all_more (length known) _ is ((known_long known name).0) h

pub name_there : (known : List (List ℕ)) (is : List ℕ) (p d : ℕ) → All (λ j. j < length known) is → p < length is → slice_get (names_at known is) p ≡ slice_get known (slice_index_or is p d)
name_there known [] p d within w = absurd (omega arith)
name_there known (j ∷ js) zero d within w = sym (slice_get-get_or known j [] (within 0 0 (omega arith)))
name_there known (j ∷ js) (suc p) d within w = name_there known js p d (all_rest (λ k. k < length known) j js within) (omega arith)

pub none_there : (known : List (List ℕ)) (is : List ℕ) (p : ℕ) → length is ≤ p → slice_get (names_at known is) p ≡ None
none_there known is p w = slice_get_past (names_at known is) p (omega (arith, length_names known is))

-- the only name is next after any other, and after itself
pub next_of_one : (n : List ℕ) (known : List (List ℕ)) (is : List ℕ) (d : ℕ) → All (λ j. j < length known) is → 1 ≤ length is → length is < 2
    → slice_get known (slice_index_or is 0 d) ≡ next_name n (names_at known is)
next_of_one n known [] d within some one = absurd (omega arith)
next_of_one n known (j ∷ k ∷ js) d within some one = absurd (omega arith)
next_of_one n known (j ∷ []) d within some one = sym (name_there known (j ∷ []) 0 d within (omega arith)) ∙ alone (slice_index_or known j [])
  where
    alone : (x : List ℕ) → Some x ≡ next_name n (x ∷ [])
    alone x = elim (cases_Bool (is_gt (go_cmp x n))) [ inl e ↦ rw e refl | inr e ↦ rw e refl ]
