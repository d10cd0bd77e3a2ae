-- Names in order, and where one of them stands.
use Rattle.std.proofs.Common.{◌≡◌, ◌⊎◌, inl, inr, ℕ, zero, suc, ◌+◌, ◌<◌, ◌≤◌, List, [], ◌∷◌, length, take, drop, refl, ap, sym, ◌∙◌, arith, add-one}
use Rattle.std.specs.Prelude.{slice_index_or}
use Rattle.std.specs.Ordering.{ordering_reverse}
use Rattle.std.specs.Cmp.{IsTotalOrder}
use Rattle.std.specs.Cmp.Lexicographic.{nat_list_cmp_total}
use Rattle.std.specs.declared.cmp.Ordering.{Ordering}
use Rattle.std.specs.declared.cmp.Ordering.TheVariants.{Less, Equal, Greater}
use Rattle.std.proofs.lemmas.Map.Lookups.{exact_bytes}
use Rattle.gr_base.specs.Names.{go_cmp}
use Rattle.gr_pool.specs.Goroutines.{IsInOrder, lesser, greater, names_at, StandsAt}

total : IsTotalOrder go_cmp
total = nat_list_cmp_total

pub less_trans : (a b c : List ℕ) → go_cmp a b ≡ Less → go_cmp b c ≡ Less → go_cmp a c ≡ Less
less_trans a b c = total.trans a b c

pub greater_back : (a b : List ℕ) → go_cmp a b ≡ Greater → go_cmp b a ≡ Less
greater_back a b e = total.antisymm b a ∙ ap ordering_reverse e

pub less_back : (a b : List ℕ) → go_cmp a b ≡ Less → go_cmp b a ≡ Greater
less_back a b e = total.antisymm b a ∙ ap ordering_reverse e

reversed : (r : Ordering) → r ≡ ordering_reverse r → r ≡ Equal
reversed Less e = cc
reversed Equal e = refl
reversed Greater e = cc

-- a name ties with itself
pub ties_itself : (name : List ℕ) → go_cmp name name ≡ Equal
ties_itself name = reversed (go_cmp name name) (total.antisymm name name)

any_default : {X : Type 0} → (xs : List X) (k : ℕ) (d e : X) → k < length xs → slice_index_or xs k d ≡ slice_index_or xs k e
any_default [] k d e less = absurd (omega arith)
any_default (x ∷ xs) zero d e less = refl
any_default (x ∷ xs) (suc k) d e less = any_default xs k d e (omega arith)

-- what stands at a place among the names, whatever is answered past the end
pub at_place : (known : List (List ℕ)) (ready : List ℕ) (k : ℕ) (d e : List ℕ) (f : ℕ) → k < length ready → slice_index_or ready k f < length known → slice_index_or (names_at known ready) k d ≡ slice_index_or known (slice_index_or ready k f) e
at_place known [] k d e f less within = absurd (omega arith)
at_place known (x ∷ xs) zero d e f less within = any_default known x [] e within
at_place known (x ∷ xs) (suc k) d e f less within = at_place known xs k d e f (omega arith) within

before_or_at : (k m : ℕ) → k < m + 1 → (k < m) ⊎ (k ≡ m)
before_or_at k m h = grind arith

-- the names up to one that is less are less
pub less_up_to : (names : List (List ℕ)) (name : List ℕ) (m : ℕ) → IsInOrder names → m < length names → ((d : List ℕ) → go_cmp (slice_index_or names m d) name ≡ Less)
    → (k : ℕ) (d : List ℕ) → k < m + 1 → go_cmp (slice_index_or names k d) name ≡ Less
less_up_to names name m ordered within less k d low =
    elim (before_or_at k m low) [
      | inl h ↦ less_trans (slice_index_or names k d) (slice_index_or names m d) name (ordered k m d h within) (less d)
      | inr e ↦ rw e (less d)
    ]

-- the names from one that is greater on are greater
pub greater_from : (names : List (List ℕ)) (name : List ℕ) (m : ℕ) → IsInOrder names → ((d : List ℕ) → go_cmp (slice_index_or names m d) name ≡ Greater)
    → (k : ℕ) (d : List ℕ) → m ≤ k → k < length names → go_cmp (slice_index_or names k d) name ≡ Greater
greater_from names name m ordered more k d low within =
    elim (before_or_at m k (omega arith)) [
      | inl h ↦ less_back name (slice_index_or names k d) (less_trans name (slice_index_or names m d) (slice_index_or names k d) (greater_back (slice_index_or names m d) name (more d)) (ordered m k d h within))
      | inr e ↦ rw (← e) (more d)
    ]

-- where the lesser ones end and the greater ones begin
pub gap_at : (names : List (List ℕ)) (name : List ℕ) (m : ℕ) → m ≤ length names → ((k : ℕ) (d : List ℕ) → k < m → go_cmp (slice_index_or names k d) name ≡ Less)
    → ((k : ℕ) (d : List ℕ) → m ≤ k → k < length names → go_cmp (slice_index_or names k d) name ≡ Greater) → (take m names ≡ lesser name names) × (drop m names ≡ greater name names)
gap_at [] name zero within before after = (refl, refl)
gap_at [] name (suc m) within before after = absurd (omega arith)
gap_at (x ∷ xs) name zero within before after =
    let here : go_cmp x name ≡ Greater = after 0 x (omega arith) (omega arith) in
    let rest = gap_at xs name zero (omega arith) (λ k d h. absurd (omega arith)) (λ k d h w. after (suc k) d (omega arith) (omega arith)) in
    (rw here (rest.0), rw here (ap (λ l. x ∷ l) (rest.1)))
gap_at (x ∷ xs) name (suc m) within before after =
    let here : go_cmp x name ≡ Less = before 0 x (omega arith) in
    let rest = gap_at xs name m (omega arith) (λ k d h. before (suc k) d (omega arith)) (λ k d h w. after (suc k) d (omega arith) (omega arith)) in
    (rw here (ap (λ l. x ∷ l) (rest.0)), rw here (rest.1))

-- the same where one of them ties
pub place_at : (names : List (List ℕ)) (name : List ℕ) (m : ℕ) → m < length names → ((k : ℕ) (d : List ℕ) → k < m → go_cmp (slice_index_or names k d) name ≡ Less)
    → ((d : List ℕ) → go_cmp (slice_index_or names m d) name ≡ Equal)
    → ((k : ℕ) (d : List ℕ) → m < k → k < length names → go_cmp (slice_index_or names k d) name ≡ Greater) → (take m names ≡ lesser name names) × (drop (m + 1) names ≡ greater name names)
place_at [] name m within before here after = absurd (omega arith)
place_at (x ∷ xs) name zero within before here after =
    let rest = gap_at xs name zero (omega arith) (λ k d h. absurd (omega arith)) (λ k d h w. after (suc k) d (omega arith) (omega arith)) in
    let tie : go_cmp x name ≡ Equal = here x in
    (rw tie (rest.0), rw tie (rest.1))
place_at (x ∷ xs) name (suc m) within before here after =
    let first : go_cmp x name ≡ Less = before 0 x (omega arith) in
    let rest = place_at xs name m (omega arith) (λ k d h. before (suc k) d (omega arith)) here (λ k d h w. after (suc k) d (omega arith) (omega arith)) in
    (rw first (ap (λ l. x ∷ l) (rest.0)), rw (add-one, first) (rw add-one at (rest.1)))

pub length_names : (known : List (List ℕ)) (ready : List ℕ) → length (names_at known ready) ≡ length ready
length_names known [] = refl
length_names known (x ∷ xs) = ap suc (length_names known xs)

-- how the name at a place compares
pub compared : (known : List (List ℕ)) (ready : List ℕ) (m : ℕ) (name x : List ℕ) (r : Ordering) → m < length ready → slice_index_or ready m 0 < length known → x ≡ slice_index_or known (slice_index_or ready m 0) x → r ≡ go_cmp x name
    → (d : List ℕ) → go_cmp (slice_index_or (names_at known ready) m d) name ≡ r
compared known ready m name x r less within is answer d =
    ap (λ y. go_cmp y name) (at_place known ready m d x 0 less within ∙ sym is) ∙ sym answer

pub stands : (names : List (List ℕ)) (name : List ℕ) (m : ℕ) → IsInOrder names → m < length names → ((d : List ℕ) → go_cmp (slice_index_or names m d) name ≡ Equal) → StandsAt name names m
stands names name m ordered within tie =
    let same : (d : List ℕ) → slice_index_or names m d ≡ name = λ d. exact_bytes (slice_index_or names m d) name (tie d) in
    let parts = place_at names name m within
    (λ k d h. ap (λ y. go_cmp (slice_index_or names k d) y) (sym (same d)) ∙ ordered k m d h within)
    tie
    (λ k d h w. less_back name (slice_index_or names k d) (ap (λ y. go_cmp y (slice_index_or names k d)) (sym (same d)) ∙ ordered m k d h w)) in
    record { within = within; here = same; before = parts.0; after = parts.1 }
