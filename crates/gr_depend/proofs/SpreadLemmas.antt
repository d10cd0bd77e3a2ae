-- Dependents are marked place by place.
use Rattle.std.proofs.Common.{◌≡◌, ◌<◌, ◌≤◌, ◌+◌, ◌-◌, ◌||◌, ◌&&◌, ℕ, zero, suc, Bool, true, false, nat_lt, cond, List, [], ◌∷◌, ◌++◌, length, take, drop, set as list_set, get_or-set_same, get_or-set_other, slice_get, replicate, Option, Some, None, refl, sym, ap, ◌∙◌, append_assoc, append-nil, arith}
use Rattle.std.specs.Option.{option_map_or}
use Rattle.std.proofs.lemmas.Bool.Decides.{nat_tests}
use Rattle.std.proofs.lemmas.List.{take_more, drop_all, take_all, length-replicate, length-set}
use Rattle.std.proofs.lemmas.List.Folds.{list_any-append}
use Rattle.gr_causal.specs.Dependence.{hits}
use Rattle.gr_record.specs.declared.record.Record.{Record}
use Rattle.gr_record.specs.Conflicts.{conflict_of}
use Rattle.gr_touches.specs.declared.lanes.Lanes.{Lanes}
use Rattle.gr_touches.specs.declared.marks.LogSide.TheVariants.{Later}
use Rattle.gr_touches.specs.declared.marks.Origin.{Origin}
use Rattle.gr_touches.specs.Lists.{list_numbered}
use Rattle.gr_touches.specs.Marks as marks
use Rattle.gr_touches.specs.Marks.{is_beyond, has_mark, Marks}
use Rattle.gr_depend.specs.Marked.{marks_after, dependent_marks, hits_at, conflict_at, IsSpread}
use Rattle.gr_touches.specs.declared.marks.Wanted.{Wanted}
use Rattle.gr_touches.specs.Walks.{AreWalked, HasMarks}

pub lt_true : (a b : ℕ) → a < b → nat_lt a b ≡ true
lt_true a b h = grind (arith, nat_tests)

pub lt_false : (a b : ℕ) → b ≤ a → nat_lt a b ≡ false
lt_false a b h = grind (arith, nat_tests)

pub true_lt : (a b : ℕ) → nat_lt a b ≡ true → a < b
true_lt a b h = grind (arith, nat_tests)

-- no mark is set
pub unmarked : (n j : ℕ) → has_mark (replicate n false) j ≡ false
unmarked zero j = refl
unmarked (suc n) zero = refl
unmarked (suc n) (suc j) = unmarked n j

pub none_walked : (l : Lanes) (o : Origin) (which : Wanted) (walked marks : List Bool) (n : ℕ) → walked ≡ replicate n false → AreWalked l o which walked marks
none_walked l o which walked marks n e k h = absurd (let no : false ≡ true = sym (ap (λ w. has_mark w k) e ∙ unmarked n k) ∙ h in cc)

pub count_of : (m : List Bool) (n : ℕ) → m ≡ replicate n false → length m ≡ n
count_of m n is = ap length is ∙ length-replicate n false

-- one mark is set
pub set_here : (marks : List Bool) (n i : ℕ) → marks ≡ replicate n false → i < n → has_mark (list_set marks i true) i ≡ true
set_here marks n i e w = get_or-set_same marks i true false (let s = ap length e ∙ length-replicate n false in omega (arith, s))

pub set_elsewhere : (marks : List Bool) (n i j : ℕ) → marks ≡ replicate n false → (j ≡ i → ⊥) → has_mark (list_set marks i true) j ≡ false
set_elsewhere marks n i j e other = get_or-set_other marks i j true false other ∙ ap (λ w. has_mark w j) e ∙ unmarked n j

-- the step at a place, and those from there on
pub there : {A : Type 0} (rs : List A) (k : ℕ) → k < length rs → (r : A) × (slice_get rs k ≡ Some r)
there [] k h = absurd (omega arith)
there (r ∷ rs) zero h = (r, refl)
there (r ∷ rs) (suc k) h = there rs k (omega arith)

pub drop_there : {A : Type 0} (rs : List A) (k : ℕ) (r : A) → slice_get rs k ≡ Some r → drop k rs ≡ r ∷ drop (k + 1) rs
drop_there {A} rs k r h = go rs k h ∙ (let e : suc k ≡ k + 1 = omega arith in ap (λ n. r ∷ drop n rs) e)
  where
    go : (xs : List A) (i : ℕ) → slice_get xs i ≡ Some r → drop i xs ≡ r ∷ drop (suc i) xs
    go [] i h = cc
    go (x ∷ xs) zero h = ap (λ y. y ∷ xs) (let e : x ≡ r = cc in e)
    go (x ∷ xs) (suc i) h = go xs i h

-- the same marks before a place, and from it on
pub take_same : (a b : List Bool) (i : ℕ) → length b ≡ length a → ((j : ℕ) → j < i → j < length a → has_mark b j ≡ has_mark a j) → take i b ≡ take i a
take_same [] [] zero e h = refl
take_same [] [] (suc i) e h = refl
take_same [] (y ∷ b) i e h = absurd (omega (arith, e))
take_same (x ∷ a) [] i e h = absurd (omega (arith, e))
take_same (x ∷ a) (y ∷ b) zero e h = refl
take_same (x ∷ a) (y ∷ b) (suc i) e h =
    let first = h 0 (omega arith) (omega arith) in
    let rest = take_same a b i (omega (arith, e)) (λ j w v. h (suc j) (omega arith) (omega arith)) in
    λ k. first k ∷ rest k

pub drop_same : (a b : List Bool) (i : ℕ) → length b ≡ length a → ((j : ℕ) → i ≤ j → j < length a → has_mark b j ≡ has_mark a j) → drop i b ≡ drop i a
drop_same [] [] zero e h = refl
drop_same [] [] (suc i) e h = refl
drop_same [] (y ∷ b) i e h = absurd (omega (arith, e))
drop_same (x ∷ a) [] i e h = absurd (omega (arith, e))
drop_same (x ∷ a) (y ∷ b) zero e h =
    let first = h 0 (omega arith) (omega arith) in
    let rest = drop_same a b zero (omega (arith, e)) (λ j w v. h (suc j) (omega arith) (omega arith)) in
    λ k. first k ∷ rest k
drop_same (x ∷ a) (y ∷ b) (suc i) e h = drop_same a b i (omega (arith, e)) (λ j w v. h (suc j) (omega arith) (omega arith))

-- what conflicts with one more step
module _ {A : Type 0} (clash : A → A → Bool) where
  pub hits_with : (ds : List A) (r : A) (rs : List A) (p : ℕ) → hits_at clash (ds ++ r ∷ []) rs p ≡ (hits_at clash ds rs p || hits_at clash (r ∷ []) rs p)
  hits_with ds r rs p = by (slice_get rs p)
    where
      by : (o : Option A) → option_map_or (hits clash (ds ++ r ∷ [])) o false ≡ (option_map_or (hits clash ds) o false || option_map_or (hits clash (r ∷ [])) o false)
      by None = refl
      by (Some x) = list_any-append (λ d. clash d x) ds (r ∷ [])

  pub hits_before : (ds : List A) (r : A) (rs : List A) (p : ℕ) → hits_at clash (r ∷ ds) rs p ≡ (hits_at clash ds rs p || hits_at clash (r ∷ []) rs p)
  hits_before ds r rs p = by (slice_get rs p)
    where
      turn : (a b : Bool) → (a || b) ≡ (b || (a || false))
      turn true true = refl
      turn true false = refl
      turn false true = refl
      turn false false = refl

      by : (o : Option A) → option_map_or (hits clash (r ∷ ds)) o false ≡ (option_map_or (hits clash ds) o false || option_map_or (hits clash (r ∷ [])) o false)
      by None = refl
      by (Some x) = turn (clash r x) (hits clash ds x)

  pub hits_there : (ds rs : List A) (k : ℕ) (r : A) → slice_get rs k ≡ Some r → hits_at clash ds rs k ≡ hits clash ds r
  hits_there ds rs k r h = ap (λ o. option_map_or (hits clash ds) o false) h

pub conflict_there : (rs : List Record) (k : ℕ) (r : Record) (p : ℕ) → slice_get rs k ≡ Some r → conflict_at rs k p ≡ hits_at conflict_of (r ∷ []) rs p
conflict_there rs k r p h = ap (λ o. option_map_or (λ x. hits_at conflict_of (x ∷ []) rs p) o false) h

-- from one place to a later one, less is beyond
pub walked_on : (l : Lanes) (a b : Origin) (which : Wanted) (w m : List Bool) → a.base ≡ b.base → ((p : ℕ) → is_beyond b p ≡ true → is_beyond a p ≡ true)
    → AreWalked l a which w m → AreWalked l b which w m
walked_on l a b which w m same less walked n e j h beyond hit =
    let is = ap (λ x. x + j) same in
    walked n e j h (ap (is_beyond a) is ∙ less (b.base + j) beyond) (ap (marks.hits which (list_numbered l n)) is ∙ hit)

dependent_at : (rs : List Record) (k : ℕ) (r : Record) → slice_get rs k ≡ Some r → dependent_marks conflict_of rs k ≡ true ∷ marks_after conflict_of (r ∷ []) (drop (k + 1) rs)
dependent_at rs k r h = go rs k h ∙ (let e : suc k ≡ k + 1 = omega arith in ap (λ n. true ∷ marks_after conflict_of (r ∷ []) (drop n rs)) e)
  where
    go : (xs : List Record) (i : ℕ) → slice_get xs i ≡ Some r → dependent_marks conflict_of xs i ≡ true ∷ marks_after conflict_of (r ∷ []) (drop (suc i) xs)
    go [] i h = cc
    go (x ∷ xs) zero h = ap (λ y. true ∷ marks_after conflict_of (y ∷ []) xs) (let e : x ≡ r = cc in e)
    go (x ∷ xs) (suc i) h = go xs i h

module _ (rs : List Record) (at : ℕ) where
  abbrev pub from : ℕ → Origin
  from k = record { side = Later; place = k; base = at }

  -- the first step is marked, and all that conflict with it
  pub spread_start : (m n : List Bool) → at < length rs → length n ≡ length m → 0 < length m → has_mark m 0 ≡ true → ((j : ℕ) → (j ≡ 0 → ⊥) → has_mark m j ≡ false)
      → Marks (from at) (conflict_at rs at) m n → IsSpread rs at (at + 1) n
  spread_start m n within same some first others marks =
      let r = (there rs at within).0 in
      let here = (there rs at within).1 in
      record {
        found = r ∷ [];
        before =
            let one : (at + 1) - at ≡ 0 + 1 = omega arith in
            ap (λ i. take i n ++ marks_after conflict_of (r ∷ []) (drop (at + 1) rs)) one
            ∙ ap (λ l. l ++ marks_after conflict_of (r ∷ []) (drop (at + 1) rs)) (take_more n 0 false (omega arith))
            ∙ ap (λ b. b ∷ marks_after conflict_of (r ∷ []) (drop (at + 1) rs)) (marks 0 some ∙ ap (λ b. b || (nat_lt at (at + 0) && conflict_at rs at (at + 0))) first)
            ∙ sym (dependent_at rs at r here);
        rest = λ j w v.
            marks j (omega arith) ∙ ap (λ b. b || (nat_lt at (at + j) && conflict_at rs at (at + j))) (others j (λ e. omega arith))
            ∙ ap (λ b. b && conflict_at rs at (at + j)) (lt_true at (at + j) (omega arith)) ∙ conflict_there rs at r (at + j) here;
      }

  -- the marks before the next place
  before_next : (ds : List Record) (m n : List Bool) (i : ℕ) (k : ℕ) (r : Record) (b : Bool) → slice_get rs k ≡ Some r → i < length n → take i n ≡ take i m → has_mark n i ≡ b
      → hits conflict_of ds r ≡ b → take (i + 1) n ++ marks_after conflict_of (cond b (ds ++ r ∷ []) ds) (drop (k + 1) rs) ≡ take i m ++ marks_after conflict_of ds (drop k rs)
  before_next ds m n i k r b here within same is hit =
      ap (λ l. l ++ marks_after conflict_of (cond b (ds ++ r ∷ []) ds) (drop (k + 1) rs)) (take_more n i false within ∙ (λ x. same x ++ is x ∷ []))
      ∙ append_assoc (take i m) (b ∷ []) (marks_after conflict_of (cond b (ds ++ r ∷ []) ds) (drop (k + 1) rs))
      ∙ ap (λ l. take i m ++ l) (by b hit ∙ sym (ap (marks_after conflict_of ds) (drop_there rs k r here)))
    where
      by : (b : Bool) → hits conflict_of ds r ≡ b
          → b ∷ marks_after conflict_of (cond b (ds ++ r ∷ []) ds) (drop (k + 1) rs) ≡ marks_after conflict_of ds (r ∷ drop (k + 1) rs)
      by true h = rw h refl
      by false h = rw h refl

  module _ (k : ℕ) (m : List Bool) (after : at < k) (within : k < length rs) (count : length m ≡ length rs - at) (s : IsSpread rs at k m) where
    r : Record
    r = (there rs k within).0

    here : slice_get rs k ≡ Some r
    unfolding r
    here = (there rs k within).1

    flag : has_mark m (k - at) ≡ hits conflict_of s.found r
    flag =
        let is : at + (k - at) ≡ k = omega arith in
        s.rest (k - at) (omega arith) (omega arith) ∙ ap (hits_at conflict_of s.found rs) is ∙ hits_there conflict_of s.found rs k r here

    pub spread_pass : has_mark m (k - at) ≡ false → IsSpread rs at (k + 1) m
    spread_pass not = record {
      found = s.found;
      before =
          let next : (k + 1) - at ≡ (k - at) + 1 = omega arith in
          ap (λ i. take i m ++ marks_after conflict_of s.found (drop (k + 1) rs)) next
          ∙ before_next s.found m m (k - at) k r false here (omega arith) refl not (sym flag ∙ not) ∙ s.before;
      rest = λ j w v. s.rest j (omega arith) v;
    }

    pub spread_take : (n : List Bool) → length n ≡ length m → has_mark m (k - at) ≡ true → Marks (from k) (conflict_at rs k) m n → IsSpread rs at (k + 1) n
    spread_take n same set marks =
        let stays : (j : ℕ) → j < (k - at) + 1 → j < length m → has_mark n j ≡ has_mark m j =
        (λ j w v. marks j v ∙ ap (λ b. has_mark m j || (b && conflict_at rs k (at + j))) (lt_false k (at + j) (omega arith)) ∙ or_false (has_mark m j)) in
        record {
          found = s.found ++ r ∷ [];
          before =
              let next : (k + 1) - at ≡ (k - at) + 1 = omega arith in
              ap (λ i. take i n ++ marks_after conflict_of (s.found ++ r ∷ []) (drop (k + 1) rs)) next
              ∙ before_next s.found m n (k - at) k r true here (omega arith) (take_same m n (k - at) same (λ j w v. stays j (omega arith) v))
              (stays (k - at) (omega arith) (omega arith) ∙ set) (sym flag ∙ set)
              ∙ s.before;
          rest = λ j w v.
              marks j (omega arith) ∙ ap (λ b. has_mark m j || (b && conflict_at rs k (at + j))) (lt_true k (at + j) (omega arith))
              ∙ (λ x. s.rest j (omega arith) (omega arith) x || conflict_there rs k r (at + j) here x)
              ∙ sym (hits_with conflict_of s.found r rs (at + j));
        }
      where
        or_false : (b : Bool) → (b || false) ≡ b
        or_false true = refl
        or_false false = refl

  pub spread_end : (k : ℕ) (m : List Bool) → length rs ≤ k → length m ≡ length rs - at → IsSpread rs at k m → m ≡ dependent_marks conflict_of rs at
  spread_end k m past count s =
      sym (append-nil m) ∙ ap (λ l. l ++ []) (sym (take_all (k - at) m (omega arith)))
      ∙ ap (λ l. take (k - at) m ++ marks_after conflict_of s.found l) (sym (drop_all k rs past)) ∙ s.before

  pub spread_init : (m n : List Bool) → at < length rs → m ≡ replicate (length rs - at) false → length n ≡ length (list_set m 0 true)
      → Marks (from at) (conflict_at rs at) (list_set m 0 true) n → IsSpread rs at (at + 1) n
  spread_init m n within is same marks =
      let count = count_of m (length rs - at) is in
      spread_start (list_set m 0 true) n within same (omega (arith, length-set m 0 true, count)) (set_here m (length rs - at) 0 is (omega arith))
      (λ j other. set_elsewhere m (length rs - at) 0 j is other) marks

  pub later_walked : (l : Lanes) (which : Wanted) (w m : List Bool) (a b : ℕ) → a ≤ b → AreWalked l (from a) which w m → AreWalked l (from b) which w m
  later_walked l which w m a b le =
      walked_on l (from a) (from b) which w m refl (λ p h. let lt = true_lt b p h in lt_true a p (omega arith))

  pub has_later : (k count : ℕ) → at ≤ k → at + count ≡ length rs → HasMarks (from k) (length rs) count
  has_later k count le is p w h = let lt = true_lt k p h in (omega arith, omega arith)
