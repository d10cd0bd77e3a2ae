-- Causes are marked place by place.
use Rattle.std.proofs.Common.{◌≡◌, ◌<◌, ◌≤◌, ◌+◌, ◌-◌, ◌||◌, ◌&&◌, ℕ, suc, Bool, true, false, nat_lt, cond, List, [], ◌∷◌, length, drop, set as list_set, replicate, slice_get, Some, refl, sym, ap, ◌∙◌, zero-add, arith}
use Rattle.std.proofs.lemmas.List.{drop_more, drop_all, length-set}
use Rattle.gr_causal.specs.Dependence.{hits, causes}
use Rattle.gr_record.specs.declared.record.Record.{Record}
use Rattle.gr_record.specs.Conflicts.{conflict_of}
use Rattle.gr_touches.specs.declared.marks.LogSide.TheVariants.{Earlier}
use Rattle.gr_touches.specs.declared.marks.Origin.{Origin}
use Rattle.gr_touches.specs.declared.lanes.Lanes.{Lanes}
use Rattle.gr_touches.specs.declared.marks.Wanted.{Wanted}
use Rattle.gr_touches.specs.Walks.{AreWalked}
use Rattle.gr_touches.specs.Marks.{has_mark, Marks}
use Rattle.gr_depend.specs.Marked.{cause_marks, hits_at, conflict_at, IsTraced}
use Rattle.gr_depend.proofs.SpreadLemmas.{lt_true, lt_false, true_lt, count_of, set_here, set_elsewhere, walked_on, there, drop_there, drop_same, hits_before, hits_there, conflict_there}

or_false : (b : Bool) → (b || false) ≡ b
or_false true = refl
or_false false = refl

module _ (rs : List Record) (end : ℕ) where
  abbrev pub until : ℕ → Origin
  until k = record { side = Earlier; place = k; base = 0 }

  pub traced_start : (m n : List Bool) → end < length rs → length n ≡ length m → length m ≡ end + 1 → has_mark m end ≡ true
      → ((j : ℕ) → (j ≡ end → ⊥) → has_mark m j ≡ false) → Marks (until end) (conflict_at rs end) m n → IsTraced rs end end n
  traced_start m n within same count last others marks =
      let r = (there rs end within).0 in
      let here = (there rs end within).1 in
      let none : end - end ≡ 0 = omega arith in
      let it : causes conflict_of (drop end rs) (end - end) ≡ r ∷ [] = (λ x. causes conflict_of (drop_there rs end r here x) (none x)) in
      record {
        after =
            drop_more n end false (omega arith)
            ∙ (λ x. (marks end (omega arith) ∙ ap (λ b. b || (nat_lt (0 + end) end && conflict_at rs end (0 + end))) last) x ∷ drop_all (end + 1) n (omega arith) x)
            ∙ sym (λ x. cause_marks conflict_of (drop_there rs end r here x) (none x));
        rest = λ j w.
            marks j (omega arith) ∙ ap (λ b. b || (nat_lt (0 + j) end && conflict_at rs end (0 + j))) (others j (λ e. omega arith))
            ∙ ap (λ b. b && conflict_at rs end (0 + j)) (lt_true (0 + j) end (omega arith)) ∙ conflict_there rs end r (0 + j) here
            ∙ ap (hits_at conflict_of (r ∷ []) rs) (zero-add j) ∙ ap (λ ds. hits_at conflict_of ds rs j) (sym it);
      }

  module _ (k : ℕ) (m : List Bool) (some : 0 < k) (upto : k ≤ end) (within : end < length rs) (count : length m ≡ end + 1) (s : IsTraced rs end k m) where
    p : ℕ
    p = k - 1

    more : p + 1 ≡ k
    unfolding p
    more = omega arith

    below : p < length rs
    unfolding p
    below = omega arith

    r : Record
    r = (there rs p below).0

    here : slice_get rs p ≡ Some r
    unfolding r
    here = (there rs p below).1

    rest_is : drop p rs ≡ r ∷ drop k rs
    rest_is = drop_there rs p r here ∙ ap (λ n. r ∷ drop n rs) more

    one_more : end - p ≡ suc (end - k)
    unfolding p
    one_more = omega arith

    abbrev cs : List Record
    cs = causes conflict_of (drop k rs) (end - k)

    flag : has_mark m p ≡ hits conflict_of cs r
    unfolding p
    flag = s.rest (k - 1) (omega arith) ∙ hits_there conflict_of cs rs p r here

    causes_now : causes conflict_of (drop p rs) (end - p) ≡ cond (has_mark m p) (r ∷ cs) cs
    causes_now = (λ x. causes conflict_of (rest_is x) (one_more x)) ∙ ap (λ b. cond b (r ∷ cs) cs) (sym flag)

    after_now : (n : List Bool) → length n ≡ length m → has_mark n p ≡ has_mark m p → drop k n ≡ drop k m → drop p n ≡ cause_marks conflict_of (drop p rs) (end - p)
    unfolding p
    after_now n same at later =
        drop_more n (k - 1) false (omega arith) ∙ (λ x. (at ∙ flag) x ∷ (ap (λ i. drop i n) more ∙ later ∙ s.after) x)
        ∙ sym (λ x. cause_marks conflict_of (rest_is x) (one_more x))

    pub traced_pass : has_mark m (k - 1) ≡ false → IsTraced rs end (k - 1) m
    unfolding p
    traced_pass not = record {
      after = after_now m refl refl refl;
      rest = λ j w. s.rest j (omega arith) ∙ ap (λ ds. hits_at conflict_of ds rs j) (sym (causes_now ∙ ap (λ b. cond b (r ∷ cs) cs) not));
    }

    pub traced_take : (n : List Bool) → length n ≡ length m → has_mark m (k - 1) ≡ true → Marks (until (k - 1)) (conflict_at rs (k - 1)) m n → IsTraced rs end (k - 1) n
    unfolding p
    traced_take n same set marks =
        let stays : (j : ℕ) → k - 1 ≤ j → j < length m → has_mark n j ≡ has_mark m j =
        (λ j w v. marks j v ∙ ap (λ b. has_mark m j || (b && conflict_at rs (k - 1) (0 + j))) (lt_false (0 + j) (k - 1) (omega arith)) ∙ or_false (has_mark m j)) in
        record {
          after = after_now n same (stays (k - 1) (omega arith) (omega arith)) (drop_same m n k same (λ j w v. stays j (omega arith) v));
          rest = λ j w.
              marks j (omega arith) ∙ ap (λ b. has_mark m j || (b && conflict_at rs (k - 1) (0 + j))) (lt_true (0 + j) (k - 1) (omega arith))
              ∙ (λ x. s.rest j (omega arith) x || (conflict_there rs (k - 1) r (0 + j) here ∙ ap (hits_at conflict_of (r ∷ []) rs) (zero-add j)) x)
              ∙ sym (hits_before conflict_of cs r rs j)
              ∙ ap (λ ds. hits_at conflict_of ds rs j) (sym (causes_now ∙ ap (λ b. cond b (r ∷ cs) cs) set));
        }

  pub traced_end : (k : ℕ) (m : List Bool) → k ≡ 0 → IsTraced rs end k m → m ≡ cause_marks conflict_of rs end
  traced_end k m none s =
      let all : end - k ≡ end = omega arith in
      sym (ap (λ n. drop n m) none) ∙ s.after ∙ (λ x. cause_marks conflict_of (drop (none x) rs) (all x))

  pub traced_init : (m n : List Bool) → end < length rs → m ≡ replicate (end + 1) false → length n ≡ length (list_set m end true)
      → Marks (until end) (conflict_at rs end) (list_set m end true) n → IsTraced rs end end n
  traced_init m n within is same marks =
      let count = count_of m (end + 1) is in
      traced_start (list_set m end true) n within same (omega (arith, length-set m end true, count)) (set_here m (end + 1) end is (omega arith))
      (λ j other. set_elsewhere m (end + 1) end j is other) marks

  pub earlier_walked : (l : Lanes) (which : Wanted) (w m : List Bool) (a b : ℕ) → b ≤ a → AreWalked l (until a) which w m → AreWalked l (until b) which w m
  earlier_walked l which w m a b le =
      walked_on l (until a) (until b) which w m refl (λ p h. let lt = true_lt p b h in lt_true p a (omega arith))
