-- Of the goroutines that are ready, those whose next step is local.
use Rattle.std.proofs.Common.{◌≡◌, ◌+◌, ◌-◌, ◌*◌, ◌/◌, ◌<◌, ◌≤◌, ◌%◌, ℕ, zero, suc, arith, div-add-mod', mod-lt, true≢false, Bool, true, false, cond, ◌&&◌, ◌||◌, List, [], ◌∷◌, length, drop, filter, get_or, All, Option, Some, None, refl, sym, ap, subst, ◌∙◌}
use Rattle.std.specs.Prelude.{slice_get, option_map, Result, Ok, Err, IfOk, IfSome, IfNone, OnErr}
use Rattle.std.specs.List.{AllPairs, AllByRecursion}
use Rattle.std.specs.declared.cmp.Ordering.TheVariants.{Less}
use Rattle.std.proofs.lemmas.List.{drop_more, drop_all}
use Rattle.std.proofs.lemmas.Nat.{mod-mul-add}
use Rattle.std.proofs.lemmas.List.Elements.{All-from_recursion, recursion_from_All}
use Rattle.gr_base.specs.Names.{go_cmp}
use Rattle.gr_base.specs.declared.memory.NoMemory.{NoMemory}
use Rattle.gr_pool.specs.Goroutines.{is_among, IsInOrder}
use Rattle.gr_program.specs.Programs.{Program}
use Rattle.gr_rules.specs.Frames.{Frame}
use Rattle.gr_rules.specs.Goroutines.{Status, ready, waiting, finished}
use Rattle.gr_rules.specs.LocalSteps.{is_local_at, is_local_in}
use Rattle.gr_rules.specs.States.{Run, live, ended, faulted, State, same_go}
use Rattle.gr_laws.proofs.CellLemmas.{go_self, go_is}
use Rattle.gr_code.specs.CodeFrames.{CodeFrame}
use Rattle.gr_code.specs.Goroutines.{CodeGoroutine}
use Rattle.gr_refine.specs.Contents.{Contents, goroutine_of}
use Rattle.gr_step.specs.declared.store.Store.{Store}
use Rattle.gr_step.specs.declared.leasing.LentCopy.{LentCopy}
use Rattle.gr_step.specs.Guard.{IsUp}
use Rattle.gr_step.specs.Leasing.{CanCountOn, CanLeadOn, IsLease, IsAsLent, IsLoanOf, goes_alone, loan_of}
use Rattle.gr_step.specs.Listings.{frame_in, state_in}
use Rattle.gr_step.specs.Stores.{contents_at, program_at, state_at}
use Rattle.gr_rollback.specs.declared.machine.Machine.{Machine}
use Rattle.gr_rollback.specs.Leasing.{GoAlone, IsLentAt, SomeGoesAlone}
use Rattle.gr_rollback.specs.Machines.{Stands, store_of}
use Rattle.gr_rollback.specs.Pasts.{Timeline}
use Rattle.gr_rollback.specs.Readiness.{IsReadyIn}
use Rattle.gr_rollback.proofs.CourseLemmas.{can_count}

-- what holds holds where a result is an error
pub on_err : {T E A : Type 0} (r : Result T E) → A → OnErr r A
on_err (Ok x) a = tt
on_err (Err e) a = a

-- a list without those that fail a test
module _ {A : Type 0} where
  filtered_each : (P : A → Type 0) (q : A → Bool) (xs : List A) → AllByRecursion P xs → AllByRecursion P (filter q xs)
  filtered_each P q [] all = tt
  filtered_each P q (x ∷ xs) all = by (q x) (filtered_each P q xs all.1)
    where
      by : (b : Bool) → AllByRecursion P (filter q xs) → AllByRecursion P (cond b (x ∷ filter q xs) (filter q xs))
      by true rest = (all.0, rest)
      by false rest = rest

  first_pairs : (R : A → A → Type 0) (x : A) (xs : List A) → AllPairs R (x ∷ xs) → All (R x) xs
  first_pairs R x xs pairs k d lt = pairs 0 (suc k) d (omega arith) (omega (arith, lt))

  other_pairs : (R : A → A → Type 0) (x : A) (xs : List A) → AllPairs R (x ∷ xs) → AllPairs R xs
  other_pairs R x xs pairs i j d less within = pairs (suc i) (suc j) d (omega (arith, less)) (omega (arith, within))

  more_pairs : (R : A → A → Type 0) (x : A) (xs : List A) → All (R x) xs → AllPairs R xs → AllPairs R (x ∷ xs)
  more_pairs R x xs all pairs zero zero d less within = absurd (omega (arith, less))
  more_pairs R x xs all pairs zero (suc j) d less within = all j d (omega (arith, within))
  more_pairs R x xs all pairs (suc i) zero d less within = absurd (omega (arith, less))
  more_pairs R x xs all pairs (suc i) (suc j) d less within = pairs i j d (omega (arith, less)) (omega (arith, within))

  pub filtered_pairs : (R : A → A → Type 0) (q : A → Bool) (xs : List A) → AllPairs R xs → AllPairs R (filter q xs)
  filtered_pairs R q [] pairs = pairs
  filtered_pairs R q (x ∷ xs) pairs = by (q x) (filtered_pairs R q xs (other_pairs R x xs pairs))
    where
      first : All (R x) (filter q xs)
      first = All-from_recursion (R x) (filter q xs) (filtered_each (R x) q xs (recursion_from_All (R x) xs (first_pairs R x xs pairs)))

      by : (b : Bool) → AllPairs R (filter q xs) → AllPairs R (cond b (x ∷ filter q xs) (filter q xs))
      by true rest = more_pairs R x (filter q xs) first rest
      by false rest = rest

  -- from a place on
  pub filtered_from : (q : A → Bool) (xs : List A) (i : ℕ) (d : A) (b : Bool) → i < length xs → b ≡ q (get_or xs i d)
      → filter q (drop i xs) ≡ cond b (get_or xs i d ∷ filter q (drop (i + 1) xs)) (filter q (drop (i + 1) xs))
  filtered_from q xs i d b lt is =
      ap (filter q) (drop_more xs i d lt) ∙ ap (λ t. cond t (get_or xs i d ∷ filter q (drop (i + 1) xs)) (filter q (drop (i + 1) xs))) (sym is)

  pub filtered_past : (q : A → Bool) (xs : List A) (i : ℕ) → length xs ≤ i → filter q (drop i xs) ≡ []
  filtered_past q xs i le = ap (filter q) (drop_all i xs le)

  pub got : (xs : List A) (i : ℕ) (x d : A) → Some x ≡ slice_get xs i → x ≡ get_or xs i d
  got [] i x d e = cc
  got (y ∷ xs) zero x d e = cc
  got (y ∷ xs) (suc i) x d e = got xs i x d e

  pub not_got : (xs : List A) (i : ℕ) → i < length xs → None ≡ slice_get xs i → ⊥
  not_got [] i lt e = omega (arith, lt)
  not_got (y ∷ xs) zero lt e = cc
  not_got (y ∷ xs) (suc i) lt e = not_got xs i (omega (arith, lt)) e

  pub got_here : (xs : List A) (i : ℕ) (d : A) → i < length xs → slice_get xs i ≡ Some (get_or xs i d)
  got_here [] i d lt = absurd (omega (arith, lt))
  got_here (y ∷ xs) zero d lt = refl
  got_here (y ∷ xs) (suc i) d lt = got_here xs i d (omega (arith, lt))

  pub none_of_none : (xs : List A) (k : ℕ) → length xs ≡ 0 → None ≡ slice_get xs k
  none_of_none [] k e = refl
  none_of_none (x ∷ xs) k e = absurd (omega (arith, e))

-- the names for which a test holds
and_false : (b : Bool) → (b && false) ≡ false
and_false true = refl
and_false false = refl

pub among_filtered : (q : List ℕ → Bool) (n : List ℕ) (xs : List (List ℕ)) → is_among n (filter q xs) ≡ (is_among n xs && q n)
among_filtered q n [] = refl
among_filtered q n (x ∷ xs) = by (q x) refl (same_go n x) refl (among_filtered q n xs)
  where
    by : (b : Bool) → q x ≡ b → (c : Bool) → same_go n x ≡ c → is_among n (filter q xs) ≡ (is_among n xs && q n)
        → is_among n (cond b (x ∷ filter q xs) (filter q xs)) ≡ ((c || is_among n xs) && q n)
    by true holds true same rest = ap (λ t. t || is_among n (filter q xs)) same ∙ sym (ap q (go_is n x same) ∙ holds)
    by true holds false same rest = ap (λ t. t || is_among n (filter q xs)) same ∙ rest
    by false fails true same rest =
        let no : q n ≡ false = ap q (go_is n x same) ∙ fails in
        rest ∙ ap (λ t. is_among n xs && t) no ∙ and_false (is_among n xs) ∙ sym no
    by false fails false same rest = rest

-- a goroutine whose next step is local is ready, and the program runs
pub record IsAlone (s : Contents) (n : List ℕ) : Type 0 where
  pub runs : s.run ≡ live
  pub ready_in : IsReadyIn s n

module _ (f : CodeFrame → Frame) where
  no_truth : {P : Type 0} → false ≡ true → P
  no_truth e = cc

  by_status : (g : CodeGoroutine) (t : Status) → g.status ≡ t → (elim t [ ready ↦ is_local_at (goroutine_of f g).frames | _ ↦ false ]) ≡ true → g.status ≡ ready
  by_status g ready is e = is
  by_status g (waiting ws) is e = no_truth e
  by_status g finished is e = no_truth e

  by_parts : (r : Run) (o : Option CodeGoroutine)
      → (elim r [ live ↦ elim (option_map (goroutine_of f) o) [ Some x ↦ is_local_in x | None ↦ false ] | _ ↦ false ]) ≡ true
      → (r ≡ live) × (g : CodeGoroutine) × (o ≡ Some g) × (g.status ≡ ready)
  by_parts ended o e = no_truth e
  by_parts (faulted x) o e = no_truth e
  by_parts live None e = no_truth e
  by_parts live (Some g) e = (refl, g, refl, by_status g g.status refl e)

pub alone_is_up : (p : Program) (s : Contents) (n : List ℕ) → goes_alone (state_in p s) n ≡ true → IsAlone s n
alone_is_up p s n e =
    let parts = by_parts (frame_in p) s.run (s.goroutines n) e in
    record { runs = parts.0; ready_in = record { goroutine = parts.1; there = parts.2; is_ready = parts.3 } }

pub is_up : (s : Contents) (n : List ℕ) → IsAlone s n → IsUp s n
is_up s n a = record { runs = a.runs; goroutine = a.ready_in.goroutine; there = a.ready_in.there; is_ready = a.ready_in.is_ready }

-- a name that stands in a list is among its names
or_true : (b : Bool) → (b || true) ≡ true
or_true true = refl
or_true false = refl

pub stands_among : (xs : List (List ℕ)) (k : ℕ) (n : List ℕ) → Some n ≡ slice_get xs k → is_among n xs ≡ true
stands_among [] k n e = cc
stands_among (x ∷ xs) zero n e =
    let same : n ≡ x = cc in ap (λ m. same_go n m || is_among n xs) (sym same) ∙ ap (λ b. b || is_among n xs) (go_self n)
stands_among (x ∷ xs) (suc k) n e = ap (λ b. same_go n x || b) (stands_among xs k n e) ∙ or_true (same_go n x)

-- the first goroutine whose next step is local, and that there is none
none_among : (xs : List (List ℕ)) (n : List ℕ) → None ≡ slice_get xs (0 % length xs) → is_among n xs ≡ false
none_among [] n e = refl
none_among (x ∷ xs) n e = absurd (not_got (x ∷ xs) (0 % length (x ∷ xs)) (mod-lt 0 (omega arith)) e)

pub first_goes : (s : State) (n : List ℕ) → IsLentAt s 0 (Some n) → goes_alone s n ≡ true
first_goes s n l = sym (l.alone.each n) ∙ stands_among l.names (0 % length l.names) n l.at

pub none_goes : (s : State) (n : List ℕ) → IsLentAt s 0 None → goes_alone s n ≡ true → ⊥
none_goes s n l h = true≢false (sym h ∙ sym (l.alone.each n) ∙ none_among l.names n l.at)

-- the names of a machine's pool whose next step is local
module _ (p : Program) (w : Timeline p) (m : Machine) (s : Stands p w m) where
  abbrev pub names : List (List ℕ)
  names = filter (goes_alone (state_at (store_of m))) m.course.pool.ready

  state_is : state_at (store_of m) ≡ w.past.state
  state_is = ap (λ q. state_in q (contents_at (store_of m))) s.holds.program ∙ sym s.holds.state

  each : (n : List ℕ) → is_among n names ≡ goes_alone (state_at (store_of m)) n
  each n = among_filtered (goes_alone (state_at (store_of m))) n m.course.pool.ready ∙ by (goes_alone (state_at (store_of m)) n) refl
    where
      by : (b : Bool) → goes_alone (state_at (store_of m)) n ≡ b → (is_among n m.course.pool.ready && b) ≡ b
      by true e =
          let up = alone_is_up (program_at (store_of m)) (contents_at (store_of m)) n e in
          ap (λ t. t && true) ((s.holds.pool.each n).has up.ready_in)
      by false e = and_false (is_among n m.course.pool.ready)

  as_rules : (n : List ℕ) → is_among n names ≡ goes_alone w.past.state n
  as_rules n = each n ∙ ap (λ t. goes_alone t n) state_is

  go_alone : IsInOrder m.course.pool.ready → GoAlone w.past.state names
  go_alone ordered = record {
    ordered = filtered_pairs (λ a b. go_cmp a b ≡ Less) (goes_alone (state_at (store_of m))) m.course.pool.ready ordered;
    each = as_rules;
  }

  pub lent_at : (place : ℕ) (o : Option (List ℕ)) → IsInOrder m.course.pool.ready → o ≡ slice_get names (place % length names)
      → IsLentAt w.past.state place o
  lent_at place o ordered is = record { names = names; alone = go_alone ordered; at = is }

  -- a place within them
  pub lent_within : (place : ℕ) (n : List ℕ) → IsInOrder m.course.pool.ready → Some n ≡ slice_get names place → IsLentAt w.past.state place (Some n)
  lent_within place n ordered is =
      let none : place ≡ 0 * length names + place = omega arith in
      let short : place % length names ≡ place = ap (λ k. k % length names) none ∙ mod-mul-add 0 (length names) place (within names place n is) in
      lent_at place (Some n) ordered (is ∙ ap (slice_get names) (sym short))
    where
      within : (xs : List (List ℕ)) (i : ℕ) (x : List ℕ) → Some x ≡ slice_get xs i → i < length xs
      within [] i x e = cc
      within (y ∷ xs) zero x e = omega arith
      within (y ∷ xs) (suc i) x e = let rest = within xs i x e in omega (arith, rest)

  -- the first of them
  pub lent_first : (o : Option (List ℕ)) → IsInOrder m.course.pool.ready → o ≡ slice_get names 0 → IsLentAt w.past.state 0 o
  lent_first o ordered is = lent_at 0 o ordered (is ∙ sym (ap (slice_get names) (zero_mod (length names))))
    where
      zero_mod : (k : ℕ) → 0 % k ≡ 0
      zero_mod k = let whole : (0 / k) * k + 0 % k ≡ 0 = div-add-mod' 0 k in omega (arith, whole)

  pub some_alone : (n : List ℕ) → Some n ≡ slice_get names 0 → SomeGoesAlone w.past.state
  some_alone n e = (n, sym (as_rules n) ∙ stands_among names 0 n e)

  pub none_alone : None ≡ slice_get names 0 → ¬ SomeGoesAlone w.past.state
  none_alone none some = by names none (as_rules some.0 ∙ some.1)
    where
      by : (xs : List (List ℕ)) → None ≡ slice_get xs 0 → is_among some.0 xs ≡ true → ⊥
      by [] e among = cc
      by (x ∷ xs) e among = cc

-- the goroutine at the place is up
pub lent_is_up : (p : Program) (w : Timeline p) (m : Machine) → Stands p w m → (place : ℕ) (n : List ℕ) → IsLentAt w.past.state place (Some n)
    → IsUp (contents_at (store_of m)) n
lent_is_up p w m s place n at =
    is_up (contents_at (store_of m)) n (alone_is_up p (contents_at (store_of m)) n
    (ap (λ t. goes_alone t n) (sym s.holds.state) ∙ sym (at.alone.each n) ∙ stands_among at.names (place % length at.names) n at.at))

-- what is lent is the goroutine at the place
abbrev name_in : Option LentCopy → Option (List ℕ)
name_in o = option_map (λ l. (loan_of l).name) o

pub lends : (p : Program) (w : Timeline p) (m : Machine) → Stands p w m → (place : ℕ) (go : List ℕ) (r : Result (Option LentCopy) NoMemory)
    → IsLentAt w.past.state place (Some go) → IfOk r (λ o. IfSome o (λ l. IsLease l × IsLoanOf (store_of m) go l))
    → IfOk r (λ o. IfNone o (¬ IsUp (contents_at (store_of m)) go)) → IfOk r (λ o. IsLentAt w.past.state place (name_in o))
lends p w m s place go (Err e) at some none = tt
lends p w m s place go (Ok None) at some none = absurd (none (lent_is_up p w m s place go at))
lends p w m s place go (Ok (Some l)) at some none = subst {_, _} (λ n. IsLentAt w.past.state place (Some n)) (sym some.1.name) at

pub is_lease : (s : Store) (go : List ℕ) (r : Result (Option LentCopy) NoMemory) → IfOk r (λ o. IfSome o (λ l. IsLease l × IsLoanOf s go l))
    → IfOk r (λ o. IfSome o (λ l. IsLease l × IsAsLent l s))
is_lease s go (Err e) some = tt
is_lease s go (Ok None) some = tt
is_lease s go (Ok (Some l)) some = (some.0, some.1.as_lent)

pub is_fresh : (s : Store) (go : List ℕ) (r : Result (Option LentCopy) NoMemory) → IfOk r (λ o. IfSome o (λ l. IsLease l × IsLoanOf s go l))
    → IfOk r (λ o. IfSome o (λ l. (loan_of l).steps ≡ 0))
is_fresh s go (Err e) some = tt
is_fresh s go (Ok None) some = tt
is_fresh s go (Ok (Some l)) some = some.1.steps

-- the goroutine of a lease has a step of its own, and its count is small
module _ (p : Program) (w : Timeline p) (m : Machine) (s : Stands p w m) (place : ℕ) (go : List ℕ) (at : IsLentAt w.past.state place (Some go)) where
  lent_goes : goes_alone (state_at (store_of m)) go ≡ true
  lent_goes = ap (λ t. goes_alone t go) (state_is p w m s) ∙ sym (at.alone.each go) ∙ stands_among at.names (place % length at.names) go at.at

  can_lead : (l : LentCopy) → IsLoanOf (store_of m) go l → CanLeadOn l
  can_lead l is = record {
    own = is.alone ∙ lent_goes;
    counts = subst {_, _} CanCountOn (sym is.reached)
        ((can_count p w.past m.course s.holds).steps (loan_of l).name (loan_of l).goroutine is.as_lent.there);
  }

  pub leads : (r : Result (Option LentCopy) NoMemory) → IfOk r (λ o. IfSome o (λ l. IsLease l × IsLoanOf (store_of m) go l))
      → IfOk r (λ o. IfSome o CanLeadOn)
  leads (Err e) some = tt
  leads (Ok None) some = tt
  leads (Ok (Some l)) some = can_lead l some.1

-- one place of the ready ones more
module _ (q : List ℕ → Bool) (xs : List (List ℕ)) (i count : ℕ) (lt : i < length xs) where
  pub count_stays : q (get_or xs i []) ≡ false → count + length (filter q (drop i xs)) ≡ length (filter q xs)
      → count + length (filter q (drop (i + 1) xs)) ≡ length (filter q xs)
  count_stays fails so_far = ap (λ ys. count + length ys) (sym (filtered_from q xs i [] false lt (sym fails))) ∙ so_far

  pub count_rises : q (get_or xs i []) ≡ true → count + length (filter q (drop i xs)) ≡ length (filter q xs)
      → (count + 1) + length (filter q (drop (i + 1) xs)) ≡ length (filter q xs)
  count_rises holds so_far =
      let next : count + length (filter q (drop i xs)) ≡ count + suc (length (filter q (drop (i + 1) xs))) =
      ap (λ ys. count + length ys) (filtered_from q xs i [] true lt (sym holds)) in
      omega (arith, next, so_far)

  pub left_stays : (number left : ℕ) → q (get_or xs i []) ≡ false → slice_get (filter q (drop i xs)) left ≡ slice_get (filter q xs) number
      → slice_get (filter q (drop (i + 1) xs)) left ≡ slice_get (filter q xs) number
  left_stays number left fails so_far = ap (λ ys. slice_get ys left) (sym (filtered_from q xs i [] false lt (sym fails))) ∙ so_far

  pub left_falls : (number left : ℕ) → q (get_or xs i []) ≡ true → ¬ (left ≡ 0) → slice_get (filter q (drop i xs)) left ≡ slice_get (filter q xs) number
      → slice_get (filter q (drop (i + 1) xs)) (left - 1) ≡ slice_get (filter q xs) number
  left_falls number zero holds not so_far = absurd (not refl)
  left_falls number (suc k) holds not so_far =
      let less : suc k - 1 ≡ k = omega arith in
      ap (slice_get (filter q (drop (i + 1) xs))) less ∙ ap (λ ys. slice_get ys (suc k)) (sym (filtered_from q xs i [] true lt (sym holds))) ∙ so_far

  pub found_here : (number left : ℕ) → q (get_or xs i []) ≡ true → left ≡ 0 → slice_get (filter q (drop i xs)) left ≡ slice_get (filter q xs) number
      → slice_get xs i ≡ slice_get (filter q xs) number
  found_here number left holds none so_far =
      got_here xs i [] lt ∙ ap (λ ys. slice_get ys 0) (sym (filtered_from q xs i [] true lt (sym holds)))
      ∙ ap (slice_get (filter q (drop i xs))) (sym none) ∙ so_far

pub all_counted : (q : List ℕ → Bool) (xs : List (List ℕ)) (i count : ℕ) → length xs ≤ i → count + length (filter q (drop i xs)) ≡ length (filter q xs)
    → count ≡ length (filter q xs)
all_counted q xs i count le so_far =
    let end : length (filter q (drop i xs)) ≡ 0 = ap length (filtered_past q xs i le) in omega (arith, end, so_far)

pub none_found : (q : List ℕ → Bool) (xs : List (List ℕ)) (i number left : ℕ) → length xs ≤ i
    → slice_get (filter q (drop i xs)) left ≡ slice_get (filter q xs) number → None ≡ slice_get (filter q xs) number
none_found q xs i number left le so_far = ap (λ ys. slice_get ys left) (sym (filtered_past q xs i le)) ∙ so_far
