-- A step taken back with its consequences: the marks that tell them, and what is left.
use Rattle.std.proofs.Common.{◌≡◌, ℕ, zero, suc, ◌+◌, ◌≤◌, ◌<◌, Bool, true, false, List, [], ◌∷◌, ◌++◌, length, map, drop, reverse, inl, inr, refl, sym, ap, subst, ◌∙◌, arith, length-append, append-nil, cond}
use Rattle.std.specs.Prelude.{slice_get, Some, replicate, ◌-◌}
use Rattle.gr_base.specs.declared.names.StepId.{StepId}
use Rattle.gr_causal.specs.Dependence.{dependents, kept, collect, hits, AreTheOthers}
use Rattle.gr_causal.specs.Machine.{IsLog}
use Rattle.gr_causal.specs.Sequences.{In, Distinct}
use Rattle.gr_causal.proofs.ListLemmas.{some_is, none_not, In-append_right}
use Rattle.gr_program.specs.Programs.{Program}
use Rattle.gr_rules.specs.Steps.{machine}
use Rattle.gr_laws.specs.Dependence.{clash}
use Rattle.gr_laws.specs.Reached.{Logged, IsRun}
use Rattle.gr_refine.specs.Contents.{Contents}
use Rattle.gr_step.specs.Record.{Record}
use Rattle.gr_step.specs.Conflicts.{touched_by, conflict_of}
use Rattle.gr_step.specs.Kept.{Kept}
use Rattle.gr_step.specs.Listings.{state_in}
use Rattle.gr_step.specs.Running.{Running}
use Rattle.gr_step.specs.declared.store.Store.{Store}
use Rattle.gr_step.specs.Stores.{contents_at, SameListing}
use Rattle.gr_step.specs.Back.{all_back, marked, unmarked}
use Rattle.gr_step.proofs.ChainLemmas.{Chain, chain_of}
use Rattle.gr_step.proofs.FreeLemmas.{others_of_marked, others_stay}
use Rattle.gr_step.proofs.KeptLemmas.{kept_is_log, kept_is_run, runs_on}
use Rattle.gr_step.proofs.RecordLemmas.{no_object_twice}
use Rattle.gr_step.proofs.RollbackLemmas.{each_goes_back, may_stop, all_go_back}
use Rattle.gr_depend.specs.Logs.{records_of}
use Rattle.gr_depend.specs.Named as records
use Rattle.gr_rollback.specs.declared.TheConstants.{LOG_LIMIT}
use Rattle.gr_rollback.specs.declared.back.Rollback.{Rollback}
use Rattle.gr_rollback.specs.declared.course.Course.{Course}
use Rattle.gr_rollback.specs.declared.machine.Machine.{Machine}
use Rattle.gr_rollback.specs.Backs.{IsNamed, again_after, TakesBack, TakesSomeBack}
use Rattle.gr_rollback.specs.Courses.{Holds}
use Rattle.gr_rollback.specs.Machines.{steps_of, again_of, CanGo, Stands}
use Rattle.gr_rollback.specs.Pasts.{Past, Timeline, id_of, ids_of, events_in}
use Rattle.gr_rollback.specs.Readiness.{HasReady}
use Rattle.gr_rollback.specs.Walks.{RollsBack, IsOnTheWay}
use Rattle.gr_rollback.proofs.OrderByNamesLemmas.{names_alike}
use Rattle.gr_rollback.proofs.CourseLemmas.{same_program, runs_at}
use Rattle.gr_rollback.proofs.DependenceLemmas.{dependents_alike}
use Rattle.gr_rollback.proofs.KeptLemmas.{begins_running, id_alike, ids_alike, events_alike, kept_length}
use Rattle.gr_rollback.proofs.MarkLemmas.{In-unmarked, marked_parts, none_marked, all_unmarked, all_counted}
use Rattle.gr_rollback.proofs.OrderLemmas.{IsOf, id_is, conflict_is, kept_both}
use Rattle.gr_rollback.proofs.StepLemmas.{running_of}

-- the record at a place, and the step
step_at : (p : Program) (s t : Contents) (rs : List Record) (ls : List (Logged p)) (i : ℕ) (r : Record) → Chain p s rs ls t → slice_get rs i ≡ Some r
    → (l : Logged p) × (slice_get ls i ≡ Some l) × (r.id ≡ id_of p l)
step_at p s t (q ∷ rs) (l ∷ ls) zero r chain there =
    (l, refl, subst (λ x. x.id ≡ id_of p l) (some_is q r there) (id_alike p s chain.0 q l chain.1))
step_at p s t (q ∷ rs) (l ∷ ls) (suc i) r chain there = step_at p chain.0 t rs ls i r chain.2 there
step_at p s t [] [] i r chain there = absurd (none_not r there)
step_at p s t [] (l ∷ ls) i r chain there = absurd chain
step_at p s t (q ∷ rs) [] i r chain there = absurd chain

record_at : (p : Program) (s t : Contents) (rs : List Record) (ls : List (Logged p)) (i : ℕ) (l : Logged p) → Chain p s rs ls t → slice_get ls i ≡ Some l
    → (r : Record) × (slice_get rs i ≡ Some r) × (r.id ≡ id_of p l)
record_at p s t (q ∷ rs) (k ∷ ls) zero l chain there =
    (q, refl, subst (λ x. q.id ≡ id_of p x) (some_is k l there) (id_alike p s chain.0 q k chain.1))
record_at p s t (q ∷ rs) (k ∷ ls) (suc i) l chain there = record_at p chain.0 t rs ls i l chain.2 there
record_at p s t [] [] i l chain there = absurd (none_not l there)
record_at p s t [] (k ∷ ls) i l chain there = absurd chain
record_at p s t (q ∷ rs) [] i l chain there = absurd chain

-- no record touched an object twice
each_once : (p : Program) (s t : Contents) (rs : List Record) (ls : List (Logged p)) → Chain p s rs ls t → (r : Record) → In r rs → Distinct (touched_by r)
each_once p s t (q ∷ rs) (l ∷ ls) chain r (inl e) = subst (λ x. Distinct (touched_by x)) (sym e) (no_object_twice p s q l chain.0 chain.1)
each_once p s t (q ∷ rs) (l ∷ ls) chain r (inr i) = each_once p chain.0 t rs ls chain.2 r i
each_once p s t [] [] chain r i = absurd i
each_once p s t [] (l ∷ ls) chain r i = absurd chain
each_once p s t (q ∷ rs) [] chain r i = absurd chain

-- two parts of the records, of which the second has marks to its end
front_drop : {A : Type 0} (at : ℕ) (front tail : List A) → at ≤ length front → drop at (front ++ tail) ≡ drop at front ++ tail
front_drop zero front tail h = refl
front_drop (suc at) (x ∷ front) tail h = front_drop at front tail (omega (arith, h))
front_drop (suc at) [] tail h = absurd (omega (arith, h))

drop_long : {A : Type 0} (at : ℕ) (xs : List A) (n : ℕ) → n + at ≡ length xs → n ≡ length (drop at xs)
drop_long zero xs n e = let f : n ≡ length xs = omega (arith, e) in f
drop_long (suc at) (x ∷ xs) n e = drop_long at xs n (omega (arith, e))
drop_long (suc at) [] n e = absurd (omega (arith, e))

no_less : (n at m : ℕ) → n + at ≡ m → at ≤ m
no_less n at m e = omega (arith, e)

module _ (at : ℕ) (marks : List Bool) (rs : List Record) (count : length marks + at ≡ length rs) (members : marked marks (drop at rs) ≡ dependents conflict_of rs at) where
  -- the marks tell the consequences
  consequences : dependents conflict_of rs at ≡ marked marks (drop at rs)
  consequences = sym members

  -- the consequences behind a place are the last of them
  pub last_of_them : (front tail : List Record) (before after : List Bool) → rs ≡ front ++ tail → marks ≡ before ++ after → length before + at ≡ length front
      → dependents conflict_of rs at ≡ marked before (drop at front) ++ marked after tail
  last_of_them front tail before after parts split place =
      consequences ∙ ap (λ ms. marked ms (drop at rs)) split ∙ ap (λ xs. marked (before ++ after) (drop at xs)) parts
      ∙ ap (marked (before ++ after)) (front_drop at front tail (no_less (length before) at (length front) place))
      ∙ marked_parts before after (drop at front) tail (drop_long at front (length before) place)

module _ (p : Program) (w : Past p) (c : Course) (s : Holds p w c) (at : ℕ) (marks : List Bool)
    (count : length marks + at ≡ length (records_of c.log)) (members : marked marks (drop at (records_of c.log)) ≡ dependents conflict_of (records_of c.log) at) where
  runs_from : Running p s.begins
  runs_from = begins_running p s.begins (running_of p w c s).program s.begun

  chain : Chain p s.begins (records_of c.log) w.log (contents_at c.store)
  chain = chain_of p s.begins (records_of c.log) w.log (contents_at c.store) s.kept

  -- a rollback by these marks can go on to its end
  pub rolls : RollsBack at marks c
  rolls = record {
    count = count;
    each = λ front tail r before after parts split place.
        each_goes_back p s.begins (contents_at c.store) (records_of c.log) (marked before (drop at front)) (marked after tail) r w.log at runs_from s.kept
        (last_of_them at marks (records_of c.log) count members front (r ∷ tail) before (true ∷ after) parts split place);
    once = each_once p s.begins (contents_at c.store) (records_of c.log) w.log chain;
    pool = s.pool;
  }

-- a step is among its consequences
first_collected : {A : Type 0} (c : A → A → Bool) (x : A) (ds rs : List A) → (ys : List A) × (collect c (x ∷ ds) rs ≡ x ∷ ys)
first_collected c x ds [] = (ds, refl)
first_collected {A = A} c x ds (r ∷ rs) = by_test (hits c (x ∷ ds) r) (first_collected c x (ds ++ r ∷ []) rs) (first_collected c x ds rs)
  where
    by_test : (b : Bool) → (ys : List A) × (collect c (x ∷ ds ++ r ∷ []) rs ≡ x ∷ ys) → (ys : List A) × (collect c (x ∷ ds) rs ≡ x ∷ ys)
        → (ys : List A) × (cond b (collect c (x ∷ ds ++ r ∷ []) rs) (collect c (x ∷ ds) rs) ≡ x ∷ ys)
    by_test true one two = one
    by_test false one two = two

some_consequence : {A : Type 0} (c : A → A → Bool) (L : List A) (i : ℕ) (x : A) → slice_get L i ≡ Some x → (y : A) × (ys : List A) × (dependents c L i ≡ y ∷ ys)
some_consequence c (r ∷ L) zero x there = let first = first_collected c r [] L in (r, first.0, first.1)
some_consequence c (r ∷ L) (suc i) x there = some_consequence c L i x there
some_consequence c [] i x there = absurd (none_not x there)

none_before : {A : Type 0} (before : List Bool) (xs : List A) → length before ≡ 0 → marked before xs ≡ []
none_before [] [] e = refl
none_before [] (x ∷ xs) e = refl
none_before (m ∷ before) xs e = absurd (let f : suc (length before) ≡ 0 = e in cc)

as_many : {A B : Type 0} (f : A → B) (xs : List A) → length (map f xs) ≡ length xs
as_many f [] = refl
as_many f (x ∷ xs) = ap suc (as_many f xs)

no_marks : (n at m : ℕ) → n + at ≡ m → m ≡ at → n ≡ 0
no_marks n at m a b = omega (arith, a, b)

same_long : (n s g : ℕ) → n ≡ s + g → g ≡ 0 → n ≡ s
same_long n s g a b = omega (arith, a, b)

-- where the first of the marks is set, the first item is marked
first_marked : {A : Type 0} (before after : List Bool) (xs : List A) → slice_get (before ++ after) 0 ≡ Some true → length before ≡ length xs → 0 < length xs
    → 0 < length (marked before xs)
first_marked before after [] first long some = absurd (omega (arith, some))
first_marked [] after (x ∷ xs) first long some = absurd (let no : 0 ≡ suc (length xs) = long in cc)
first_marked (true ∷ before) after (x ∷ xs) first long some = let e : 0 < suc (length (marked before xs)) = omega arith in e
first_marked (false ∷ before) after (x ∷ xs) first long some = absurd (let no : false ≡ true = some_is false true first in cc)

some_marks : (n at m k : ℕ) → n + at ≡ m → at < m → n ≡ k → 0 < k
some_marks n at m k a b c = omega (arith, a, b, c)

-- where some have not gone back, fewer have gone than there are
some_stay : (all marks gone left later : ℕ) → all ≡ marks + gone → all ≡ left + later → gone ≡ later → 0 < marks → left ≡ 0 → ⊥
some_stay all marks gone left later a b c d e = omega (arith, a, b, c, d, e)

first_part : (a b limit : ℕ) → a + b ≤ limit → a ≤ limit
first_part a b limit h = omega (arith, h)

module _ (p : Program) (w : Timeline p) (old : Machine) (s : Stands p w old) (at : ℕ) (marks : List Bool)
    (count : length marks + at ≡ length (steps_of old)) (members : marked marks (drop at (steps_of old)) ≡ dependents conflict_of (steps_of old) at)
    (mid : Course) (r : Rollback) (way : IsOnTheWay old.course at marks mid r) (listing : SameListing old.course.store mid.store)
    (new : Machine) (records : steps_of new ≡ records_of mid.log ++ reverse r.stay.items) (store : new.course.store ≡ mid.store)
    (pool : new.course.pool ≡ mid.pool) (first : new.course.first ≡ mid.first) (again : again_of new ≡ again_after (reverse r.gone.items) (again_of old)) where
  abbrev before : Contents
  before = contents_at old.course.store

  abbrev begins : Contents
  begins = s.holds.begins

  running : Running p begins
  running = begins_running p begins (running_of p w.past old.course s.holds).program s.holds.begun

  -- what is back, what stays, and where that leads
  abbrev gone : List Record
  gone = marked way.after way.tail

  abbrev stay : List Record
  stay = records_of mid.log ++ unmarked way.after way.tail

  abbrev after : Contents
  after = all_back gone before

  stay_are : steps_of new ≡ stay
  stay_are = records ∙ ap (λ xs. records_of mid.log ++ xs) way.aside

  contents_are : contents_at new.course.store ≡ after
  contents_are = ap contents_at store ∙ way.contents

  abbrev whole : List Bool
  whole = replicate (length (records_of mid.log)) false ++ way.after

  gone_are : marked whole (steps_of old) ≡ gone
  gone_are = ap (marked whole) way.records_are ∙ none_marked (records_of mid.log) way.tail way.after

  stay_marked : unmarked whole (steps_of old) ≡ stay
  stay_marked = ap (unmarked whole) way.records_are ∙ all_unmarked (records_of mid.log) way.tail way.after

  last : dependents conflict_of (steps_of old) at ≡ marked way.before (drop at (records_of mid.log)) ++ gone
  last = last_of_them at marks (steps_of old) count members (records_of mid.log) way.tail way.before way.after way.records_are way.marks_are way.place

  all_long : length (steps_of old) ≡ length stay + length gone
  all_long =
      let parts = ap length way.records_are ∙ length-append (records_of mid.log) way.tail in
      let stays = length-append (records_of mid.log) (unmarked way.after way.tail) in
      let counted = all_counted way.after way.tail in
      omega (arith, parts, stays, counted)

  in_all : length stay + length gone ≤ LOG_LIMIT
  in_all = subst (λ n. n ≤ LOG_LIMIT) all_long s.holds.short

  module _ (log later : List (Logged p)) (stays : Kept p begins stay log after) (goes : Kept p after gone later before) where
    kept_here : Kept p begins (steps_of new) log (contents_at new.course.store)
    kept_here = subst (λ rs. Kept p begins rs log (contents_at new.course.store)) (sym stay_are) (subst (Kept p begins stay log) (sym contents_are) stays)

    abbrev pub past : Past p
    past = record { log = log; state = state_in p (contents_at new.course.store) }

    pub run_after : IsRun p log (state_in p (contents_at new.course.store))
    run_after = kept_is_run p begins (contents_at new.course.store) (steps_of new) log s.holds.begun.state kept_here

    same_listing : SameListing old.course.store new.course.store
    same_listing = ap (λ (x : Store). x.listing) store ∙ listing

    holds_after : Holds p past new.course
    holds_after = record {
      program = same_program old.course.store new.course.store same_listing ∙ s.holds.program;
      run = runs_at old.course.store new.course.store same_listing s.holds.run
          (subst (λ q. Running q (contents_at new.course.store)) (sym s.holds.program)
          (runs_on p begins (contents_at new.course.store) (steps_of new) log running kept_here));
      begins = begins;
      begun = s.holds.begun;
      kept = kept_here;
      state = refl;
      pool = subst (λ x. HasReady new.course.pool (contents_at x)) (sym store) (subst (λ x. HasReady x (contents_at mid.store)) (sym pool) way.pool);
      short = subst (λ n. n ≤ LOG_LIMIT) (sym (ap length stay_are)) (first_part (length stay) (length gone) LOG_LIMIT in_all);
      first = first ∙ way.first ∙ s.holds.first;
    }

    events_are : reverse r.gone.items ≡ events_in p later
    events_are = way.events ∙ events_alike p after gone later before goes

    pub names_are : reverse r.ids.items ≡ ids_of p later
    names_are = way.names ∙ ids_alike p after gone later before goes

    as_long : length gone ≡ length later
    as_long = kept_length p after gone later before goes

    -- the events go again from there
    goes_again : (ls : List (Logged p)) → later ≡ ls → CanGo p past.state (again_after (events_in p ls) w.again)
    goes_again [] none =
        let no_gone : gone ≡ [] = none_long gone (as_long ∙ ap length none) in
        subst (λ x. CanGo p x w.again) (s.holds.state ∙ ap (λ g. state_in p (all_back g before)) (sym no_gone) ∙ ap (state_in p) (sym contents_are)) s.can_go
      where
        none_long : (xs : List Record) → length xs ≡ 0 → xs ≡ []
        none_long [] e = refl
        none_long (x ∷ xs) e = absurd (let f : suc (length xs) ≡ 0 = e in cc)
    goes_again (l ∷ ls) some = record {
      steps = later;
      state = state_in p before;
      leads = subst (λ x. IsLog (machine p) (state_in p x) later (state_in p before)) (sym contents_are) (kept_is_log p after gone later before goes);
      events_are = ap (events_in p) some;
    }

    still_short : (ls : List (Logged p)) → later ≡ ls → length (steps_of new) + length (again_after (events_in p ls) w.again) ≤ LOG_LIMIT
    still_short [] none =
        let same : length gone ≡ 0 = as_long ∙ ap length none in
        subst (λ n. n + length w.again ≤ LOG_LIMIT) (same_long (length (steps_of old)) (length stay) (length gone) all_long same ∙ sym (ap length stay_are)) s.short
    still_short (l ∷ ls) some =
        let e : length (events_in p (l ∷ ls)) ≡ length gone = as_many (λ (k : Logged p). k.event) (l ∷ ls) ∙ sym (ap length some) ∙ sym as_long in
        subst (λ n. n ≤ LOG_LIMIT) (ap (λ n. length stay + n) (sym e) ∙ ap (λ n. n + length (events_in p (l ∷ ls))) (sym (ap length stay_are))) in_all

    pub stands_after : Stands p (record { past = past; again = again_after (events_in p later) w.again }) new
    stands_after = record {
      holds = holds_after;
      again = again ∙ ap (λ es. again_after es (again_of old)) events_are ∙ ap (again_after (events_in p later)) s.again;
      can_go = goes_again later refl;
      short = still_short later refl;
    }

  abbrev log : List (Logged p)
  log = w.past.log

  -- where the log came down to the place, the step is back with all its consequences
  pub takes_all : (id : StepId) → IsNamed p log id at → length (records_of mid.log) ≡ at → (ids : List StepId) → ids ≡ reverse r.ids.items → TakesBack p w id ids new
  takes_all id named down ids are =
      let both = all_go_back p begins before (steps_of old) log at running s.holds.kept in
      let none : marked way.before (drop at (records_of mid.log)) ≡ [] =
      none_before way.before (drop at (records_of mid.log)) (no_marks (length way.before) at (length (records_of mid.log)) way.place down) in
      let all : dependents conflict_of (steps_of old) at ≡ gone = last ∙ ap (λ rs. rs ++ gone) none in
      let others : kept conflict_of (steps_of old) at ≡ stay =
      others_stay p begins before (steps_of old) log whole at running s.holds.kept (all ∙ sym gone_are) ∙ stay_marked in
      let later = dependents (clash p) log at in
      let stays = subst (λ rs. Kept p begins rs (kept (clash p) log at) after) others
      (subst (λ rs. Kept p begins (kept conflict_of (steps_of old) at) (kept (clash p) log at) (all_back rs before)) all both.0) in
      let goes = subst (λ rs. Kept p (all_back rs before) rs later before) all both.1 in
      let first_of = some_consequence (clash p) log at named.step named.there in
      let again_is : again_after (events_in p later) w.again ≡ events_in p later =
      ap (λ ls. again_after (events_in p ls) w.again) first_of.2 ∙ sym (ap (events_in p) first_of.2) in
      record {
        place = at;
        named = named;
        past = past (kept (clash p) log at) later stays goes;
        loses = record { log = refl; run = run_after (kept (clash p) log at) later stays goes };
        names = are ∙ names_are (kept (clash p) log at) later stays goes;
        stands = subst (λ es. Stands p (record { past = past (kept (clash p) log at) later stays goes; again = es }) new) again_is
            (stands_after (kept (clash p) log at) later stays goes);
      }

  -- as many records as steps depend on it
  same_many : length (dependents conflict_of (steps_of old) at) ≡ length (dependents (clash p) log at)
  same_many =
      let rs = dependents conflict_of (steps_of old) at in
      let ls = dependents (clash p) log at in
      let alike = dependents_alike (IsOf p) conflict_of (clash p) (λ a b k l. conflict_is p a b k l) (steps_of old) log at
      (kept_both p begins (steps_of old) log before s.holds.kept) in
      sym (as_many (λ (q : Record). q.id) rs) ∙ ap length (names_alike (IsOf p) (λ q. q.id) (id_of p) (λ q l is. sym (id_is p q l is)) rs ls alike)
      ∙ as_many (id_of p) ls

  -- the step itself has not gone back, where the log has not come down to the place
  itself_stays : slice_get marks 0 ≡ Some true → at < length (records_of mid.log) → 0 < length (marked way.before (drop at (records_of mid.log)))
  itself_stays begin more =
      let long = drop_long at (records_of mid.log) (length way.before) way.place in
      first_marked way.before way.after (drop at (records_of mid.log)) (ap (λ ms. slice_get ms 0) (sym way.marks_are) ∙ begin) long
      (some_marks (length way.before) at (length (records_of mid.log)) (length (drop at (records_of mid.log))) way.place more long)

  -- where the log did not come down to the place, the last of the consequences are back
  pub takes_some : (id : StepId) → IsNamed p log id at → slice_get marks 0 ≡ Some true → at < length (records_of mid.log)
      → (ids : List StepId) → ids ≡ reverse r.ids.items → TakesSomeBack p w id ids new
  takes_some id named begin more ids are =
      let others = subst (λ rs. AreTheOthers (steps_of old) gone rs) stay_marked
      (subst (λ rs. AreTheOthers (steps_of old) rs (unmarked whole (steps_of old))) gone_are
      (others_of_marked p begins before (steps_of old) log whole running s.holds.kept)) in
      let there = may_stop p begins before (steps_of old) (marked way.before (drop at (records_of mid.log))) gone stay log at running s.holds.kept last others in
      record {
        place = at;
        named = named;
        gone = there.0;
        world = record { past = past there.1 there.0 there.3 there.4; again = again_after (events_in p there.0) w.again };
        loses = record {
          left = there.5.0;
          some_left = λ none.
              some_stay (length (dependents conflict_of (steps_of old) at)) (length (marked way.before (drop at (records_of mid.log)))) (length gone)
              (length there.5.0) (length there.0)
              (ap length last ∙ length-append (marked way.before (drop at (records_of mid.log))) gone)
              (same_many ∙ ap length there.5.1 ∙ length-append there.5.0 there.0)
              (as_long there.1 there.0 there.3 there.4) (itself_stays begin more) (ap length none);
          last = there.5.1;
          others = there.2;
          run = run_after there.1 there.0 there.3 there.4;
        };
        again = refl;
        names = are ∙ names_are there.1 there.0 there.3 there.4;
        stands = stands_after there.1 there.0 there.3 there.4;
      }

-- the step of a name, by its record and by the rules
pub named_here : (p : Program) (w : Past p) (c : Course) → Holds p w c → (id : StepId) (place : ℕ) → records.IsNamed (records_of c.log) place id
    → IsNamed p w.log id place
named_here p w c s id place named =
    let step = step_at p s.begins (contents_at c.store) (records_of c.log) w.log place named.step
    (chain_of p s.begins (records_of c.log) w.log (contents_at c.store) s.kept) named.there in
    record { step = step.0; there = step.1; named = sym step.2 ∙ named.named }

pub not_named : (p : Program) (w : Past p) (c : Course) → Holds p w c → (id : StepId) (place : ℕ) → (records.IsNamed (records_of c.log) place id → ⊥)
    → IsNamed p w.log id place → ⊥
not_named p w c s id place none named =
    let step = record_at p s.begins (contents_at c.store) (records_of c.log) w.log place named.step
    (chain_of p s.begins (records_of c.log) w.log (contents_at c.store) s.kept) named.there in
    none (record { step = step.0; there = step.1; named = step.2 ∙ named.named })

pub within_list : {A : Type 0} (xs : List A) (i : ℕ) (x : A) → slice_get xs i ≡ Some x → i < length xs
within_list [] i x there = absurd (none_not x there)
within_list (y ∷ xs) zero x there = omega arith
within_list (y ∷ xs) (suc i) x there = let e = within_list xs i x there in omega (arith, e)

-- nothing is taken back
pub takes_none : (p : Program) (w : Timeline p) (m : Machine) → Stands p w m → (id : StepId) (place : ℕ) → records.IsNamed (steps_of m) place id
    → (ids : List StepId) → ids ≡ [] → TakesSomeBack p w id ids m
takes_none p w m s id place named ids none = record {
  place = place;
  named = here;
  gone = [];
  world = w;
  loses = record {
    left = dependents (clash p) w.past.log place;
    some_left = λ e.
        let first = some_consequence (clash p) w.past.log place here.step here.there in
        let no : first.0 ∷ first.1 ≡ [] = sym first.2 ∙ e in
        cc;
    last = sym (append-nil (dependents (clash p) w.past.log place));
    others = record { others = λ r i. (i, λ j. j); each = λ r i. inr i; in_order = λ a b h. h };
    run = subst (IsRun p w.past.log) (sym s.holds.state)
        (kept_is_run p s.holds.begins (contents_at m.course.store) (steps_of m) w.past.log s.holds.begun.state s.holds.kept);
  };
  again = refl;
  names = none;
  stands = s;
}
  where
    here : IsNamed p w.past.log id place
    here = named_here p w.past m.course s.holds id place named

counted : (n at m : ℕ) → n ≡ m - at → at < m → n + at ≡ m
counted n at m e h = omega (arith, e, h)

-- a list of marks that is the one that tells the consequences
pub marks_count : (c : Course) (at : ℕ) (marks items : List Bool) → marks ≡ items → length items ≡ length (records_of c.log) - at → at < length (records_of c.log)
    → length marks + at ≡ length (records_of c.log)
marks_count c at marks items same count within = counted (length marks) at (length (records_of c.log)) (ap length same ∙ count) within

pub marks_tell : (c : Course) (at : ℕ) (marks items : List Bool) → marks ≡ items
    → marked items (drop at (records_of c.log)) ≡ dependents conflict_of (records_of c.log) at
    → marked marks (drop at (records_of c.log)) ≡ dependents conflict_of (records_of c.log) at
marks_tell c at marks items same members = ap (λ ms. marked ms (drop at (records_of c.log))) same ∙ members

-- a record that is laid aside is one of the log
pub aside_is_kept : (c : Course) (at : ℕ) (marks : List Bool) (mid : Course) (r : Rollback) → IsOnTheWay c at marks mid r → (q : Record) → In q (reverse r.stay.items)
    → In q (records_of c.log)
aside_is_kept c at marks mid r way q i =
    subst (In q) (sym way.records_are)
    (In-append_right q (records_of mid.log) way.tail (In-unmarked way.after way.tail q (subst (In q) way.aside i)))

-- where no step is named, none is back
all_there : (rs : List Record) (s : Contents) → map (λ (q : Record). q.id) rs ≡ [] → all_back rs s ≡ s
all_there [] s none = refl
all_there (r ∷ rs) s none = absurd (let no : r.id ∷ map (λ (q : Record). q.id) rs ≡ [] = none in cc)

pub none_is_back : (c : Course) (at : ℕ) (marks : List Bool) (mid : Course) (r : Rollback) → IsOnTheWay c at marks mid r
    → (ids : List StepId) → ids ≡ reverse r.ids.items → ids ≡ [] → contents_at mid.store ≡ contents_at c.store
none_is_back c at marks mid r way ids told none =
    way.contents ∙ all_there (marked way.after way.tail) (contents_at c.store) (sym way.names ∙ sym told ∙ none)
