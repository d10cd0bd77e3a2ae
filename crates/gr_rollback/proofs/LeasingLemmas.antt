-- Steps of a lease are kept, and leave the same goroutines ready.
use Rattle.std.proofs.Common.{◌≡◌, ◌+◌, ◌≤◌, ℕ, zero, suc, arith, true, false, if◌then◌else◌, List, [], ◌∷◌, ◌++◌, length, map, replicate, All, Some, refl, sym, ap, subst, ◌∙◌, append_assoc, append-nil, inl, inr}
use Rattle.std.proofs.lemmas.Bool.{cases_Bool}
use Rattle.std.proofs.lemmas.List.{map-append, length-append}
use Rattle.std.proofs.lemmas.List.Elements.{All-nil, All-push}
use Rattle.gr_base.specs.declared.events.Choice.TheVariants.{Plain}
use Rattle.gr_base.specs.declared.events.Event.{Event}
use Rattle.gr_base.specs.declared.names.StepId.{StepId}
use Rattle.gr_causal.specs.Machine.{IsLog}
use Rattle.gr_causal.proofs.PathLemmas.{log_push}
use Rattle.gr_pool.specs.Goroutines as pools
use Rattle.gr_pool.specs.Goroutines.{is_among}
use Rattle.gr_program.specs.Programs.{Program}
use Rattle.gr_rules.specs.Limits.{most_steps}
use Rattle.gr_rules.specs.Goroutines.{ready}
use Rattle.gr_rules.specs.States.{same_go}
use Rattle.gr_rules.specs.Steps.{machine}
use Rattle.gr_laws.specs.Reached.{Logged}
use Rattle.gr_code.specs.Goroutines.{CodeGoroutine}
use Rattle.gr_refine.specs.Contents.{Contents, with_goroutine}
use Rattle.gr_refine.proofs.NameLemmas.{go_is}
use Rattle.gr_step.specs.Lowered.{lowered}
use Rattle.gr_step.specs.declared.leasing.LentCopy.{LentCopy}
use Rattle.gr_step.specs.Record.{Record}
use Rattle.gr_step.specs.declared.store.Store.{Store}
use Rattle.gr_step.specs.Kept.{Kept, one_more}
use Rattle.gr_step.specs.Leasing.{AreRecords, no_record, one_more_record, Walk, IsLease, IsAsLent, loan_of, name_lent, goroutine_lent, goroutine_led_to, records_led}
use Rattle.gr_step.specs.Leasing as leases
use Rattle.gr_step.specs.Listings.{state_in}
use Rattle.gr_step.specs.Running.{Running}
use Rattle.gr_step.specs.Records.{event_of}
use Rattle.gr_step.specs.Stores.{contents_at, SameListing}
use Rattle.gr_step.proofs.LeaseLemmas.{Led, walk_leads, store_has_channels}
use Rattle.gr_depend.specs.Logs.{IsAlone, records_of}
use Rattle.gr_rollback.specs.declared.TheConstants.{LOG_LIMIT}
use Rattle.gr_rollback.specs.declared.course.Course.{Course}
use Rattle.gr_rollback.specs.declared.machine.Machine.{Machine}
use Rattle.gr_rollback.specs.Courses.{Holds}
use Rattle.gr_rollback.specs.Leasing.{own_events, led_on, KeepsAll, TakesAll}
use Rattle.gr_rollback.specs.Machines.{again_of}
use Rattle.gr_rollback.specs.Pasts.{Past, Timeline, events_in}
use Rattle.gr_rollback.specs.Readiness.{HasReady, IsAsIn, IsReadyIn}
use Rattle.gr_rollback.proofs.CourseLemmas.{log_length, logged, runs_at, same_program, stays, tells}
use Rattle.gr_rollback.proofs.MachineLemmas.{stands_alone}
use Rattle.gr_rollback.proofs.StepLemmas.{running_of}

-- the steps behind those that are kept
pub record KeptOn (p : Program) (b : Contents) (before : List Record) (log : List (Logged p)) (s : Contents) (records : List Record) (t : Contents) : Type 0 where
  pub steps : List (Logged p)
  pub kept : Kept p b (before ++ records) (log ++ steps) t
  pub leads : IsLog (machine p) (state_in p s) steps (state_in p t)
  pub events : events_in p steps ≡ map event_of records

pub kept_on : (p : Program) (b : Contents) (before : List Record) (log : List (Logged p)) (s : Contents) (records : List Record) (t : Contents)
    → Kept p b before log s → AreRecords p s records t → KeptOn p b before log s records t
kept_on p b before log s _ _ kept no_record = record {
  steps = [];
  kept = subst {_, _} (λ rs. Kept p b rs (log ++ []) s) (sym (append-nil before)) (subst {_, _} (λ ls. Kept p b before ls s) (sym (append-nil log)) kept);
  leads = refl;
  events = refl;
}
kept_on p b before log s _ _ kept (one_more_record {records} {t} r u are running is) =
    let so = kept_on p b before log s records t kept are in
    let l = logged p t u r is in
    let told = tells p t u r is in
    record {
      steps = so.steps ++ l ∷ [];
      kept = subst {_, _} (λ rs. Kept p b rs (log ++ (so.steps ++ l ∷ [])) u) (append_assoc before records (r ∷ []))
          (subst {_, _} (λ ls. Kept p b ((before ++ records) ++ r ∷ []) ls u) (append_assoc log so.steps (l ∷ []))
          (one_more r l u so.kept told));
      leads = log_push (machine p) (state_in p s) so.steps (state_in p t) l (state_in p u) so.leads told.step;
      events = map-append (λ (k : Logged p). k.event) so.steps (l ∷ []) ∙ ap (λ es. es ++ l.event ∷ []) so.events
          ∙ sym (map-append event_of records (r ∷ []));
    }

-- their events are those of the goroutine
one_more_event : (e : Event) (n : ℕ) → replicate n e ++ e ∷ [] ≡ replicate (suc n) e
one_more_event e zero = refl
one_more_event e (suc n) = ap (λ es. e ∷ es) (one_more_event e n)

one_longer : {A : Type 0} (xs : List A) (x : A) → length (xs ++ x ∷ []) ≡ suc (length xs)
one_longer [] x = refl
one_longer (y ∷ ys) x = ap suc (one_longer ys x)

pub events_of_walk : (p : Program) (go : List ℕ) (from : CodeGoroutine) (records : List Record) (to : CodeGoroutine)
    → Walk (lowered p) go from records to → map event_of records ≡ own_events go (length records)
events_of_walk p go from _ _ leases.no_step = refl
events_of_walk p go from _ _ (leases.one_more {records} {g} r h walk is) =
    let e : Event = record { go = go; choice = Plain } in
    map-append event_of records (r ∷ []) ∙ ap (λ es. es ++ event_of r ∷ []) (events_of_walk p go from records g walk)
    ∙ ap (λ (x : Event). replicate (length records) e ++ x ∷ []) (λ i. record { go = (is.name i).go; choice = is.plain i })
    ∙ one_more_event e (length records) ∙ ap (λ n. replicate n e) (sym (one_longer records r))

-- none of their steps reached further than the goroutine
pub alone_of_walk : (p : Program) (go : List ℕ) (from : CodeGoroutine) (records : List Record) (to : CodeGoroutine)
    → Walk (lowered p) go from records to → All (IsAlone go) records
alone_of_walk p go from _ _ leases.no_step = All-nil (IsAlone go)
alone_of_walk p go from _ _ (leases.one_more {records} {g} r h walk is) =
    All-push (IsAlone go) records r (alone_of_walk p go from records g walk) (record { name = ap (λ (i : StepId). i.go) is.name; alone = is.goes.beyond })

-- a goroutine that stays ready
pub ready_stays : (pool : pools.Goroutines) (s : Contents) (n : List ℕ) (g h : CodeGoroutine) → HasReady pool s → s.goroutines n ≡ Some g
    → g.status ≡ ready → h.status ≡ ready → HasReady pool (with_goroutine s n (Some h))
ready_stays pool s n g h has there was is = record { knows = knows; each = each }
  where
    t : Contents
    t = with_goroutine s n (Some h)

    put_here : (q : List ℕ) → same_go q n ≡ true → t.goroutines q ≡ Some h
    put_here q e = ap (λ b. if b then Some h else s.goroutines q) e

    elsewhere : (q : List ℕ) → same_go q n ≡ false → t.goroutines q ≡ s.goroutines q
    elsewhere q e = ap (λ b. if b then Some h else s.goroutines q) e

    known_here : is_among n pool.known ≡ true
    known_here = has.knows n g there

    knows : (q : List ℕ) (x : CodeGoroutine) → t.goroutines q ≡ Some x → is_among q pool.known ≡ true
    knows q x at = elim (cases_Bool (same_go q n)) [
      | inl e ↦ ap (λ m. is_among m pool.known) (go_is q n e) ∙ known_here
      | inr e ↦ has.knows q x (sym (elsewhere q e) ∙ at)
    ]

    up : (q : List ℕ) → same_go q n ≡ true → IsReadyIn s q
    up q e = record { goroutine = g; there = ap s.goroutines (go_is q n e) ∙ there; is_ready = was }

    each : (q : List ℕ) → IsAsIn pool t q
    each q = elim (cases_Bool (same_go q n)) [
      | inl e ↦ record {
        has = λ ready_here. (has.each q).has (up q e);
        only = λ among. record { goroutine = h; there = put_here q e; is_ready = is };
      }
      | inr e ↦ record {
        has = λ r. (has.each q).has (record { goroutine = r.goroutine; there = sym (elsewhere q e) ∙ r.there; is_ready = r.is_ready });
        only = λ among. let r = (has.each q).only among in
            record { goroutine = r.goroutine; there = elsewhere q e ∙ r.there; is_ready = r.is_ready };
      }
    ]

-- a lease whose goroutine is as it was lent, beside a course
module _ (p : Program) (w : Past p) (old : Course) (l : LentCopy) (s : Holds p w old) (lease : IsLease l) (lent : IsAsLent l old.store) where
  abbrev before : Contents
  before = contents_at old.store

  abbrev after : Contents
  after = led_on l before

  walk : Walk (lowered p) (name_lent l) (goroutine_lent l) (records_led l) (goroutine_led_to l)
  walk = subst {_, _} (λ q. Walk (lowered q) (name_lent l) (goroutine_lent l) (records_led l) (goroutine_led_to l)) (lent.program ∙ s.program) lease.walk

  pub led : Led p before (name_lent l) (records_led l) (goroutine_led_to l)
  led =
      walk_leads p before (running_of p w old s) (store_has_channels old.store) lent.runs (name_lent l) (goroutine_lent l) lent.there lease.was_ready
      (records_led l) (goroutine_led_to l) walk

  pub kept_then : KeptOn p s.begins (records_of old.log) w.log before (records_led l) after
  kept_then = kept_on p s.begins (records_of old.log) w.log before (records_led l) after s.kept led.leads

  pub events_are : events_in p kept_then.steps ≡ own_events (name_lent l) (loan_of l).steps
  events_are =
      kept_then.events ∙ events_of_walk p (name_lent l) (goroutine_lent l) (records_led l) (goroutine_led_to l) walk
      ∙ ap (own_events (name_lent l)) (sym lease.counted)

  pub stays_in_pool : HasReady old.pool after
  stays_in_pool = ready_stays old.pool before (name_lent l) (goroutine_lent l) (goroutine_led_to l) s.pool lent.there lease.was_ready led.is_ready

-- the steps of a lease have joined the log
pub record JoinsAll (old : Course) (l : LentCopy) (new : Course) : Type 0 where
  pub log : records_of new.log ≡ records_of old.log ++ records_led l
  pub contents : contents_at new.store ≡ led_on l (contents_at old.store)
  pub listing : SameListing old.store new.store
  pub pool : new.pool ≡ old.pool
  pub first : new.first ≡ old.first
  pub room : length (records_of old.log) + (loan_of l).steps ≤ LOG_LIMIT

joined_length : {A : Type 0} (xs ys zs : List A) (k limit : ℕ) → zs ≡ xs ++ ys → k ≡ length ys → length xs + k ≤ limit → length zs ≤ limit
joined_length xs ys zs k limit is count fits = let long : length zs ≡ length xs + length ys = ap length is ∙ length-append xs ys in omega (arith, long, count, fits)

pub joins_all : (p : Program) (w : Past p) (old new : Course) (l : LentCopy) → Holds p w old → IsLease l → IsAsLent l old.store → JoinsAll old l new
    → KeepsAll p w (name_lent l) (loan_of l).steps new
joins_all p w old new l s lease lent on =
    let kept = kept_then p w old l s lease lent in
    record {
      steps = kept.steps;
      state = state_in p (contents_at new.store);
      join = record {
        events = events_are p w old l s lease lent;
        leads = subst {_, _} (λ t. IsLog (machine p) t kept.steps (state_in p (contents_at new.store))) (sym s.state)
            (subst {_, _} (λ t. IsLog (machine p) (state_in p (contents_at old.store)) kept.steps (state_in p t)) (sym on.contents) kept.leads);
        room = subst {_, _} (λ n. n + (loan_of l).steps ≤ most_steps) (log_length p w old s) on.room;
      };
      holds = record {
        program = same_program old.store new.store on.listing ∙ s.program;
        run = runs_at old.store new.store on.listing s.run
            (subst {_, _} (λ q. Running q (contents_at new.store)) (sym s.program)
            (subst {_, _} (Running p) (sym on.contents) (led p w old l s lease lent).running));
        begins = s.begins;
        begun = s.begun;
        kept = rw (on.log, on.contents) kept.kept;
        state = refl;
        pool = rw (on.pool, on.contents) (stays_in_pool p w old l s lease lent);
        short = joined_length (records_of old.log) (records_led l) (records_of new.log) (loan_of l).steps LOG_LIMIT on.log lease.counted on.room;
        first = on.first ∙ s.first;
      };
    }

-- the course has still the same past where the log is refused the records
pub not_joined : (p : Program) (w : Past p) (old new : Course) → Holds p w old → new.store ≡ old.store → records_of new.log ≡ records_of old.log
    → new.pool ≡ old.pool → new.first ≡ old.first → Holds p w new
not_joined p w old new s store log pool first = stays p w old new s (record {
  listing = ap (λ (t : Store). t.listing) store;
  contents = ap contents_at store;
  records = log;
  pool = λ has. subst {_, _} (λ (q : pools.Goroutines). HasReady q (contents_at new.store)) (sym pool)
      (subst {_, _} (λ (t : Store). HasReady old.pool (contents_at t)) (sym store) has);
  first = first;
})

-- nothing may be done again after the steps
pub takes_all : (p : Program) (w : Timeline p) (go : List ℕ) (count : ℕ) (m : Machine) → KeepsAll p w.past go count m.course → again_of m ≡ [] → TakesAll p w go count m
takes_all p w go count m keeps none =
    record { steps = keeps.steps; state = keeps.state; join = keeps.join; stands = stands_alone p _ m keeps.holds none }
