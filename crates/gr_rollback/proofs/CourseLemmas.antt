-- Courses that go on, and that stay.
use Rattle.std.proofs.Common.{◌≡◌, ℕ, ◌+◌, ◌≤◌, ◌<◌, ◌^◌, true, false, ◌||◌, List, [], ◌∷◌, ◌++◌, length, Option, Some, None, inl, inr, refl, sym, ap, subst, ◌∙◌, arith}
use Rattle.std.specs.Prelude.{option_map}
use Rattle.std.specs.Option.{option_map_or, option_to_list}
use Rattle.std.proofs.lemmas.Bool.{cases_Bool}
use Rattle.std.proofs.lemmas.List.{length_push}
use Rattle.std.proofs.lemmas.List.Folds.{list_any-append}
use Rattle.gr_causal.specs.Machine.{saved_of, IsLog}
use Rattle.gr_causal.proofs.PathLemmas.{step_log}
use Rattle.gr_step.specs.Channels.{tail_of}
use Rattle.gr_pool.specs.Goroutines as pools
use Rattle.gr_pool.specs.Goroutines.{is_among}
use Rattle.gr_program.specs.Programs.{Program}
use Rattle.gr_rules.specs.Limits.{most_steps}
use Rattle.gr_rules.specs.States.{same_go}
use Rattle.gr_rules.specs.Steps.{machine, attempt, count, steps_of}
use Rattle.gr_laws.specs.Reached.{Logged, IsRun}
use Rattle.gr_laws.proofs.BoundLemmas.{steps_within, entered_within}
use Rattle.gr_laws.proofs.CellLemmas.{go_is}
use Rattle.gr_code.specs.Goroutines.{CodeGoroutine}
use Rattle.gr_refine.specs.Contents.{Contents, goroutine_of}
use Rattle.gr_refine.specs.Machines.{note_of}
use Rattle.gr_refine.proofs.AttemptLemmas.{step_is_of_the_machine}
use Rattle.gr_step.specs.Record.{Record}
use Rattle.gr_step.specs.declared.store.Store.{Store}
use Rattle.gr_step.specs.Listings.{program_in, frame_in, state_in, IsCoded}
use Rattle.gr_step.specs.Premises.{CanCount}
use Rattle.gr_step.specs.Running.{Running}
use Rattle.gr_step.specs.Records.{event_of, begun_by, is_go}
use Rattle.gr_depend.specs.Logs.{records_of}
use Rattle.gr_step.specs.Stores.{program_at, contents_at, SameListing}
use Rattle.gr_step.specs.Stores as stores
use Rattle.gr_step.specs.Taking.{IsRecord}
use Rattle.gr_step.specs.Kept.{one_more, Tells}
use Rattle.gr_rollback.specs.declared.TheConstants.{LOG_LIMIT}
use Rattle.gr_rollback.specs.declared.course.Course.{Course}
use Rattle.gr_rollback.specs.declared.stepped.Stepped.{Stepped}
use Rattle.gr_rollback.specs.Pasts.{Past}
use Rattle.gr_rollback.specs.Courses.{Holds, IsCourse}
use Rattle.gr_rollback.specs.Readiness.{IsReadyIn, IsAsIn, HasReady, Settles, Follows, KnowsMore, AllKnown, KeepsStatus, met_by, others_of}
use Rattle.gr_rollback.specs.Retracting.{SameCourse}
use Rattle.gr_rollback.specs.Stepping.{told_by}
use Rattle.gr_rollback.specs.Steps.{Keeps}
use Rattle.gr_step.proofs.KeptLemmas.{kept_is_run}
use Rattle.gr_rollback.proofs.Basics.{or_left, neither}
use Rattle.gr_rollback.proofs.KeptLemmas.{kept_length}
use Rattle.gr_rollback.proofs.OwnerLemmas.{own_is_ready, others_stay, met_was_there, stays_ready}

-- a course of a world is one
pub is_course : (p : Program) (w : Past p) (c : Course) → Holds p w c → IsCourse c
is_course p w c s = subst (λ q. (v : Past q) → Holds q v c → IsCourse c) s.program (λ v t. record { past = v; holds = t }) w s

-- the log has as many steps as there are records
pub log_length : (p : Program) (w : Past p) (c : Course) → Holds p w c → length (records_of c.log) ≡ length w.log
log_length p w c s = kept_length p s.begins (records_of c.log) w.log (contents_at c.store) s.kept

-- no count passes the greatest number
small : (n m limit top : ℕ) → n ≤ m → m ≤ limit → limit + 1 < top → n + 1 < top
small n m limit top a b c = omega arith

limit_is_small : LOG_LIMIT + 1 < 2 ^ 64
limit_is_small = omega arith

module _ (p : Program) (w : Past p) (c : Course) (s : Holds p w c) where
  run : IsRun p w.log (state_in p (contents_at c.store))
  run = kept_is_run p s.begins (contents_at c.store) (records_of c.log) w.log s.begun.state s.kept

  few : length w.log ≤ LOG_LIMIT
  few = subst (λ n. n ≤ LOG_LIMIT) (log_length p w c s) s.short

  pub can_count : CanCount (contents_at c.store)
  can_count = record {
    steps = λ n g there.
        let is : count (state_in p (contents_at c.store)) n ≡ g.steps = ap (λ o. steps_of (option_map (goroutine_of (frame_in p)) o)) there in
        small g.steps (length w.log) LOG_LIMIT (2 ^ 64) (subst (λ n. n ≤ length w.log) is (steps_within p (state_in p (contents_at c.store)) w.log n run)) few limit_is_small;
    values = λ k x there.
        let is : (state_in p (contents_at c.store)).tails k ≡ tail_of x = ap (λ o. option_map_or tail_of o 0) there in
        small (tail_of x) (length w.log) LOG_LIMIT (2 ^ 64) (subst (λ n. n ≤ length w.log) is (entered_within p (state_in p (contents_at c.store)) w.log k run)) few
        limit_is_small;
  }

-- a store with the listing of another has its program, and a run of it leads to what the store contains
pub same_program : (old new : Store) → SameListing old new → program_at new ≡ program_at old
same_program old new same = ap program_in same

pub runs_at : (old new : Store) → SameListing old new → stores.IsRun old → Running (program_at old) (contents_at new) → stores.IsRun new
runs_at old new same run running = record {
  coded = subst IsCoded (sym same) run.coded;
  running = subst (λ q. Running q (contents_at new)) (sym (same_program old new same)) running;
}

-- the pool still fits where it knows more
pub ready_still : (old new : pools.Goroutines) (s t : Contents) → HasReady old s → t ≡ s → KnowsMore old new → new.ready ≡ old.ready → HasReady new t
ready_still old new s t has same more ready =
    subst (HasReady new) (sym same)
    (record {
      knows = λ n g there. more n (has.knows n g there);
      each = λ n. record {
        has = λ r. ap (is_among n) ready ∙ (has.each n).has r;
        only = λ r. (has.each n).only (ap (is_among n) (sym ready) ∙ r);
      };
    })

-- a course in which nothing has changed
pub stays : (p : Program) (w : Past p) (old new : Course) → Holds p w old → SameCourse old new → Holds p w new
stays p w old new s same = record {
  program = same_program old.store new.store same.listing ∙ s.program;
  run = runs_at old.store new.store same.listing s.run (subst (Running (program_at old.store)) (sym same.contents) s.run.running);
  begins = s.begins;
  begun = s.begun;
  kept = rw (same.records, same.contents) s.kept;
  state = s.state ∙ ap (state_in p) (sym same.contents);
  pool = same.pool s.pool;
  short = rw same.records s.short;
  first = same.first ∙ s.first;
}

-- the pool of a step: from contents to others, in which only these goroutines may differ
pub record OnlyThese (r : Record) (s t : Contents) : Type 0 where
  pub stay : (q : List ℕ) → same_go q r.id.go ≡ false → is_among q (others_of r.change) ≡ false → t.goroutines q ≡ s.goroutines q

pub ready_after : (r : Record) (s t : Contents) (old new : pools.Goroutines) → HasReady old s → OnlyThese r s t → is_among r.id.go old.known ≡ true → Follows r t old new
    → HasReady new t
ready_after r s t old new has only own f = record { knows = knows; each = each }
  where
    onward : (q : List ℕ) → is_among q old.known ≡ true → is_among q new.known ≡ true
    onward q k = ap (is_among q) f.settles.known ∙ f.more q k

    knows : (q : List ℕ) (g : CodeGoroutine) → t.goroutines q ≡ Some g → is_among q new.known ≡ true
    knows q g there = elim (cases_Bool (same_go q r.id.go)) [
      | inl e ↦ onward q (ap (λ m. is_among m old.known) (go_is q r.id.go e) ∙ own)
      | inr e ↦ elim (cases_Bool (is_among q (others_of r.change))) [
        | inl m ↦ ap (is_among q) f.settles.known ∙ f.knows q m
        | inr m ↦ onward q (has.knows q g (sym (only.stay q e m) ∙ there))
      ]
    ]

    each : (q : List ℕ) → IsAsIn new t q
    each q = elim (cases_Bool (is_among q (r.id.go ∷ others_of r.change))) [
      | inl m ↦ f.settles.these q m
      | inr m ↦
          let both = neither (same_go q r.id.go) (is_among q (others_of r.change)) m in
          let same : is_among q new.ready ≡ is_among q old.ready = f.settles.others q m ∙ ap (is_among q) f.same in
          let there : t.goroutines q ≡ s.goroutines q = only.stay q both.0 both.1 in
          record {
            has = λ up. same ∙ (has.each q).has (record { goroutine = up.goroutine; there = sym there ∙ up.there; is_ready = up.is_ready });
            only = λ up.
                let was = (has.each q).only (sym same ∙ up) in
                record { goroutine = was.goroutine; there = there ∙ was.there; is_ready = was.is_ready };
          }
    ]

-- a step and its record
module _ (p : Program) (s t : Contents) (r : Record) (is : IsRecord p s r t) where
  pub own_was_ready : IsReadyIn s r.id.go
  own_was_ready = own_is_ready (frame_in p) p (event_of r) s t is.takes.report is.takes.steps

  -- its goroutine is ready after it, where the step neither met nor started it and left its status as it was
  pub own_stays_ready : is_among r.id.go (others_of r.change) ≡ false → KeepsStatus r.change.own → IsReadyIn t r.id.go
  own_stays_ready = stays_ready r.id.go r.change s t own_was_ready is.takes.back is.takes.fits

  pub only_these : OnlyThese r s t
  only_these = record { stay = λ q e m. sym (ap (λ x. x.goroutines q) (sym is.takes.back) ∙ others_stay r.id.go r.change t q e m) }

  abbrev note : (machine p).Note
  note = note_of (state_in p s) (attempt p (event_of r)) is.takes.report is.takes.steps.cells

  -- the step as the log of the rules has it
  abbrev pub logged : Logged p
  logged = record { event = event_of r; note = note; saved = saved_of (machine p) (state_in p s) ((machine p).writes note) }

  pub tells : Tells p s r logged t
  tells = record {
    is = is;
    step = step_log (machine p) (state_in p s) (state_in p t) (event_of r) note (step_is_of_the_machine (frame_in p) s t p (event_of r) is.takes.report is.takes.steps);
    event = refl;
    kind = sym is.takes.kind;
    ordinal = is.takes.ordinal ∙ sym is.named;
    printed = sym is.takes.printed;
  }

-- the goroutine of a step that was taken: the pool knew it, and had it as ready
pub own_in_pool : (p : Program) (w : Past p) (c : Course) (s : Holds p w c) (r : Record) (t : Contents) → IsRecord p (contents_at c.store) r t
    → (is_among r.id.go c.pool.known ≡ true) × (is_among r.id.go c.pool.ready ≡ true)
own_in_pool p w c s r t is =
    let up = own_was_ready p (contents_at c.store) t r is in
    (s.pool.knows r.id.go up.goroutine up.there, (s.pool.each r.id.go).has up)

-- those that it met: a pool knows them that knows what the first knew, and what the step started
pub met_in_pool : (p : Program) (w : Past p) (c : Course) (s : Holds p w c) (r : Record) (t : Contents) → IsRecord p (contents_at c.store) r t
    → (pool : pools.Goroutines) → KnowsMore c.pool pool → AllKnown (option_to_list (begun_by r.change)) pool → AllKnown (met_by r.change) pool
met_in_pool p w c s r t is pool more child q among = elim (cases_Bool (is_go q (begun_by r.change))) [
  | inl e ↦ child q (is_child q (begun_by r.change) e)
  | inr other ↦
      let was = met_was_there r.id.go r.change t q is.takes.fits among other in
      more q (s.pool.knows q was.0 (sym (ap (λ (x : Contents). x.goroutines q) is.takes.back) ∙ was.1))
]
  where
    is_child : (n : List ℕ) (o : Option (List ℕ)) → is_go n o ≡ true → is_among n (option_to_list o) ≡ true
    is_child n None e = cc
    is_child n (Some m) e = or_left (same_go n m) false e

-- the goroutines of a step are known and settled
pub follows : (r : Record) (s : Contents) (old before new : pools.Goroutines) → KnowsMore old before → before.ready ≡ old.ready
    → AllKnown (met_by r.change) before → AllKnown (option_to_list (begun_by r.change)) before → Settles (r.id.go ∷ others_of r.change) s before new
    → Follows r s old new
follows r s old before new more same met child settles = record {
  before = before;
  knows = λ n t. elim (cases_Bool (is_among n (met_by r.change))) [
    | inl e ↦ met n e
    | inr e ↦ child n (sym (ap (λ b. b || is_among n (option_to_list (begun_by r.change))) e)
        ∙ sym (list_any-append (same_go n) (met_by r.change) (option_to_list (begun_by r.change))) ∙ t)
  ];
  more = more;
  same = same;
  settles = settles;
}

-- the step of a record has joined the log
pub record StepsOn (old : Course) (r : Record) (new : Course) : Type 0 where
  pub is : IsRecord (program_at old.store) (contents_at old.store) r (contents_at new.store)
  pub run : stores.IsRun new.store
  pub listing : SameListing old.store new.store
  pub follows : Follows r (contents_at new.store) old.pool new.pool
  pub log : records_of new.log ≡ records_of old.log ++ r ∷ []
  pub short : length (records_of new.log) ≤ LOG_LIMIT
  pub first : new.first ≡ old.first

room_before : (n m limit : ℕ) → m ≡ n + 1 → m ≤ limit → n < limit
room_before n m limit a b = omega arith

pub keeps : (p : Program) (w : Past p) (old new : Course) (r : Record) (told : Stepped) → told ≡ told_by r → Holds p w old → StepsOn old r new
    → Keeps p w (event_of r) told new
keeps p w old new r told is_told s on =
    let is : IsRecord p (contents_at old.store) r (contents_at new.store) = subst (λ q. IsRecord q (contents_at old.store) r (contents_at new.store)) s.program on.is in
    let tells_step = tells p (contents_at old.store) (contents_at new.store) r is in
    let step = logged p (contents_at old.store) (contents_at new.store) r is in
    let up = own_was_ready p (contents_at old.store) (contents_at new.store) r is in
    let longer : length (records_of new.log) ≡ length (records_of old.log) + 1 = ap length on.log ∙ length_push (records_of old.log) r in
    record {
      step = step;
      state = state_in p (contents_at new.store);
      joins = record {
        event = refl;
        leads = subst (λ x. IsLog (machine p) x (step ∷ []) (state_in p (contents_at new.store))) (sym s.state) tells_step.step;
        room = subst (λ n. n < most_steps) (log_length p w old s)
            (room_before (length (records_of old.log)) (length (records_of new.log)) most_steps longer on.short);
      };
      tells = is_told ∙ (λ i. record { ordinal = sym tells_step.ordinal i; kind = sym tells_step.kind i });
      holds = record {
        program = same_program old.store new.store on.listing ∙ s.program;
        run = on.run;
        begins = s.begins;
        begun = s.begun;
        kept = rw on.log (one_more r step (contents_at new.store) s.kept tells_step);
        state = refl;
        pool = ready_after r (contents_at old.store) (contents_at new.store) old.pool new.pool s.pool
            (only_these p (contents_at old.store) (contents_at new.store) r is) (s.pool.knows r.id.go up.goroutine up.there) on.follows;
        short = on.short;
        first = on.first ∙ s.first;
      };
    }
