-- The last step of a course taken back.
use Rattle.std.proofs.Common.{◌≡◌, ℕ, ◌+◌, ◌≤◌, List, [], ◌∷◌, ◌++◌, length, reverse, refl, sym, ap, subst, ◌∙◌, arith}
use Rattle.std.proofs.lemmas.List.{length_push}
use Rattle.gr_base.specs.declared.events.Event.{Event}
use Rattle.gr_base.specs.declared.names.StepId.{StepId}
use Rattle.gr_causal.specs.Machine.{IsLog}
use Rattle.gr_program.specs.Programs.{Program}
use Rattle.gr_rules.specs.Steps.{machine}
use Rattle.gr_step.specs.Record.{Record}
use Rattle.gr_step.specs.Kept.{Kept}
use Rattle.gr_step.specs.Listings.{state_in}
use Rattle.gr_step.specs.Running.{Running}
use Rattle.gr_step.specs.Stores.{contents_at, SameListing}
use Rattle.gr_step.proofs.KeptLemmas.{kept_is_run, runs_on}
use Rattle.gr_step.proofs.RecordLemmas.{no_object_twice}
use Rattle.gr_depend.specs.Logs.{records_of}
use Rattle.gr_rollback.specs.declared.TheConstants.{LOG_LIMIT}
use Rattle.gr_rollback.specs.declared.course.Course.{Course}
use Rattle.gr_rollback.specs.declared.machine.Machine.{Machine}
use Rattle.gr_rollback.specs.Backs.{LosesLast, Undoes}
use Rattle.gr_rollback.specs.Courses.{Holds}
use Rattle.gr_rollback.specs.Machines.{steps_of, Stands}
use Rattle.gr_rollback.specs.Pasts.{Past, Timeline, id_of}
use Rattle.gr_rollback.specs.Retracting.{LastGoesBack, Retracts, RetractsLast}
use Rattle.gr_rollback.proofs.CourseLemmas.{same_program, runs_at}
use Rattle.gr_rollback.proofs.KeptLemmas.{LastKept, last_kept, none_kept, some_kept, id_alike, begins_running}
use Rattle.gr_rollback.proofs.StepLemmas.{running_of}

module _ (p : Program) (w : Past p) (c : Course) (s : Holds p w c) (front : List Record) (r : Record) (items : records_of c.log ≡ front ++ r ∷ []) where
  -- the last step of a course
  pub last_of : LastKept p s.begins front r w.log (contents_at c.store)
  last_of = last_kept p s.begins front r w.log (contents_at c.store) (subst (λ xs. Kept p s.begins xs w.log (contents_at c.store)) items s.kept)

  -- goes back
  pub last_goes_back : LastGoesBack c
  last_goes_back = record {
    front = front;
    last = r;
    records = items;
    goes = record { can = last_of.tells.is.takes.fits; once = no_object_twice p last_of.mid r last_of.last (contents_at c.store) last_of.tells };
    pool = s.pool;
  }

  pub last_is_kept : w.log ≡ [] → ⊥
  last_is_kept = some_kept p s.begins front r w.log (contents_at c.store) (subst (λ xs. Kept p s.begins xs w.log (contents_at c.store)) items s.kept)

-- no step is there to take back
pub none_is_kept : (p : Program) (w : Past p) (c : Course) → Holds p w c → records_of c.log ≡ [] → w.log ≡ []
none_is_kept p w c s none =
    (none_kept p s.begins w.log (contents_at c.store) (subst (λ xs. Kept p s.begins xs w.log (contents_at c.store)) none s.kept)).0

fewer : (n m limit : ℕ) → m ≡ n + 1 → m ≤ limit → n ≤ limit
fewer n m limit a b = omega arith

module _ (p : Program) (w : Past p) (old new : Course) (e : Event) (s : Holds p w old) (listing : SameListing old.store new.store) (back : Retracts old e new) where
  abbrev r : Record
  r = back.step

  pub last : LastKept p s.begins (records_of new.log) r w.log (contents_at old.store)
  last = last_of p w old s (records_of new.log) r back.records

  contents_are : last.mid ≡ contents_at new.store
  contents_are = sym last.tells.is.takes.back ∙ sym back.contents

  kept : Kept p s.begins (records_of new.log) last.before (contents_at new.store)
  kept = subst (Kept p s.begins (records_of new.log) last.before) contents_are last.kept

  runs : Running p (contents_at new.store)
  runs = runs_on p s.begins (contents_at new.store) (records_of new.log) last.before (begins_running p s.begins (running_of p w old s).program s.begun) kept

  -- the past before the last step
  abbrev pub past : Past p
  past = record { log = last.before; state = state_in p (contents_at new.store) }

  pub holds : Holds p past new
  holds = record {
    program = same_program old.store new.store listing ∙ s.program;
    run = runs_at old.store new.store listing s.run (subst (λ q. Running q (contents_at new.store)) (sym s.program) runs);
    begins = s.begins;
    begun = s.begun;
    kept = kept;
    state = refl;
    pool = back.pool;
    short = fewer (length (records_of new.log)) (length (records_of old.log)) LOG_LIMIT (ap length back.records ∙ length_push (records_of new.log) r) s.short;
    first = back.first ∙ s.first;
  }

  pub loses : LosesLast p w last.last past
  loses = record {
    log = last.log_is;
    run = kept_is_run p s.begins (contents_at new.store) (records_of new.log) last.before s.begun.state kept;
    led = subst (λ x. IsLog (machine p) (state_in p (contents_at new.store)) (last.last ∷ []) x) (sym s.state)
        (subst (λ x. IsLog (machine p) (state_in p x) (last.last ∷ []) (state_in p (contents_at old.store))) contents_are last.tells.step);
  }

  -- its name and its event
  pub named : id_of p last.last ≡ r.id
  named = sym (id_alike p last.mid (contents_at old.store) r last.last last.tells)

  pub event_is : last.last.event ≡ e
  event_is = last.tells.event ∙ sym back.event_is

with_one : (n m limit : ℕ) → m ≡ n + 1 → m ≤ limit → n + 1 ≤ limit
with_one n m limit a b = omega arith

-- a machine whose last step is taken back
module _ (p : Program) (w : Timeline p) (old new : Machine) (s : Stands p w old) (listing : SameListing old.course.store new.course.store) (back : RetractsLast old new) where
  pub undoes : (id : StepId) → id ≡ back.course.step.id → Undoes p w id new
  undoes id is =
      let led = loses p w.past old.course new.course back.event s.holds listing back.course in
      let event = event_is p w.past old.course new.course back.event s.holds listing back.course in
      record {
        step = _;
        past = past p w.past old.course new.course back.event s.holds listing back.course;
        loses = led;
        named = named p w.past old.course new.course back.event s.holds listing back.course ∙ sym is;
        stands = record {
          holds = holds p w.past old.course new.course back.event s.holds listing back.course;
          again = ap reverse back.again ∙ ap (λ e. e ∷ []) (sym event);
          can_go = record { steps = _ ∷ []; state = w.past.state; leads = led.led; events_are = refl };
          short = with_one (length (steps_of new)) (length (steps_of old)) LOG_LIMIT
              (ap length back.course.records ∙ length_push (steps_of new) back.course.step) s.holds.short;
        };
      }
