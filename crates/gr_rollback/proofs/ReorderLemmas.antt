-- A machine whose log is put in another order.
use Rattle.std.proofs.Common.{◌≡◌, ℕ, zero, suc, ◌≤◌, ◌<◌, List, [], ◌∷◌, length, reverse, map, Some, refl, sym, ap, subst, ◌∙◌, arith, Global}
use Rattle.std.specs.Prelude.{slice_get, Vec, Err}
use Rattle.gr_base.specs.declared.events.Event.{Event}
use Rattle.gr_base.specs.declared.names.StepId.{StepId}
use Rattle.gr_causal.specs.OrderByNames.{NamesEach}
use Rattle.gr_causal.specs.Orders.{IsOrder}
use Rattle.gr_causal.specs.Sequences.{Distinct}
use Rattle.gr_causal.proofs.ListLemmas.{some_is, none_not}
use Rattle.gr_program.specs.Programs.{Program}
use Rattle.gr_laws.specs.Reached.{IsRun}
use Rattle.gr_step.specs.Record.{Record}
use Rattle.gr_step.specs.Conflicts.{conflict_of}
use Rattle.gr_step.specs.Listings.{state_in}
use Rattle.gr_step.specs.Running.{Running}
use Rattle.gr_step.specs.Stores.{contents_at}
use Rattle.gr_step.proofs.KeptLemmas.{kept_is_run}
use Rattle.gr_depend.specs.declared.log.Log.{Log}
use Rattle.gr_depend.specs.Logs.{records_of}
use Rattle.gr_depend.specs.Named.{IsNamed}
use Rattle.gr_depend.specs.Ordering.{name, BreaksAt}
use Rattle.gr_depend.proofs.OrderingLemmas.{as_many}
use Rattle.gr_rollback.specs.declared.TheConstants.{LOG_LIMIT}
use Rattle.gr_rollback.specs.declared.machine.Machine.{Machine}
use Rattle.gr_rollback.specs.declared.refusal.BackRefused.{BackRefused}
use Rattle.gr_rollback.specs.declared.refusal.BackRefused.TheVariants as refusals
use Rattle.gr_rollback.specs.Backs.{Reorders, Reordered}
use Rattle.gr_rollback.specs.Courses.{Holds}
use Rattle.gr_rollback.specs.Machines.{steps_of, Stands}
use Rattle.gr_rollback.specs.Pasts.{Timeline}
use Rattle.gr_rollback.specs.Reordering.{NamesPair}
use Rattle.gr_rollback.proofs.CourseLemmas.{log_length, stays}
use Rattle.gr_rollback.proofs.KeptLemmas.{begins_running}
use Rattle.gr_rollback.proofs.OrderLemmas.{ids_once, others_named, broken_by, takes_order}
use Rattle.gr_rollback.proofs.RedoLemmas.{stands_still}
use Rattle.gr_rollback.proofs.StepLemmas.{running_of}

-- the machine with another log
abbrev pub with_log : Machine → Log → Machine
with_log m log = record m { course = record m.course { log = log } }

within : {A : Type 0} (xs : List A) (at : ℕ) (x : A) → slice_get xs at ≡ Some x → at < length xs
within [] at x there = absurd (none_not x there)
within (y ∷ xs) zero x there = omega arith
within (y ∷ xs) (suc at) x there = let further = within xs at x there in omega (arith, further)

pub breaks_within : (old new : List Record) (ids : List StepId) (earlier later : ℕ) → new ≡ old → BreaksAt old ids earlier later
    → (earlier < length new) × (later < length new)
breaks_within old new ids earlier later same breaks = (
  within new earlier breaks.first (ap (λ xs. slice_get xs earlier) same ∙ breaks.first_at),
  within new later breaks.second (ap (λ xs. slice_get xs later) same ∙ breaks.second_at),
)

-- the name of the record at a place
name_there : (old new : List Record) (at : ℕ) (r : Record) (id : StepId) → new ≡ old → slice_get old at ≡ Some r → IsNamed new at id → r.id ≡ id
name_there old new at r id same there named =
    ap (λ (q : Record). q.id) (some_is r named.step (sym there ∙ ap (λ xs. slice_get xs at) (sym same) ∙ named.there)) ∙ named.named

module _ (p : Program) (w : Timeline p) (m : Machine) (s : Stands p w m) where
  abbrev h : Holds p w.past m.course
  h = s.holds

  run : IsRun p w.past.log (state_in p (contents_at m.course.store))
  run = kept_is_run p h.begins (contents_at m.course.store) (steps_of m) w.past.log h.begun.state h.kept

  running : Running p h.begins
  running = begins_running p h.begins (running_of p w.past m.course h).program h.begun

  -- no two steps have one name
  pub once : Distinct (map name (steps_of m))
  once = ids_once p h.begins (contents_at m.course.store) (state_in p (contents_at m.course.store)) (steps_of m) w.past.log h.kept run

  module _ (log : Log) (ids : List StepId) where
    -- the order is taken
    pub reorders : (again : Vec Event Global) → again.items ≡ [] → IsOrder conflict_of (steps_of m) (records_of log) → map name (records_of log) ≡ ids
        → Reorders p w ids (record (with_log m log) { again = again })
    reorders again none order named =
        let taken = takes_order p h.begins (contents_at m.course.store) (state_in p (contents_at m.course.store)) (steps_of m) w.past.log h.kept run running
        ids (records_of log) order named in
        let short : length (records_of log) ≤ LOG_LIMIT = subst (λ n. n ≤ LOG_LIMIT) (sym taken.count) h.short in
        record {
          log = taken.steps;
          order = taken.order;
          stands = record {
            holds = record {
              program = h.program;
              run = h.run;
              begins = h.begins;
              begun = h.begun;
              kept = taken.keeps;
              state = h.state;
              pool = h.pool;
              short = short;
              first = h.first;
            };
            again = ap reverse none;
            can_go = record { steps = []; state = w.past.state; leads = refl; events_are = refl };
            short = omega (arith, short);
          };
        }

    -- the order is refused
    pub same_stands : records_of log ≡ steps_of m → Stands p w (with_log m log)
    same_stands same =
        stands_still p w m (with_log m log) s
        (stays p w.past m.course (with_log m log).course h (record { listing = refl; contents = refl; records = same; pool = λ has. has; first = refl })) refl

    pub other_steps_told : records_of log ≡ steps_of m → (NamesEach name (steps_of m) ids → ⊥) → Reordered p w ids (Err refusals.NotTheSteps) (with_log m log)
    other_steps_told same others = (
      others_named p h.begins (contents_at m.course.store) (state_in p (contents_at m.course.store)) (steps_of m) w.past.log h.kept run ids others,
      same_stands same,
    )

    -- out of memory, with as many names as steps
    pub memory_told : (taken : Vec StepId Global) → taken.items ≡ [] → records_of log ≡ steps_of m → length ids ≡ length (steps_of m)
        → Reordered p w ids (Err (refusals.NoMemory taken)) (with_log m log)
    memory_told taken none same many = (none, many ∙ log_length p w.past m.course h, same_stands same)

    pub break_told : (earlier later : ℕ) (why : BackRefused) → records_of log ≡ steps_of m → BreaksAt (steps_of m) ids earlier later
        → NamesPair (records_of log) earlier later why → Reordered p w ids (Err why) (with_log m log)
    break_told earlier later (refusals.BreaksDependence first second) same breaks told =
        let pair = broken_by p h.begins (contents_at m.course.store) (state_in p (contents_at m.course.store)) (steps_of m) w.past.log h.kept run
        ids breaks.order breaks.first breaks.second breaks.steps breaks.named breaks.change in (
          record {
            earlier = pair.earlier;
            later = pair.later;
            order = pair.order;
            first_is = pair.first_is ∙ name_there (steps_of m) (records_of log) earlier breaks.first first same breaks.first_at told.0;
            second_is = pair.second_is ∙ name_there (steps_of m) (records_of log) later breaks.second second same breaks.second_at told.1;
          },
          same_stands same,
        )
    break_told earlier later (refusals.NoMemory taken) same breaks told =
        memory_told taken told same (as_many (steps_of m) ids earlier later once breaks)
    break_told earlier later refusals.NothingToUndo same breaks told = absurd told
    break_told earlier later refusals.NotKept same breaks told = absurd told
    break_told earlier later refusals.NotTheSteps same breaks told = absurd told
    break_told earlier later refusals.NothingToRedo same breaks told = absurd told
