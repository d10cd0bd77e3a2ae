-- Schedules that were found, as the machine that stands in their end tells them.
use Rattle.std.proofs.Common.{◌≡◌, ◌+◌, ◌++◌, ℕ, suc, List, [], ◌∷◌, take, length, refl, sym, ◌∙◌, ap, subst, inl}
use Rattle.gr_causal.specs.Machine.{IsLog}
use Rattle.gr_program.specs.Programs.{Program}
use Rattle.gr_rules.specs.States.{State, start}
use Rattle.gr_rules.specs.Steps.{machine}
use Rattle.gr_laws.specs.Reached.{Logged}
use Rattle.gr_rollback.proofs.KeptLemmas.{kept_length}
use Rattle.gr_step.specs.Stores.{contents_at}
use Rattle.gr_rollback.specs.declared.machine.Machine.{Machine}
use Rattle.gr_rollback.specs.Machines.{store_of, steps_of, Stands}
use Rattle.gr_rollback.specs.Pasts.{Past, Timeline, events_in}
use Rattle.gr_search.specs.Going.{HasClosed}
use Rattle.gr_search.specs.Shortest.{IsCut}
use Rattle.gr_search.specs.declared.search.Answer.TheVariants as answers
use Rattle.gr_search.specs.declared.search.Limits.{Limits}
use Rattle.gr_search.specs.declared.searched.Limit.{Limit}
use Rattle.gr_search.specs.declared.searched.Limit.TheVariants.{Memory, Steps, States, Turns, Back}
use Rattle.gr_search.specs.declared.shortest.Unfinished.{Unfinished}
use Rattle.gr_schedules.specs.declared.Aim.{Aim}
use Rattle.gr_schedules.specs.declared.Aim.TheVariants.{EndsBadlyOrLeaks}
use Rattle.gr_schedules.specs.Schedules.{Origin}
use Rattle.gr_schedules.specs.Aims.{IsAim, schedules_to}
use Rattle.gr_schedules.specs.Choices.{AreChoices}
use Rattle.gr_schedules.specs.Keys.{IsKey}
use Rattle.gr_explore.specs.Exploring.{ComesTo, IsHome, StandsAgain, events_at, longest_after, origin_of, state_seen}
use Rattle.gr_explore.specs.Fewest.{ComesByFewest, IsKnownOf}
use Rattle.gr_explore.specs.Leading.{seen_as}
use Rattle.gr_survey.specs.declared.bad_end.BadEnds.{BadEnds}
use Rattle.gr_survey.specs.declared.bad_end.BadEnds.TheVariants.{WithoutLeaks, WithLeaks}
use Rattle.gr_survey.specs.declared.surveying.Schedule.{Schedule}
use Rattle.gr_survey.specs.Schedules.{AreAll, EndsAs, IsSchedule, IsShortest, IsUnfinished, sought}
use Rattle.gr_survey.specs.StepTexts.{commands_text}

-- a bad end is one where leaks are bad too
bad_or_leaks : (bad : BadEnds) (s : State) → IsAim (sought bad) s → IsAim EndsBadlyOrLeaks s
bad_or_leaks WithoutLeaks s h = inl h
bad_or_leaks WithLeaks s h = h

-- where a machine stands in a state that is bad, it is seen to be bad
pub bad_there : (p : Program) (w : Timeline p) (m : Machine) (bad : BadEnds) → Stands p w m → IsAim (sought bad) w.past.state → IsAim EndsBadlyOrLeaks (state_seen m)
bad_there p w m bad s h = bad_or_leaks bad (state_seen m) (subst (IsAim (sought bad)) (sym (seen_as p w m s).state_is) h)

-- what is told of the schedule in whose end a machine stands
pub record Told (schedule : Schedule) (m : Machine) (old new : List ℕ) : Type 0 where
  pub ends : EndsAs (state_seen m) schedule.end
  pub count : schedule.steps ≡ length (steps_of m)
  pub text : new ≡ old ++ commands_text (events_at m)

-- it is a schedule
pub is_schedule : (p : Program) (w : Past p) (m : Machine) (schedule : Schedule) (old new : List ℕ) (steps : List (Logged p)) (state : State) (v : Timeline p)
    → v.past ≡ record { log = w.log ++ steps; state = state } → IsLog (machine p) w.state steps state → Stands p v m → Told schedule m old new
    → IsSchedule p w schedule old new
is_schedule p w m schedule old new steps state v is leads s told =
    let seen = seen_as p v m s in
    let log_is : v.past.log ≡ w.log ++ steps = ap (λ (x : Past p). x.log) is in
    let state_is : v.past.state ≡ state = ap (λ (x : Past p). x.state) is in
    record {
      steps = steps;
      state = state;
      leads = leads;
      run = subst (λ (x : Past p). IsLog (machine p) (start p) x.log x.state) is seen.run;
      ends = subst (λ t. EndsAs t schedule.end) (seen.state_is ∙ state_is) told.ends;
      count = told.count ∙ kept_length p s.holds.begins (steps_of m) v.past.log (contents_at (store_of m)) s.holds.kept ∙ ap length log_is;
      text = told.text ∙ ap (λ es. old ++ commands_text es) (seen.events_are ∙ ap (events_in p) log_is);
    }

pub any_found : (p : Program) (w : Timeline p) (m : Machine) (bad : BadEnds) (schedule : Schedule) (old new : List ℕ) → ComesTo (sought bad) p w m → Told schedule m old new
    → IsSchedule p w.past schedule old new
any_found p w m bad schedule old new ends told = is_schedule p w.past m schedule old new ends.steps ends.state _ refl ends.leads ends.stands told

pub shortest_found : (p : Program) (w : Timeline p) (m : Machine) (bad : BadEnds) (schedule : Schedule) (old new : List ℕ) → ComesByFewest (sought bad) p w m
    → Told schedule m old new → IsShortest p w.past bad schedule old new
unfolding is_schedule
shortest_found p w m bad schedule old new found told = record {
  is = is_schedule p w.past m schedule old new found.come.steps found.come.state _ refl found.come.leads found.come.stands told;
  fewest = found.fewest;
}

take_all : {A : Type 0} (xs : List A) → take (length xs) xs ≡ xs
take_all [] = refl
take_all (x ∷ xs) = ap (λ ys. x ∷ ys) (take_all xs)

-- a search began where the machine stands
pub begins_at : (p : Program) (w : Timeline p) (m : Machine) → Stands p w m
    → origin_of m (length (steps_of m)) ≡ record { program = p; before = events_in p w.past.log }
begins_at p w m s =
    let seen = seen_as p w m s in
    let many : length (steps_of m) ≡ length w.past.log = kept_length p s.holds.begins (steps_of m) w.past.log (contents_at (store_of m)) s.holds.kept in
    let events : take (length (steps_of m)) (events_at m) ≡ events_in p w.past.log =
    ap (λ n. take n (events_at m)) (many ∙ sym (as_long w.past.log) ∙ ap length (sym seen.events_are)) ∙ take_all (events_at m) ∙ seen.events_are in
    λ i. record { program = seen.program_is i; before = events i }
  where
    as_long : (log : List (Logged p)) → length (events_in p log) ≡ length log
    as_long [] = refl
    as_long (r ∷ log) = ap suc (as_long log)

-- a closed set of keys, and a limit that was met, where a search began with the aim
abbrev pub Closed : Machine → ℕ → Aim → Type 0
Closed m states aim = let origin = origin_of m (length (steps_of m)) in HasClosed (schedules_to aim origin) (IsKey origin.program) states

abbrev pub Cut : Machine → Limits → Unfinished → Aim → Type 0
Cut m limits u aim = let origin = origin_of m (length (steps_of m)) in
    IsCut (schedules_to aim origin) (IsKey origin.program) (AreChoices origin.program) (longest_after origin) limits.states limits.turns (u.safe + 1) u.limit

-- so many states were seen
pub all_there : (p : Program) (w : Timeline p) (m : Machine) (bad : BadEnds) (states : ℕ) → Stands p w m
    → Closed m states (sought bad) → AreAll p w.past bad states
all_there p w m bad states s closed = subst (λ (o : Origin). HasClosed (schedules_to (sought bad) o) (IsKey o.program) states) (begins_at p w m s) closed

-- what is known where a limit was met
pub unfinished_there : (p : Program) (w : Timeline p) (m : Machine) (bad : BadEnds) (limits : Limits) (u : Unfinished) → Stands p w m → IsKnownOf (sought bad) p w.past.state u
    → Cut m limits u (sought bad) → IsUnfinished p w.past bad limits u
unfinished_there p w m bad limits u s known met = record {
  safe = known.safe;
  known = known.known;
  met = subst
      (λ (o : Origin). IsCut (schedules_to (sought bad) o) (IsKey o.program) (AreChoices o.program) (longest_after o) limits.states limits.turns (u.safe + 1) u.limit)
      (begins_at p w m s) met;
}

-- the machine stands where it stood, unless a step could not be taken back
pub at_home : (p : Program) (w : Timeline p) (m : Machine) (limit : Limit) → (limit ≡ Back → ⊥) → IsHome p w (answers.Limited limit) m → StandsAgain p w m
at_home p w m Memory other home = home
at_home p w m Steps other home = home
at_home p w m States other home = home
at_home p w m Turns other home = home
at_home p w m Back other home = absurd (other refl)
