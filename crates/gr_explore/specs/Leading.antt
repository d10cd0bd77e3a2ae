-- What is seen of a machine that stands, and that its events lead to its state.
use Rattle.std.proofs.Common.{◌≡◌, ℕ, zero, suc, List, [], ◌∷◌, ◌++◌, map, take, drop, refl, sym, ◌∙◌, ap, subst}
use Rattle.gr_program.specs.Programs.{Program}
use Rattle.gr_laws.specs.Reached.{Logged, IsRun}
use Rattle.gr_step.specs.Listings.{state_in}
use Rattle.gr_step.specs.Stores.{program_at, contents_at}
use Rattle.gr_record.proofs.KeptLemmas.{kept_is_run}
use Rattle.gr_rollback.specs.declared.machine.Machine.{Machine}
use Rattle.gr_rollback.specs.Machines.{store_of, steps_of, Stands}
use Rattle.gr_rollback.specs.Pasts.{Timeline, events_in}
use Rattle.gr_rollback.proofs.KeptLemmas.{events_alike}
use Rattle.gr_search.specs.System.{Leads}
use Rattle.gr_schedules.specs.Schedules.{schedules, newest_first}
use Rattle.gr_schedules.proofs.ScheduleLemmas.{run_leads}
use Rattle.gr_explore.specs.Exploring.{events_at, origin_of, events_since, state_seen, StandsSince}

-- a machine that stands, as it is seen
pub record Seen (p : Program) (w : Timeline p) (m : Machine) : Type 0 where
  pub program_is : program_at (store_of m) ≡ p
  pub state_is : state_seen m ≡ w.past.state
  pub events_are : events_at m ≡ events_in p w.past.log
  pub run : IsRun p w.past.log w.past.state

pub seen_as : (p : Program) (w : Timeline p) (m : Machine) → Stands p w m → Seen p w m
seen_as p w m s =
    let h = s.holds in
    record {
      program_is = h.program;
      state_is = ap (λ q. state_in q (contents_at (store_of m))) h.program ∙ sym h.state;
      events_are = events_alike p h.begins (steps_of m) w.past.log (contents_at (store_of m)) h.kept;
      run = subst (IsRun p w.past.log) (sym h.state) (kept_is_run p h.begins (contents_at (store_of m)) (steps_of m) w.past.log h.begun.state h.kept);
    }

pub both_parts : {A : Type 0} (n : ℕ) (xs : List A) → xs ≡ take n xs ++ drop n xs
both_parts zero xs = refl
both_parts (suc n) [] = refl
both_parts (suc n) (x ∷ xs) = ap (λ ys. x ∷ ys) (both_parts n xs)

map_take : {A B : Type 0} (f : A → B) (n : ℕ) (xs : List A) → map f (take n xs) ≡ take n (map f xs)
map_take f zero xs = refl
map_take f (suc n) [] = refl
map_take f (suc n) (x ∷ xs) = ap (λ ys. f x ∷ ys) (map_take f n xs)

map_drop : {A B : Type 0} (f : A → B) (n : ℕ) (xs : List A) → map f (drop n xs) ≡ drop n (map f xs)
map_drop f zero xs = refl
map_drop f (suc n) [] = refl
map_drop f (suc n) (x ∷ xs) = map_drop f n xs

-- the events since lead to where the machine stands
pub since_leads : (m : Machine) (base : ℕ) → StandsSince m base → Leads (schedules (origin_of m base)) (events_since m base) (state_seen m)
since_leads m base since =
    let p = program_at (store_of m) in
    let w = since.is.world in
    let s = seen_as p w m since.is.stands in
    let front : List (Logged p) = take base w.past.log in
    let behind : List (Logged p) = drop base w.past.log in
    let led = run_leads p front behind w.past.state (subst (λ log. IsRun p log w.past.state) (both_parts base w.past.log) s.run) in
    let before_is : events_in p front ≡ take base (events_at m) = map_take (λ (r : Logged p). r.event) base w.past.log ∙ ap (take base) (sym s.events_are) in
    let since_is : events_in p behind ≡ drop base (events_at m) = map_drop (λ (r : Logged p). r.event) base w.past.log ∙ ap (drop base) (sym s.events_are) in
    subst (Leads (schedules (origin_of m base)) (events_since m base)) (sym s.state_is)
    (subst (λ xs. Leads (schedules (record { program = p; before = take base (events_at m) })) (newest_first xs []) w.past.state) since_is
    (subst (λ xs. Leads (schedules (record { program = p; before = xs })) (newest_first (events_in p behind) []) w.past.state) before_is led))
