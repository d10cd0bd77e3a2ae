-- What steps of a machine that explores come to: taken, refused, taken back.
use Rattle.std.proofs.Common.{◌≡◌, ◌≤◌, ◌<◌, ◌-◌, ◌+◌, ℕ, zero, suc, Bool, true, false, List, [], ◌∷◌, ◌++◌, map, take, drop, length, Option, Some, None, option_map, Result, Ok, Err, refl, sym, ◌∙◌, ap, subst, arith, inl, inr}
use Rattle.gr_base.specs.declared.events.Event.{Event}
use Rattle.gr_base.specs.declared.names.StepId.{StepId}
use Rattle.gr_program.specs.Programs.{Program}
use Rattle.gr_rules.specs.Attempts.{Refusal}
use Rattle.gr_base.specs.declared.kinds.Fault.{Fault}
use Rattle.gr_rules.specs.States.{State, live, ended, faulted}
use Rattle.gr_rules.specs.Turns.{IsReady, HasTurn, IsTurn, last_owner}
use Rattle.gr_step.specs.Record.{Record}
use Rattle.gr_step.specs.Records.{event_of}
use Rattle.gr_rules.specs.Steps.{machine, refusal}
use Rattle.gr_laws.proofs.RefusalLemmas.{refused_is_no_step}
use Rattle.gr_step.specs.declared.refusal.StepRefused.{StepRefused}
use Rattle.gr_step.specs.declared.refusal.StepRefused.TheVariants as refusals
use Rattle.gr_step.specs.Stores.{program_at}
use Rattle.gr_rollback.specs.declared.machine.Machine.{Machine}
use Rattle.gr_rollback.specs.declared.refusal.BackRefused.{BackRefused}
use Rattle.gr_rollback.specs.declared.refusal.BackRefused.TheVariants as backs
use Rattle.gr_rollback.specs.declared.stepped.Stepped.{Stepped as Told}
use Rattle.gr_rollback.specs.Backs.{Undone, Undoes}
use Rattle.gr_rollback.specs.Machines.{store_of, Stands, IsMachine}
use Rattle.gr_rollback.specs.Pasts.{Timeline, events_in}
use Rattle.gr_rollback.specs.Steps.{Taken, IsNoStep}
use Rattle.gr_schedules.specs.Schedules.{next_state, schedules}
use Rattle.gr_search.specs.Going.{Stepped, RefusesStep, RefusesBack}
use Rattle.gr_search.specs.declared.searched.Limit.{Limit}
use Rattle.gr_search.specs.declared.searched.Limit.TheVariants.{Steps, Back}
use Rattle.std.specs.Prelude.{IfOk, IfErr, OnOk, OnErr, IsTrue, ◌↔◌}
use Rattle.gr_rules.specs.Limits.{most_steps}
use Rattle.gr_rollback.specs.Machines as machines
use Rattle.gr_schedules.specs.Schedules.{IsBad}
use Rattle.gr_explore.specs.Exploring.{events_at, origin_of, events_since, longest_after, state_seen, StandsSince}
use Rattle.gr_explore.specs.Leading.{seen_as}
use Rattle.gr_explore.specs.Books.{Apart}
use Rattle.gr_explore.proofs.BookLemmas.{apart_at_last, apart_itself, apart_turned}
use Rattle.gr_explore.proofs.ListLemmas.{one_more, count_since}
use Rattle.gr_explore.specs.Trying.{Remains, Advances, Retreats, Tried, Returned, IsNotTaken}
use Rattle.gr_explore.proofs.MachineLemmas.{remains, advances, is_machine, joined, remains_itself}

-- an event that is refused is no step
no_step : (p : Program) (s : State) (e : Event) (q : Refusal) → refusal p s e ≡ Some q → next_state p s e ≡ None
no_step p s e q h = ap (λ (o : Option (State × (machine p).Note)). option_map (λ r. r.0) o) ((refused_is_no_step p s e).1 (q, h))

-- a refusal other than out of memory is one of the rules
pub refused : (p : Program) (w : Timeline p) (e : Event) (why : StepRefused) → (why ≡ refusals.NoMemory → ⊥) → IsNoStep p w.past e why → next_state p w.past.state e ≡ None
refused p w e refusals.Over n h = no_step p w.past.state e _ h
refused p w e refusals.NotThere n h = no_step p w.past.state e _ h
refused p w e refusals.Done n h = no_step p w.past.state e _ h
refused p w e refusals.Waits n h = no_step p w.past.state e _ h
refused p w e refusals.NoChoice n h = no_step p w.past.state e _ h
refused p w e refusals.NoMemory n h = absurd (n refl)

module _ (m n : Machine) (base : ℕ) (e : Event) (since : StandsSince m base) where
  abbrev world : Timeline (program_at (store_of m))
  world = since.is.world

  pub took : (r : Result Told StepRefused) (told : Told) → r ≡ Ok told → Taken (program_at (store_of m)) world e r n → Advances m n base e
  took r told h t = let P : Result Told StepRefused → Type 0 = λ x. Taken (program_at (store_of m)) world e x n in advances m n base e told since (subst P h t)

  pub stayed : (r : Result Told StepRefused) (why : StepRefused) → r ≡ Err why → Taken (program_at (store_of m)) world e r n → Remains m n base
  stayed r why h t = let P : Result Told StepRefused → Type 0 = λ x. Taken (program_at (store_of m)) world e x n in remains m n base since (subst P h t).1

  pub none_there : (r : Result Told StepRefused) (why : StepRefused) → r ≡ Err why → (why ≡ refusals.NoMemory → ⊥) → Taken (program_at (store_of m)) world e r n
      → next_state (program_at (store_of m)) (state_seen m) e ≡ None
  none_there r why h k t =
      let P : Result Told StepRefused → Type 0 = λ x. Taken (program_at (store_of m)) world e x n in
      let a = seen_as (program_at (store_of m)) world m since.is.stands in
      ap (λ s. next_state (program_at (store_of m)) s e) a.state_is ∙ refused (program_at (store_of m)) world e why k (subst P h t).0

  pub stepped_true : Advances m n base e → Stepped (schedules (origin_of m base)) true e (state_seen m) (state_seen n) (events_since m base) (events_since n base)
  stepped_true a = (a.next, a.since)

  pub stepped_false : Remains m n base → next_state (program_at (store_of m)) (state_seen m) e ≡ None
      → Stepped (schedules (origin_of m base)) false e (state_seen m) (state_seen n) (events_since m base) (events_since n base)
  stepped_false r h = (h, r.state, r.since)

module _ (m n : Machine) (base : ℕ) (since : StandsSince m base) (more : base < length (events_at m)) where
  retreats : (id : StepId) → Undoes (program_at (store_of m)) since.is.world id n → Retreats m n base
  retreats id u =
      let p = program_at (store_of m) in
      let a = seen_as p since.is.world m since.is.stands in
      let b = seen_as p _ n u.stands in
      let is : events_at m ≡ events_at n ++ u.step.event ∷ [] = joined p u.past.log u.step u.step.event (events_at n) (events_at m) refl b.events_are (a.events_are ∙ ap (events_in p) u.loses.log) in
      let fewer : base ≤ length (events_at n) = let l = ap length is in let k = length_more (events_at n) u.step.event in omega (arith, more, l, k) in
      let one = one_more (events_at n) (events_at m) u.step.event base fewer is in
      record {
        stands = record { is = is_machine p _ n u.stands; within = fewer };
        origin = λ i. record { program = b.program_is i; before = sym one.before i };
        since = sym (ap (drop 1) one.since);
        apart = λ front r is. apart_turned r _ _ (subst (λ s. Apart r s (state_seen m)) (sym b.state_is)
            (apart_at_last p since.is.world m since.is.stands front r is u.past.log u.step u.loses.log u.past.state u.loses.run));
      }
    where
      length_more : (xs : List Event) (x : Event) → length (xs ++ x ∷ []) ≡ length xs + 1
      length_more [] x = omega arith
      length_more (y ∷ xs) x = let l = length_more xs x in omega (arith, l)

  pub went_back : (r : Result StepId BackRefused) (id : StepId) → r ≡ Ok id → Undone (program_at (store_of m)) since.is.world r n → Retreats m n base
  went_back r id h u = let P : Result StepId BackRefused → Type 0 = λ x. Undone (program_at (store_of m)) since.is.world x n in retreats id (subst P h u)

stays : (m n : Machine) (base : ℕ) (since : StandsSince m base) (why : BackRefused) → Undone (program_at (store_of m)) since.is.world (Err why) n → Stands (program_at (store_of m)) since.is.world n
stays m n base since backs.NothingToUndo u = u.1
stays m n base since (backs.NoMemory ids) u = u.2
stays m n base since backs.NotKept u = absurd u
stays m n base since backs.NotTheSteps u = absurd u
stays m n base since (backs.BreaksDependence a b) u = absurd u
stays m n base since backs.NothingToRedo u = absurd u

pub not_back : (m n : Machine) (base : ℕ) (since : StandsSince m base) (r : Result StepId BackRefused) (why : BackRefused) → r ≡ Err why → Undone (program_at (store_of m)) since.is.world r n → Remains m n base
not_back m n base since r why h u =
    let P : Result StepId BackRefused → Type 0 = λ x. Undone (program_at (store_of m)) since.is.world x n in
    remains m n base since (stays m n base since why (subst P h u))

-- nothing is taken back where it began
pub at_base : (m : Machine) (base : ℕ) → StandsSince m base → base ≡ length (events_at m) → events_since m base ≡ drop 1 (events_since m base)
at_base m base since e = let l = count_since base (events_at m) in none (events_since m base) (omega (arith, l, e))
  where
    none : (xs : List Event) → length xs ≡ 0 → xs ≡ drop 1 xs
    none [] h = refl
    none (x ∷ xs) h = absurd (omega (arith, h))

-- what is told of a step
pub tried_ok : (m n : Machine) (base : ℕ) (e : Event) (since : StandsSince m base) (r : Result Told StepRefused) (told : Told) → r ≡ Ok told
    → Taken (program_at (store_of m)) since.is.world e r n → Tried base e (Ok true) m n
tried_ok m n base e since r told h t = took m n base e since r told h t

pub tried_err : (m n : Machine) (base : ℕ) (e : Event) (since : StandsSince m base) (r : Result Told StepRefused) (why : StepRefused) → r ≡ Err why
    → Taken (program_at (store_of m)) since.is.world e r n → (q : Result Bool Limit) → IsNotTaken why q → Tried base e q m n
tried_err m n base e since r why h t q k = by why k (stayed m n base e since r why h t) (none_there m n base e since r why h)
  where
    no : Remains m n base → next_state (program_at (store_of m)) (state_seen m) e ≡ None → q ≡ Ok false → Tried base e q m n
    no s none k = subst (λ x. Tried base e x m n) (sym k) (s, none)

    by : (why : StepRefused) → IsNotTaken why q → Remains m n base
        → ((why ≡ refusals.NoMemory → ⊥) → Taken (program_at (store_of m)) since.is.world e r n → next_state (program_at (store_of m)) (state_seen m) e ≡ None) → Tried base e q m n
    by refusals.NoMemory k s none = subst (λ x. Tried base e x m n) (sym k) (s, tt)
    by refusals.Over k s none = no s (none (λ h. let x : refusals.Over ≡ refusals.NoMemory = h in cc) t) k
    by refusals.NotThere k s none = no s (none (λ h. let x : refusals.NotThere ≡ refusals.NoMemory = h in cc) t) k
    by refusals.Done k s none = no s (none (λ h. let x : refusals.Done ≡ refusals.NoMemory = h in cc) t) k
    by refusals.Waits k s none = no s (none (λ h. let x : refusals.Waits ≡ refusals.NoMemory = h in cc) t) k
    by refusals.NoChoice k s none = no s (none (λ h. let x : refusals.NoChoice ≡ refusals.NoMemory = h in cc) t) k

-- the log is as long as one may get
pub tried_full : (m : Machine) (base : ℕ) (e : Event) (since : StandsSince m base) → length (events_at m) ≡ most_steps → Tried base e (Err Steps) m m
tried_full m base e since full =
    let count = count_since base (events_at m) in
    let front = take_length base (events_at m) since.within in
    (remains_itself m base since, count ∙ ap (λ k. k - base) full ∙ ap (λ k. most_steps - k) (sym front))
  where
    take_length : (k : ℕ) (xs : List Event) → k ≤ length xs → length (take k xs) ≡ k
    take_length zero xs h = refl
    take_length (suc k) [] h = absurd (omega (arith, h))
    take_length (suc k) (x ∷ xs) h = ap suc (take_length k xs (omega (arith, h)))

module _ (m n : Machine) (base : ℕ) (e : Event) where
  pub stands_of : (r : Result Bool Limit) → Tried base e r m n → StandsSince n base
  stands_of (Ok true) t = t.stands
  stands_of (Ok false) t = t.0.stands
  stands_of (Err limit) t = t.0.stands

  pub origin_is : (r : Result Bool Limit) → Tried base e r m n → origin_of n base ≡ origin_of m base
  origin_is (Ok true) t = t.origin
  origin_is (Ok false) t = t.0.origin
  origin_is (Err limit) t = t.0.origin

  pub stepped_of : (r : Result Bool Limit) → Tried base e r m n
      → IfOk r (λ done. Stepped (schedules (origin_of m base)) done e (state_seen m) (state_seen n) (events_since m base) (events_since n base))
  stepped_of (Ok true) t = (t.next, t.since)
  stepped_of (Ok false) t = (t.1, t.0.state, t.0.since)
  stepped_of (Err limit) t = tt

  pub err_of : (r : Result Bool Limit) → Tried base e r m n → OnErr r (events_since n base ≡ events_since m base)
  err_of (Ok done) t = tt
  err_of (Err limit) t = t.0.since

  pub refuses_of : (r : Result Bool Limit) → Tried base e r m n → IfErr r (RefusesStep (longest_after (origin_of m base)) (events_since m base))
  refuses_of (Ok done) t = tt
  refuses_of (Err limit) t = t.1

module _ (m n : Machine) (base : ℕ) where
  pub back_stands : (r : Result (Unit {0}) Limit) → Returned base r m n → StandsSince n base
  back_stands (Ok done) t = t.stands
  back_stands (Err limit) t = t.0.stands

  pub back_origin : (r : Result (Unit {0}) Limit) → Returned base r m n → origin_of n base ≡ origin_of m base
  back_origin (Ok done) t = t.origin
  back_origin (Err limit) t = t.0.origin

  pub back_log : (r : Result (Unit {0}) Limit) → Returned base r m n → OnOk r (events_since n base ≡ drop 1 (events_since m base))
  back_log (Ok done) t = t.since
  back_log (Err limit) t = tt

  pub back_err : (r : Result (Unit {0}) Limit) → Returned base r m n → OnErr r (events_since n base ≡ events_since m base)
  back_err (Ok done) t = tt
  back_err (Err limit) t = t.0.since

  pub back_refuses : (r : Result (Unit {0}) Limit) → Returned base r m n → IfErr r RefusesBack
  back_refuses (Ok done) t = tt
  back_refuses (Err limit) t = t.1

pub returned_none : (m : Machine) (base : ℕ) (since : StandsSince m base) → length (events_at m) ≤ base → Returned base (Ok tt) m m
returned_none m base since h =
    let w = since.within in
    record { stands = since; origin = refl; since = at_base m base since (omega (arith, h, w)); apart = λ front r is. apart_itself r (state_seen m) }

pub returned_err : (m n : Machine) (base : ℕ) (since : StandsSince m base) (r : Result StepId BackRefused) (why : BackRefused) → r ≡ Err why
    → Undone (program_at (store_of m)) since.is.world r n → (q : Result (Unit {0}) Limit) → q ≡ Err Back → Returned base q m n
returned_err m n base since r why h u q k = subst (λ x. Returned base x m n) (sym k) (not_back m n base since r why h u, tt)

-- a fact is told by true, and what is not one by false
pub is_told : {P : Type 0} → P → IsTrue true ↔ P
is_told p = (λ h. p, λ q. refl)

pub not_told : {P : Type 0} → (P → ⊥) → IsTrue false ↔ P
not_told n = (λ h. let e : false ≡ true = h in cc, λ p. absurd (n p))

-- as many events as records
pub as_many : (m : Machine) → length (events_at m) ≡ length (machines.steps_of m)
as_many m = count (machines.steps_of m)
  where
    count : (rs : List Record) → length (map event_of rs) ≡ length rs
    count [] = refl
    count (r ∷ rs) = ap suc (count rs)

-- whose turn it is, is ready
ready_of : (s : State) (last : Option (List ℕ)) (g : List ℕ) → HasTurn s last g → IsReady s g
ready_of s None g t = t.holds
ready_of s (Some last) g (inl t) = t.holds.0
ready_of s (Some last) g (inr t) = t.1.holds

module _ (m : Machine) (is : IsMachine m) (o : Option (List ℕ)) (turn : (p : Program) (w : Timeline p) → Stands p w m → IsTurn w.past.state (last_owner p w.past.log) o) where
  turn_here : IsTurn (state_seen m) (last_owner (program_at (store_of m)) is.world.past.log) o
  turn_here =
      let p = program_at (store_of m) in
      subst (λ s. IsTurn s (last_owner p is.world.past.log) o) (sym (seen_as p is.world m is.stands).state_is) (turn p is.world is.stands)

  pub turn_some : (g : List ℕ) → o ≡ Some g → ((h : List ℕ) → IsReady (state_seen m) h → ⊥) → ⊥
  turn_some g e none =
      let last = last_owner (program_at (store_of m)) is.world.past.log in
      none g (ready_of (state_seen m) last g (subst (IsTurn (state_seen m) last) e turn_here))

  pub turn_none : o ≡ None → (h : List ℕ) → IsReady (state_seen m) h → ⊥
  turn_none e = subst (IsTurn (state_seen m) (last_owner (program_at (store_of m)) is.world.past.log)) e turn_here

-- a run that does not go on is bad where it is stopped by a fault
pub bad_if_faulted : (m : Machine) (f : Fault) → (state_seen m).run ≡ faulted f → IsBad (state_seen m)
bad_if_faulted m f e = inl (f, e)

pub fine_if_ended : (m : Machine) → (state_seen m).run ≡ ended → IsBad (state_seen m) → ⊥
fine_if_ended m e (inl b) = let h : ended ≡ faulted b.0 = sym e ∙ b.1 in cc
fine_if_ended m e (inr b) = let h : ended ≡ live = sym e ∙ b.0 in cc

pub not_ended_if_faulted : (m : Machine) (f : Fault) → (state_seen m).run ≡ faulted f → (state_seen m).run ≡ ended → ⊥
not_ended_if_faulted m f e h = let k : faulted f ≡ ended = sym e ∙ h in cc

pub not_ended_if_live : (m : Machine) → (state_seen m).run ≡ live → (state_seen m).run ≡ ended → ⊥
not_ended_if_live m e h = let k : live ≡ ended = sym e ∙ h in cc

pub bad_if_stuck : (m : Machine) (r : Bool) → (state_seen m).run ≡ live → IsTrue r ↔ ((g : List ℕ) → IsReady (state_seen m) g → ⊥) → IsTrue r ↔ IsBad (state_seen m)
bad_if_stuck m r e w = (λ h. inr (e, w.0 h), λ b. elim b [ inl f ↦ absurd (let h : live ≡ faulted f.0 = sym e ∙ f.1 in not_fault f.0 h) | inr s ↦ w.1 s.1 ])
  where
    not_fault : (f : Fault) → live ≡ faulted f → ⊥
    not_fault f h = cc

pub returned_ok : (m n : Machine) (base : ℕ) (q : Result (Unit {0}) Limit) → q ≡ Ok tt → Retreats m n base → Returned base q m n
returned_ok m n base q k r = subst (λ x. Returned base x m n) (sym k) r
