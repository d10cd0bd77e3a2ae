-- Machines as they are seen, after steps forward and back.
use Rattle.std.proofs.Common.{◌≡◌, ◌≤◌, ℕ, List, [], ◌∷◌, ◌++◌, take, drop, length, Some, option_map, refl, sym, ◌∙◌, ap, subst}
use Rattle.std.proofs.lemmas.List.{map-append}
use Rattle.gr_base.specs.declared.events.Event.{Event}
use Rattle.gr_causal.specs.Machine.{IsLog}
use Rattle.gr_causal.proofs.PathLemmas.{path_of}
use Rattle.gr_program.specs.Programs.{Program}
use Rattle.gr_rules.specs.States.{State}
use Rattle.gr_rules.specs.Steps.{machine}
use Rattle.gr_laws.specs.Reached.{Logged}
use Rattle.gr_step.specs.Stores.{program_at}
use Rattle.gr_rollback.specs.declared.machine.Machine.{Machine}
use Rattle.gr_rollback.specs.declared.stepped.Stepped.{Stepped as Told}
use Rattle.gr_rollback.specs.Machines.{store_of, Stands, IsMachine}
use Rattle.gr_rollback.specs.Pasts.{Timeline, events_in}
use Rattle.gr_rollback.specs.Steps.{Takes}
use Rattle.gr_schedules.specs.Schedules.{next_state, newest_first}
use Rattle.gr_explore.specs.Books.{Apart}
use Rattle.gr_explore.specs.Exploring.{events_at, state_seen, StandsSince}
use Rattle.gr_explore.specs.Leading.{seen_as}
use Rattle.gr_explore.specs.Trying.{Remains, Advances}
use Rattle.gr_explore.proofs.BookLemmas.{apart_at_last}
use Rattle.gr_explore.proofs.ListLemmas.{one_more}

-- a machine that stands is one
pub is_machine : (p : Program) (w : Timeline p) (m : Machine) → Stands p w m → IsMachine m
is_machine p w m s = let x = subst (λ q. (w : Timeline q) × Stands q w m) (sym s.holds.program) (w, s) in record { world = x.0; stands = x.1 }

pub remains : (m n : Machine) (base : ℕ) (since : StandsSince m base) → Stands (program_at (store_of m)) since.is.world n → Remains m n base
remains m n base since s =
    let p = program_at (store_of m) in
    let w = since.is.world in
    let a = seen_as p w m since.is.stands in
    let b = seen_as p w n s in
    let events : events_at n ≡ events_at m = b.events_are ∙ sym a.events_are in
    record {
      stands = record { is = is_machine p w n s; within = subst (λ es. base ≤ length es) (sym events) since.within };
      origin = λ i. record { program = b.program_is i; before = take base (events i) };
      state = b.state_is ∙ sym a.state_is;
      since = ap (λ es. newest_first (drop base es) []) events;
    }

-- one event joins those of a log
pub joined : (p : Program) (log : List (Logged p)) (r : Logged p) (e : Event) (old new : List Event) → r.event ≡ e → old ≡ events_in p log → new ≡ events_in p (log ++ r ∷ []) → new ≡ old ++ e ∷ []
joined p log r e old new is o n = n ∙ map-append (λ (r : Logged p). r.event) log (r ∷ []) ∙ ap (λ es. es ++ r.event ∷ []) (sym o) ∙ ap (λ x. old ++ x ∷ []) is

-- one step of a log is one of the system
next_by : (p : Program) (s t : State) (r : Logged p) → IsLog (machine p) s (r ∷ []) t → next_state p s r.event ≡ Some t
next_by p s t r l =
    let w = path_of (machine p) s (r ∷ []) t l in
    ap (option_map (λ (x : State × (machine p).Note). x.0)) w.1.does ∙ ap Some w.2

pub advances : (m n : Machine) (base : ℕ) (e : Event) (told : Told) (since : StandsSince m base) → Takes (program_at (store_of m)) since.is.world e told n → Advances m n base e
advances m n base e told since takes =
    let p = program_at (store_of m) in
    let w = since.is.world in
    let a = seen_as p w m since.is.stands in
    let b = seen_as p _ n takes.stands in
    let more = one_more (events_at m) (events_at n) e base since.within (joined p w.past.log takes.step e (events_at m) (events_at n) takes.joins.event a.events_are b.events_are) in
    record {
      stands = record { is = is_machine p _ n takes.stands; within = more.within };
      origin = λ i. record { program = b.program_is i; before = more.before i };
      next = ap (λ s. next_state p s e) a.state_is ∙ ap (next_state p w.past.state) (sym takes.joins.event) ∙ next_by p w.past.state takes.state takes.step takes.joins.leads ∙ ap Some (sym b.state_is);
      since = more.since;
      apart = λ front r is. subst (λ s. Apart r s (state_seen n)) (sym a.state_is)
          (apart_at_last p _ n takes.stands front r is w.past.log takes.step refl w.past.state a.run);
    }

pub remains_itself : (m : Machine) (base : ℕ) → StandsSince m base → Remains m m base
remains_itself m base since = record { stands = since; origin = refl; state = refl; since = refl }
