-- Machines that stand, as they are seen.
use Rattle.std.proofs.Common.{◌≡◌, ◌∙◌, ℕ, take, drop, length, Some, sym, ap, subst}
use Rattle.std.proofs.lemmas.List.{length-map, take-append-drop, take-map}
use Rattle.gr_causal.proofs.PathLemmas.{log_split}
use Rattle.gr_causal.specs.Machine.{replay}
use Rattle.gr_follow.specs.Following.{IsOf, StandsAfter, events_at}
use Rattle.gr_laws.specs.Reached.{Logged, IsRun}
use Rattle.gr_program.specs.Programs.{Program}
use Rattle.gr_record.proofs.KeptLemmas.{kept_is_run}
use Rattle.gr_rollback.proofs.KeptLemmas.{events_alike}
use Rattle.gr_rollback.specs.declared.machine.Machine.{Machine}
use Rattle.gr_rollback.specs.Machines.{Stands, steps_of, store_of}
use Rattle.gr_rollback.specs.Pasts.{Past, Timeline, events_in}
use Rattle.gr_rules.specs.States.{start}
use Rattle.gr_rules.specs.Steps.{machine}
use Rattle.gr_step.specs.Records.{event_of}
use Rattle.gr_step.specs.Stores.{program_at, contents_at}

-- a machine that stands is one of the program
pub is_of : (p : Program) (w : Timeline p) (m : Machine) → Stands p w m → IsOf p m
is_of p w m s =
    let x = subst (λ q. (w : Timeline q) × Stands q w m) (sym s.holds.program) (w, s) in
    record { is = record { world = x.0; stands = x.1 }; program = s.holds.program }

-- its events are those of its steps
pub events_are : (p : Program) (w : Timeline p) (m : Machine) → Stands p w m → events_at m ≡ events_in p w.past.log
events_are p w m s = events_alike p s.holds.begins (steps_of m) w.past.log (contents_at (store_of m)) s.holds.kept

-- its steps lead to its state
runs : (p : Program) (w : Timeline p) (m : Machine) → Stands p w m → IsRun p w.past.log w.past.state
runs p w m s =
    let h = s.holds in
    subst (IsRun p w.past.log) (sym h.state) (kept_is_run p h.begins (contents_at (store_of m)) (steps_of m) w.past.log h.begun.state h.kept)

-- as many events as steps
pub as_many : (m : Machine) → length (events_at m) ≡ length (steps_of m)
as_many m = length-map (steps_of m) event_of

some_is : {A : Type 0} (a b : A) → Some a ≡ Some b → a ≡ b
some_is a b e = cc

-- runs by the same events are the same
same_past : (p : Program) (a b : Past p) → IsRun p a.log a.state → IsRun p b.log b.state → events_in p a.log ≡ events_in p b.log → a ≡ b
same_past p a b ra rb e =
    let both : (a.state, a.log) ≡ (b.state, b.log) = some_is _ _ (sym ra ∙ ap (λ es. replay (machine p) (start p) es) e ∙ rb) in
    λ i. record { log = (both i).1; state = (both i).0 }

-- a machine of the same program that has the first of another's events stands where they lead
pub stands_after : (p : Program) (w : Timeline p) (m n : Machine) (k : ℕ) → Stands p w m → IsOf (program_at (store_of m)) n
    → events_at n ≡ take k (events_at m) → StandsAfter p w.past.log k n
stands_after p w m n k s of e =
    let now : (v : Timeline p) × Stands p v n = subst (λ q. (v : Timeline q) × Stands q v n) (of.program ∙ s.holds.program) (of.is.world, of.is.stands) in
    let led = log_split (machine p) (start p) (take k w.past.log) (drop k w.past.log) w.past.state
    (subst (λ log. IsRun p log w.past.state) (sym (take-append-drop k w.past.log)) (runs p w m s)) in
    let there : Past p = record { log = take k w.past.log; state = led.0 } in
    let same : events_in p now.0.past.log ≡ events_in p there.log =
    sym (events_are p now.0 n now.1) ∙ e ∙ ap (take k) (events_are p w m s) ∙ take-map (λ (r : Logged p). r.event) k w.past.log in
    let one : now.0.past ≡ there = same_past p now.0.past there (runs p now.0 n now.1) led.1 same in
    record {
      state = led.0;
      again = now.0.again;
      run = led.1;
      stands = subst (λ x. Stands p (record { past = x; again = now.0.again }) n) one now.1;
    }

-- a machine that stands where the first of another's steps led has their events
pub after_events : (p : Program) (w : Timeline p) (m n : Machine) (k : ℕ) → Stands p w m → StandsAfter p w.past.log k n
    → events_at n ≡ take k (events_at m)
after_events p w m n k s there =
    events_are p _ n there.stands ∙ sym (take-map (λ (r : Logged p). r.event) k w.past.log) ∙ ap (take k) (sym (events_are p w m s))
