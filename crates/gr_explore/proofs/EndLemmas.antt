-- Where an exploration leaves its machine.
use Rattle.std.proofs.Common.{◌≡◌, ◌+◌, ℕ, List, [], ◌∷◌, ◌++◌, take, drop, length, Option, Some, None, IfSome, refl, sym, ◌∙◌, ap, subst, arith}
use Rattle.std.proofs.lemmas.List.{map-append}
use Rattle.gr_base.specs.declared.events.Event.{Event}
use Rattle.gr_causal.specs.Machine.{IsLog, replay}
use Rattle.gr_causal.proofs.PathLemmas.{log_join}
use Rattle.gr_program.specs.Programs.{Program}
use Rattle.gr_rules.specs.States.{State, start}
use Rattle.gr_rules.specs.Steps.{machine}
use Rattle.gr_laws.specs.Reached.{Logged, IsRun}
use Rattle.gr_step.specs.Stores.{program_at}
use Rattle.gr_rollback.specs.declared.machine.Machine.{Machine}
use Rattle.gr_rollback.specs.Machines.{store_of, steps_of, Stands, IsMachine}
use Rattle.gr_rollback.specs.Pasts.{Past, Timeline, events_in}
use Rattle.gr_search.specs.System.{System, IsSafe, Leads}
use Rattle.gr_search.specs.Bounds.{IsSafeWithin, IsFewest, HasBad}
use Rattle.gr_search.specs.Shortest as shortest
use Rattle.gr_search.specs.declared.shortest.Shortest.{Shortest}
use Rattle.gr_search.specs.declared.shortest.Shortest.TheVariants as shortests
use Rattle.gr_search.specs.declared.shortest.Unfinished.{Unfinished}
use Rattle.gr_search.specs.Going as search
use Rattle.gr_search.specs.Going.{HasClosed}
use Rattle.gr_search.specs.declared.search.Answer.{Answer}
use Rattle.gr_search.specs.declared.search.Answer.TheVariants.{Nothing, Found, Limited}
use Rattle.gr_search.specs.declared.searched.Limit.TheVariants.{Memory, Steps, States, Turns, Back}
use Rattle.gr_schedules.specs.declared.Aim.{Aim}
use Rattle.gr_schedules.specs.Matters.{Matter}
use Rattle.gr_schedules.specs.Schedules.{Origin, schedules, state_after}
use Rattle.gr_schedules.specs.Aims.{IsAim, NoneComes, NoneComesWithin, SomeComesBy, schedules_to}
use Rattle.gr_schedules.proofs.ScheduleLemmas.{Led, led_by, state_led}
use Rattle.gr_schedules.proofs.AimLemmas.{none_comes, none_comes_within, some_comes, led_to, led_long}
use Rattle.gr_explore.specs.Exploring.{events_at, origin_of, events_since, state_seen, StandsSince, StandsOn, ComesTo, StandsAgain, IsHome}
use Rattle.gr_explore.specs.Fewest.{ComesByFewest, IsKnownOf, IsHomeAfter}
use Rattle.gr_explore.specs.Leading.{Seen, seen_as, both_parts, since_leads}
use Rattle.gr_explore.proofs.ListLemmas.{same_newest}
use Rattle.gr_explore.proofs.StepLemmas.{as_many}

some_is : {A : Type 0} (a b : A) → Some a ≡ Some b → a ≡ b
some_is a b e = cc

take_all : {A : Type 0} (xs : List A) (n : ℕ) → n ≡ length xs → take n xs ≡ xs
take_all xs n h = ap (λ k. take k xs) h ∙ all xs
  where
    all : {A : Type 0} (ys : List A) → take (length ys) ys ≡ ys
    all [] = refl
    all (y ∷ ys) = ap (λ zs. y ∷ zs) (all ys)

-- runs by the same events are the same
pub same_past : (p : Program) (a b : Past p) → IsRun p a.log a.state → IsRun p b.log b.state → events_in p a.log ≡ events_in p b.log → a ≡ b
same_past p a b ra rb e =
    let both : (a.state, a.log) ≡ (b.state, b.log) = some_is _ _ (sym ra ∙ ap (λ es. replay (machine p) (start p) es) e ∙ rb) in
    λ i. record { log = (both i).1; state = (both i).0 }

module _ (m n : Machine) (base : ℕ) (all : base ≡ length (steps_of m)) (is : IsMachine m) (since : StandsSince n base) (same : origin_of n base ≡ origin_of m base) where
  abbrev p : Program
  p = program_at (store_of m)

  abbrev w : Timeline p
  w = is.world

  seen : Seen p w m
  seen = seen_as p w m is.stands

  all_events : base ≡ length (events_at m)
  all_events = all ∙ sym (as_many m)

  program_same : program_at (store_of n) ≡ p
  program_same = ap (λ (o : Origin). o.program) same

  before_same : take base (events_at n) ≡ events_at m
  before_same = ap (λ (o : Origin). o.before) same ∙ take_all (events_at m) base all_events

  -- the world in which the machine stands now
  now : (v : Timeline p) × Stands p v n
  now = subst (λ q. (v : Timeline q) × Stands q v n) program_same (since.is.world, since.is.stands)

  begins_at : state_after p (take base (events_at m)) ≡ w.past.state
  begins_at = ap (state_after p) (take_all (events_at m) base all_events ∙ seen.events_are) ∙ state_led p w.past.log w.past.state seen.run

  -- it stands in a past of the same program with these events
  stands_in : (past : Past p) → IsRun p past.log past.state → events_at n ≡ events_in p past.log → (again : List Event) × Stands p (record { past = past; again = again }) n
  stands_in past run e =
      let v = now in
      let s = seen_as p v.0 n v.1 in
      let one : v.0.past ≡ past = same_past p v.0.past past s.run run (sym s.events_are ∙ e) in
      (v.0.again, subst (λ x. Stands p (record { past = x; again = v.0.again }) n) one v.1)

  pub home : events_since n base ≡ [] → StandsAgain p w n
  home none =
      let nothing : drop base (events_at n) ≡ [] = same_newest (drop base (events_at n)) [] none in
      let events : events_at n ≡ events_at m = both_parts base (events_at n) ∙ ap (λ xs. xs ++ drop base (events_at n)) before_same ∙ ap (λ xs. events_at m ++ xs) nothing ∙ no_more (events_at m) in
      let s = stands_in w.past seen.run (events ∙ seen.events_are) in
      record { again = s.0; stands = s.1 }
    where
      no_more : (xs : List Event) → xs ++ [] ≡ xs
      no_more [] = refl
      no_more (x ∷ xs) = ap (λ ys. x ∷ ys) (no_more xs)

  on_by : (led : Led (origin_of m base) (events_since n base) (state_seen n)) → (o : StandsOn p w n) × (o.steps ≡ led.steps) × (o.state ≡ state_seen n)
  on_by led =
      let since_is : drop base (events_at n) ≡ events_in p led.steps = sym (same_newest (events_in p led.steps) (drop base (events_at n)) led.events_are) in
      let on : IsLog (machine p) w.past.state led.steps (state_seen n) = subst (λ x. IsLog (machine p) x led.steps (state_seen n)) begins_at led.leads in
      let past : Past p = record { log = w.past.log ++ led.steps; state = state_seen n } in
      let events : events_at n ≡ events_in p past.log =
      both_parts base (events_at n) ∙ ap (λ xs. xs ++ drop base (events_at n)) (before_same ∙ seen.events_are) ∙ ap (λ xs. events_in p w.past.log ++ xs) since_is
      ∙ sym (map-append (λ (r : Logged p). r.event) w.past.log led.steps) in
      let s = stands_in past (log_join (machine p) (start p) w.past.state (state_seen n) w.past.log led.steps seen.run on) events in
      (record { steps = led.steps; state = state_seen n; leads = on; again = s.0; stands = s.1 }, refl, refl)

  stands_on : StandsOn p w n
  stands_on =
      let leads : Leads (schedules (origin_of m base)) (events_since n base) (state_seen n) =
      subst (λ o. Leads (schedules o) (events_since n base) (state_seen n)) same (since_leads n base since) in
      (on_by (led_by (origin_of m base) (events_since n base) (state_seen n) leads)).0

  module _ (aim : Aim) where
    abbrev goal : System State Event Matter
    goal = schedules_to aim (origin_of m base)

    comes : (led : Led (origin_of m base) (events_since n base) (state_seen n)) → IsAim aim (state_seen n) → (c : ComesTo aim p w n) × (c.steps ≡ led.steps)
    comes led at =
        let o = on_by led in
        (record { steps = o.0.steps; state = o.0.state; leads = o.0.leads; comes = subst (IsAim aim) (sym o.2) at; again = o.0.again; stands = o.0.stands }, o.1)

    pub comes_to : Leads goal (events_since n base) (state_seen n) → IsAim aim (state_seen n) → ComesTo aim p w n
    comes_to leads at = (comes (led_to aim (origin_of m base) (events_since n base) (state_seen n) leads) at).0

    pub none_within : (k : ℕ) → IsSafeWithin goal k → NoneComesWithin aim p k w.past.state
    none_within k safe = subst (NoneComesWithin aim p k) begins_at (none_comes_within aim (origin_of m base) k safe)

    pub comes_by_fewest : Leads goal (events_since n base) (state_seen n) → IsAim aim (state_seen n) → IsFewest goal (events_since n base) → ComesByFewest aim p w n
    comes_by_fewest leads at few =
        let led = led_to aim (origin_of m base) (events_since n base) (state_seen n) leads in
        let c = comes led at in
        let long = led_long aim (origin_of m base) (events_since n base) (state_seen n) led in
        record {
          come = c.0;
          fewest = λ k less. none_within k (few k (let e = ap length c.1 in omega (arith, less, long, e)));
        }

    pub none_at_all : IsSafe goal → NoneComes aim p w.past.state
    none_at_all safe = subst (NoneComes aim p) begins_at (none_comes aim (origin_of m base) safe)

    known_by : (o : Option ℕ) → IfSome o (HasBad goal) → IfSome o (λ k. SomeComesBy aim p k w.past.state)
    known_by None h = h
    known_by (Some k) h = subst (SomeComesBy aim p k) begins_at (some_comes aim (origin_of m base) k h)

    pub is_known : (u : Unfinished) → IsSafeWithin goal u.safe → IfSome u.known (HasBad goal) → IsKnownOf aim p w.past.state u
    is_known u safe known = record { safe = none_within u.safe safe; known = known_by u.known known }

  pub is_home : (answer : Answer) → search.IsHome answer (events_since n base) → IsHome p w answer n
  is_home Found h = tt
  is_home (Nothing states) h = home h
  is_home (Limited Back) h = stands_on
  is_home (Limited Memory) h = home h
  is_home (Limited Steps) h = home h
  is_home (Limited States) h = home h
  is_home (Limited Turns) h = home h

-- what is shown at the program of the machine holds at every world in which it stands
module _ (m : Machine) (is : IsMachine m) (P : (p : Program) → Timeline p → Type 0) where
  pub at_each : ((w : Timeline (program_at (store_of m))) → Stands (program_at (store_of m)) w m → P (program_at (store_of m)) w) → (p : Program) (w : Timeline p) → Stands p w m → P p w
  at_each f p w s = subst (λ q. (v : Timeline q) → Stands q v m → P q v) s.holds.program f w s

-- what a search that began where the machine stood, and is done, says of each world in which it stood
module _ (m n : Machine) (base there : ℕ) (all : base ≡ length (steps_of m)) (is : IsMachine m) (since : StandsSince n there) (at : there ≡ base) (same : origin_of n there ≡ origin_of m base) where
  here : StandsSince n base
  here = subst (StandsSince n) at since

  same_here : origin_of n base ≡ origin_of m base
  same_here = subst (λ k. origin_of n k ≡ origin_of m base) at same

  module _ (aim : Aim) where
    abbrev looked : System State Event Matter
    looked = schedules_to aim (origin_of m base)

    leads_here : Leads looked (events_since n there) (state_seen n) → Leads looked (events_since n base) (state_seen n)
    leads_here leads = subst (λ k. Leads looked (events_since n k) (state_seen n)) at leads

    pub nothing_found : IsSafe looked → (p : Program) (w : Timeline p) → Stands p w m → NoneComes aim p w.past.state
    nothing_found safe =
        at_each m is (λ p w. NoneComes aim p w.past.state) (λ w s. none_at_all m n base all (record { world = w; stands = s }) here same_here aim safe)

    pub found : Leads looked (events_since n there) (state_seen n) → IsAim aim (state_seen n) → (p : Program) (w : Timeline p) → Stands p w m → ComesTo aim p w n
    found leads reached =
        at_each m is (λ p w. ComesTo aim p w n) (λ w s. comes_to m n base all (record { world = w; stands = s }) here same_here aim (leads_here leads) reached)

    pub fewest_found : Leads looked (events_since n there) (state_seen n) → IsAim aim (state_seen n) → IsFewest looked (events_since n there) → (p : Program) (w : Timeline p) → Stands p w m
        → ComesByFewest aim p w n
    fewest_found leads reached few =
        at_each m is (λ p w. ComesByFewest aim p w n) (λ w s. comes_by_fewest m n base all (record { world = w; stands = s }) here same_here aim (leads_here leads) reached
        (subst (λ k. IsFewest looked (events_since n k)) at few))

    pub known_found : (u : Unfinished) → IsSafeWithin looked u.safe → IfSome u.known (HasBad looked) → (p : Program) (w : Timeline p) → Stands p w m → IsKnownOf aim p w.past.state u
    known_found u safe known =
        at_each m is (λ p w. IsKnownOf aim p w.past.state u) (λ w s. is_known m n base all (record { world = w; stands = s }) here same_here aim u safe known)

  pub all_home : (answer : Answer) → search.IsHome answer (events_since n there) → (p : Program) (w : Timeline p) → Stands p w m → IsHome p w answer n
  all_home answer h =
      at_each m is (λ p w. IsHome p w answer n) (λ w s. is_home m n base all (record { world = w; stands = s }) here same_here answer
      (subst (λ k. search.IsHome answer (events_since n k)) at h))

  -- what each end of a search for the fewest steps says
  module _ (aim : Aim) (means : List ℕ → Matter → Type 0) (offers : State → List Event → Type 0) (longest states turns : ℕ) where
    abbrev Ends : Shortest → Type 0
    Ends r = shortest.IsShortest (schedules_to aim (origin_of m base)) means offers longest states turns r (events_since n there) (state_seen n)

    pub shortest_nothing : (r : Shortest) → Ends r → (count : ℕ) → r ≡ shortests.Nothing count → (p : Program) (w : Timeline p) → Stands p w m → NoneComes aim p w.past.state
    shortest_nothing r h count e = nothing_found aim (subst Ends e h).0

    pub shortest_closed : (r : Shortest) → Ends r → (count : ℕ) → r ≡ shortests.Nothing count → HasClosed (schedules_to aim (origin_of m base)) means count
    shortest_closed r h count e = (subst Ends e h).1

    pub shortest_found : (r : Shortest) → Ends r → Leads (schedules_to aim (origin_of m base)) (events_since n there) (state_seen n) → r ≡ shortests.Found
        → (p : Program) (w : Timeline p) → Stands p w m → ComesByFewest aim p w n
    shortest_found r h leads e = let x = subst Ends e h in fewest_found aim leads x.0 x.1

    pub shortest_known : (r : Shortest) → Ends r → (u : Unfinished) → r ≡ shortests.Limited u → (p : Program) (w : Timeline p) → Stands p w m → IsKnownOf aim p w.past.state u
    shortest_known r h u e = let x = subst Ends e h in known_found aim u x.0.safe x.0.known

    pub shortest_cut : (r : Shortest) → Ends r → (u : Unfinished) → r ≡ shortests.Limited u
        → shortest.IsCut (schedules_to aim (origin_of m base)) means offers longest states turns (u.safe + 1) u.limit
    shortest_cut r h u e = let x = subst Ends e h in x.0.met

    pub shortest_home : (r : Shortest) → Ends r → (p : Program) (w : Timeline p) → Stands p w m → IsHomeAfter p w r n
    shortest_home (shortests.Nothing count) h = all_home (Nothing count) h.2
    shortest_home shortests.Found h = λ p w s. tt
    shortest_home (shortests.Limited u) h = all_home (Limited u.limit) h.1
