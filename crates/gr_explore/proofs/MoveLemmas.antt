-- Where a machine stands along a list of events.
use Rattle.std.proofs.Common.{◌≡◌, ◌≤◌, ◌-◌, ℕ, zero, suc, List, [], ◌∷◌, ◌++◌, take, drop, length, Result, Ok, Err, OnOk, refl, sym, ◌∙◌, ap, subst, arith}
use Rattle.std.proofs.lemmas.List.{map-append, length-take-le}
use Rattle.gr_base.specs.declared.events.Event.{Event}
use Rattle.gr_program.specs.Programs.{Program}
use Rattle.gr_laws.specs.Reached.{Logged}
use Rattle.gr_step.specs.declared.refusal.StepRefused.{StepRefused}
use Rattle.gr_step.specs.Stores.{program_at}
use Rattle.gr_rollback.specs.declared.machine.Machine.{Machine}
use Rattle.gr_rollback.specs.declared.stepped.Stepped.{Stepped as Told}
use Rattle.gr_rollback.specs.Machines.{store_of, Stands, IsMachine}
use Rattle.gr_rollback.specs.Pasts.{Timeline, events_in}
use Rattle.gr_rollback.specs.Steps.{Taken}
use Rattle.gr_search.specs.declared.searched.Limit.{Limit}
use Rattle.gr_schedules.specs.Schedules.{Origin, state_after}
use Rattle.gr_schedules.proofs.ScheduleLemmas.{state_led}
use Rattle.gr_explore.specs.Exploring.{events_at, origin_of, events_since, StandsSince, StandsAgain}
use Rattle.gr_explore.specs.Leading.{seen_as, both_parts}
use Rattle.gr_explore.specs.Blaming.{IsOf, StandsAlong, GoesOn}
use Rattle.gr_explore.proofs.ListLemmas.{same_newest}
use Rattle.gr_explore.proofs.MachineLemmas.{is_machine, joined}
use Rattle.gr_explore.proofs.EndLemmas.{same_past}

take_first : {A : Type 0} (xs ys : List A) → take (length xs) (xs ++ ys) ≡ xs
take_first [] ys = refl
take_first (x ∷ xs) ys = ap (λ zs. x ∷ zs) (take_first xs ys)

pub take_whole : {A : Type 0} (xs : List A) → take (length xs) xs ≡ xs
take_whole [] = refl
take_whole (x ∷ xs) = ap (λ ys. x ∷ ys) (take_whole xs)

no_more : {A : Type 0} (xs : List A) → xs ++ [] ≡ xs
no_more [] = refl
no_more (x ∷ xs) = ap (λ ys. x ∷ ys) (no_more xs)

take_less : {A : Type 0} (n k : ℕ) (xs : List A) → n ≤ k → take n (take k xs) ≡ take n xs
take_less zero k xs h = refl
take_less (suc n) zero xs h = absurd (omega (arith, h))
take_less (suc n) (suc k) [] h = refl
take_less (suc n) (suc k) (x ∷ xs) h = ap (λ ys. x ∷ ys) (take_less n k xs (omega (arith, h)))

take_none : {A : Type 0} (n : ℕ) (xs : List A) → xs ≡ [] → take n xs ≡ []
take_none zero xs h = refl
take_none (suc n) [] h = refl
take_none (suc n) (x ∷ xs) h = cc

take_more : {A : Type 0} (n k : ℕ) (xs : List A) → n ≤ k → take n xs ++ take (k - n) (drop n xs) ≡ take k xs
take_more zero k xs h = let e : k - 0 ≡ k = omega arith in ap (λ m. take m xs) e
take_more (suc n) zero xs h = absurd (omega (arith, h))
take_more (suc n) (suc k) [] h = take_none (suc k - suc n) [] refl
take_more (suc n) (suc k) (x ∷ xs) h =
    let e : suc k - suc n ≡ k - n = omega arith in
    ap (λ m. x ∷ (take n xs ++ take m (drop n xs))) e ∙ ap (λ ys. x ∷ ys) (take_more n k xs (omega (arith, h)))

length_append : {A : Type 0} (xs ys : List A) → length xs ≤ length (xs ++ ys)
length_append [] ys = omega arith
length_append (x ∷ xs) ys = let h = length_append xs ys in omega (arith, h)

-- the state in which a machine stands is that after its events
pub state_here : (p : Program) (w : Timeline p) (m : Machine) → Stands p w m → w.past.state ≡ state_after p (events_at m)
state_here p w m s = let seen = seen_as p w m s in sym (ap (state_after p) seen.events_are ∙ state_led p w.past.log w.past.state seen.run)

pub is_of : (p : Program) (w : Timeline p) (m : Machine) → Stands p w m → IsOf p m
is_of p w m s = record { is = is_machine p w m s; program = (seen_as p w m s).program_is }

-- steps more
pub goes_on : (p : Program) (w v : Timeline p) (m n : Machine) (more : List (Logged p)) → program_at (store_of m) ≡ p → Stands p w m → Stands p v n → v.past.log ≡ w.past.log ++ more → GoesOn m n
goes_on p w v m n more q s t l =
    let events : events_at n ≡ events_at m ++ events_in p more =
    (seen_as p v n t).events_are ∙ ap (events_in p) l ∙ map-append (λ (r : Logged p). r.event) w.past.log more ∙ ap (λ es. es ++ events_in p more) (sym (seen_as p w m s).events_are) in
    record {
      of = subst (λ x. IsOf x n) (sym q) (is_of p v n t);
      longer = subst (λ es. length (events_at m) ≤ length es) (sym events) (length_append (events_at m) (events_in p more));
      first = ap (take (length (events_at m))) events ∙ take_first (events_at m) (events_in p more);
    }

pub stays_on : (p : Program) (w v : Timeline p) (m n : Machine) → program_at (store_of m) ≡ p → Stands p w m → Stands p v n → v.past.log ≡ w.past.log → GoesOn m n
stays_on p w v m n q s t l = goes_on p w v m n [] q s t (l ∙ sym (no_more w.past.log))

-- steps were taken back
module _ (m n : Machine) (place there : ℕ) (since : StandsSince n there) (at : there ≡ place) (same : origin_of n there ≡ origin_of m place) where
  pub still_of : IsOf (program_at (store_of m)) n
  still_of = record { is = since.is; program = ap (λ (o : Origin). o.program) same }

  pub went_back : events_since n there ≡ [] → events_at n ≡ take place (events_at m)
  went_back none =
      let nothing : drop there (events_at n) ≡ [] = same_newest (drop there (events_at n)) [] none in
      both_parts there (events_at n) ∙ ap (λ xs. take there (events_at n) ++ xs) nothing ∙ no_more (take there (events_at n)) ∙ ap (λ (o : Origin). o.before) same

  pub if_home : (r : Result (Unit {0}) Limit) → OnOk r (events_since n there ≡ []) → OnOk r (events_at n ≡ take place (events_at m))
  if_home (Ok done) h = went_back h
  if_home (Err limit) h = tt

-- a step was taken again, or refused
module _ (m n : Machine) (is : IsMachine m) (e : Event) (r : Result Told StepRefused) (taken : Taken (program_at (store_of m)) is.world e r n) where
  pub again_of : (told : Told) → r ≡ Ok told → IsOf (program_at (store_of m)) n
  again_of told h = let P : Result Told StepRefused → Type 0 = λ x. Taken (program_at (store_of m)) is.world e x n in is_of (program_at (store_of m)) _ n (subst P h taken).stands

  pub refused_of : (why : StepRefused) → r ≡ Err why → IsOf (program_at (store_of m)) n
  refused_of why h = let P : Result Told StepRefused → Type 0 = λ x. Taken (program_at (store_of m)) is.world e x n in is_of (program_at (store_of m)) _ n (subst P h taken).1

  pub again_events : (told : Told) → r ≡ Ok told → events_at n ≡ events_at m ++ e ∷ []
  again_events told h =
      let p = program_at (store_of m) in
      let P : Result Told StepRefused → Type 0 = λ x. Taken p is.world e x n in
      let t = subst P h taken in
      joined p is.world.past.log t.step e (events_at m) (events_at n) t.joins.event (seen_as p is.world m is.stands).events_are (seen_as p _ n t.stands).events_are

-- where it moves to
module _ (events : List Event) (m : Machine) (along : StandsAlong events m) (place : ℕ) where
  pub back_along : place ≤ length (events_at m) → take place (events_at m) ≡ take place events
  back_along h = ap (take place) along ∙ take_less place (length (events_at m)) events h

  pub forth_along : (taken : ℕ) → taken ≡ length (events_at m) → taken ≤ place → events_at m ++ take (place - taken) (drop taken events) ≡ take place events
  forth_along taken is h = ap (λ xs. xs ++ take (place - taken) (drop taken events)) (along ∙ ap (λ k. take k events) (sym is)) ∙ take_more taken place events h

  pub went_forth : (n : Machine) (taken : ℕ) → taken ≡ length (events_at m) → taken ≤ place → (r : Result (Unit {0}) Limit)
      → OnOk r (events_at n ≡ events_at m ++ take (place - taken) (drop taken events)) → OnOk r (events_at n ≡ take place events)
  went_forth n taken is less (Ok done) h = h ∙ forth_along taken is less
  went_forth n taken is less (Err limit) h = tt

-- a machine that has so many of the events stands along them
pub along_by : (events : List Event) (m : Machine) (place : ℕ) → place ≤ length events → events_at m ≡ take place events → StandsAlong events m
along_by events m place h e = let l : length (events_at m) ≡ place = ap length e ∙ length-take-le place events h in e ∙ ap (λ k. take k events) (sym l)

-- a machine of the program with the same events stands where the other did
pub stands_again : (p : Program) (w : Timeline p) (m n : Machine) → Stands p w m → IsOf p n → events_at n ≡ events_at m → StandsAgain p w n
stands_again p w m n s of e =
    let now : (v : Timeline p) × Stands p v n = subst (λ q. (v : Timeline q) × Stands q v n) of.program (of.is.world, of.is.stands) in
    let a = seen_as p w m s in
    let b = seen_as p now.0 n now.1 in
    let one : now.0.past ≡ w.past = same_past p now.0.past w.past b.run a.run (sym b.events_are ∙ e ∙ a.events_are) in
    record { again = now.0.again; stands = subst (λ x. Stands p (record { past = x; again = now.0.again }) n) one now.1 }
