-- Steps that a machine takes, and takes back.
use Rattle.std.proofs.Common.{◌≡◌, ◌∙◌, ◌≤◌, ◌<◌, ◌-◌, ◌+◌, ℕ, zero, suc, List, [], ◌∷◌, ◌++◌, map, take, drop, length, get_or, Result, Ok, Err, refl, sym, ap, subst, arith}
use Rattle.std.proofs.lemmas.List.{drop-map, drop-take, get_or-map, get_or_default, length-map, length-take-le, length_push, map-append, take-append-drop, take-map, take-take, take_at, take_more_same}
use Rattle.gr_base.specs.declared.events.Event.{Event}
use Rattle.gr_base.specs.declared.names.StepId.{StepId}
use Rattle.gr_follow.proofs.StandLemmas.{is_of, events_are}
use Rattle.gr_follow.specs.Following.{IsOf, events_at}
use Rattle.gr_laws.specs.Reached.{Logged}
use Rattle.gr_program.specs.Programs.{Program}
use Rattle.gr_rollback.specs.Backs.{Undone}
use Rattle.gr_rollback.specs.declared.machine.Machine.{Machine}
use Rattle.gr_rollback.specs.declared.refusal.BackRefused.{BackRefused}
use Rattle.gr_rollback.specs.declared.refusal.BackRefused.TheVariants as backs
use Rattle.gr_rollback.specs.declared.stepped.Stepped.{Stepped}
use Rattle.gr_rollback.specs.Machines.{IsMachine, store_of}
use Rattle.gr_rollback.specs.Pasts.{events_in}
use Rattle.gr_rollback.specs.Steps.{Taken}
use Rattle.gr_step.specs.declared.refusal.StepRefused.{StepRefused}
use Rattle.gr_step.specs.Record.{Record}
use Rattle.gr_step.specs.Records.{event_of}
use Rattle.gr_step.specs.Stores.{program_at}

-- one event joins those of a log
joined : (p : Program) (log : List (Logged p)) (r : Logged p) (e : Event) (old new : List Event) → r.event ≡ e → old ≡ events_in p log
    → new ≡ events_in p (log ++ r ∷ []) → new ≡ old ++ e ∷ []
joined p log r e old new is o n =
    n ∙ map-append (λ (r : Logged p). r.event) log (r ∷ []) ∙ ap (λ es. es ++ r.event ∷ []) (sym o) ∙ ap (λ x. old ++ x ∷ []) is

-- what stands before the last
but_last : {A : Type 0} (xs ys : List A) (y : A) → xs ≡ ys ++ y ∷ [] → ys ≡ take (length xs - 1) xs
but_last xs ys y e =
    let n : length ys ≡ length xs - 1 = let l = ap length e in let k = length_push ys y in omega (arith, l, k) in
    sym (ap (take (length xs - 1)) e ∙ take_at ys (y ∷ []) (length xs - 1) n)

module _ (m n : Machine) (is : IsMachine m) where
  abbrev p : Program
  p = program_at (store_of m)

  -- after a step back, or none
  pub back_of : (r : Result StepId BackRefused) → Undone p is.world r n → IsOf p n
  back_of (Ok id) u = is_of p _ n u.stands
  back_of (Err backs.NothingToUndo) u = is_of p is.world n u.1
  back_of (Err (backs.NoMemory ids)) u = is_of p is.world n u.2
  back_of (Err backs.NotKept) u = absurd u
  back_of (Err backs.NotTheSteps) u = absurd u
  back_of (Err (backs.BreaksDependence a b)) u = absurd u
  back_of (Err backs.NothingToRedo) u = absurd u

  pub went_back : (r : Result StepId BackRefused) (id : StepId) → r ≡ Ok id → Undone p is.world r n → events_at n ≡ take (length (events_at m) - 1) (events_at m)
  went_back r id h undone =
      let P : Result StepId BackRefused → Type 0 = λ x. Undone p is.world x n in
      let u = subst P h undone in
      but_last (events_at m) (events_at n) u.step.event
      (joined p u.past.log u.step u.step.event (events_at n) (events_at m) refl (events_are p _ n u.stands) (events_are p is.world m is.stands ∙ ap (events_in p) u.loses.log))

  -- after a step, or none
  module _ (e : Event) where
    pub step_of : (r : Result Stepped StepRefused) → Taken p is.world e r n → IsOf p n
    step_of (Ok told) t = is_of p _ n t.stands
    step_of (Err why) t = is_of p is.world n t.1

    pub went_on : (r : Result Stepped StepRefused) (told : Stepped) → r ≡ Ok told → Taken p is.world e r n → events_at n ≡ events_at m ++ e ∷ []
    went_on r told h taken =
        let P : Result Stepped StepRefused → Type 0 = λ x. Taken p is.world e x n in
        let t = subst P h taken in
        joined p is.world.past.log t.step e (events_at m) (events_at n) t.joins.event (events_are p is.world m is.stands) (events_are p _ n t.stands)

-- the first of the steps, and then those up to a place
pub both : {A B : Type 0} (f : A → B) (xs : List A) (place k : ℕ) → place ≤ k → take place (map f xs) ++ map f (take (k - place) (drop place xs)) ≡ take k (map f xs)
both f xs place k h =
    let n : place + (k - place) ≡ k = omega (arith, h) in
    let a : map f (take (k - place) (drop place xs)) ≡ drop place (take k (map f xs)) =
    ap (map f) (sym (drop-take place (k - place) xs) ∙ ap (λ j. drop place (take j xs)) n) ∙ sym (drop-map f place (take k xs)) ∙ ap (drop place) (sym (take-map f k xs)) in
    ap (λ ys. ys ++ map f (take (k - place) (drop place xs))) (sym (take-take place k (map f xs) h))
    ∙ ap (λ ys. take place (take k (map f xs)) ++ ys) a ∙ take-append-drop place (take k (map f xs))

-- the first events of two logs are the same, up to one more
pub one_more_same : (xs ys : List Record) (i : ℕ) (x y : Record) → i < length xs → i < length ys → x ≡ get_or xs i x → y ≡ get_or ys i y → event_of x ≡ event_of y
    → take i (map event_of xs) ≡ take i (map event_of ys) → take (i + 1) (map event_of xs) ≡ take (i + 1) (map event_of ys)
one_more_same xs ys i x y a b is_x is_y same before =
    take_more_same (map event_of xs) (map event_of ys) i (event_of x)
    (let l = length-map xs event_of in omega (arith, l, a)) (let l = length-map ys event_of in omega (arith, l, b)) before
    (get_or-map event_of xs i x (event_of x) a ∙ ap event_of (sym is_x) ∙ same ∙ ap event_of (is_y ∙ get_or_default ys i y x b)
    ∙ sym (get_or-map event_of ys i x (event_of x) b))

-- steps are taken back until so many are left: one more of them
pub one_back : (old new first : List Event) (place : ℕ) → place < length old → new ≡ take (length old - 1) old → take place old ≡ take place first
    → (place ≤ length new) × (take place new ≡ take place first)
one_back old new first place less is before =
    let n : length new ≡ length old - 1 = ap length is ∙ length-take-le (length old - 1) old (omega arith) in
    (omega (arith, n, less), ap (take place) is ∙ take-take place (length old - 1) old (omega (arith, less)) ∙ before)

-- where it goes to, by way of a place up to which both have the same events
pub followed : (own given back new : List Event) (records : List Record) (place k : ℕ) → given ≡ map event_of records → place ≤ k → take place own ≡ take place given
    → back ≡ take place own → new ≡ back ++ map event_of (take (k - place) (drop place records)) → new ≡ take k given
followed own given back new records place k all few same went_back went_on =
    went_on
    ∙ ap (λ es. es ++ map event_of (take (k - place) (drop place records))) (went_back ∙ same ∙ ap (take place) all)
    ∙ both event_of records place k few ∙ ap (take k) (sym all)

-- the first of a list, and one more
pub one_more : {A B : Type 0} (f : A → B) (xs : List A) (k : ℕ) (x : A) → k < length xs → x ≡ get_or xs k x
    → take (k + 1) (map f xs) ≡ take k (map f xs) ++ f x ∷ []
one_more f [] k x within at = absurd (omega (arith, within))
one_more f (y ∷ xs) zero x within at = ap (λ z. f z ∷ []) (sym at)
one_more f (y ∷ xs) (suc k) x within at =
    let n : suc k + 1 ≡ suc (k + 1) = omega arith in
    ap (λ j. take j (f y ∷ map f xs)) n ∙ ap (λ zs. f y ∷ zs) (one_more f xs k x (omega (arith, within)) at)
