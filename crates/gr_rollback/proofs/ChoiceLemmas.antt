-- A step that leaves no choice.
use Rattle.std.proofs.Common.{◌≡◌, ℕ, Bool, true, false, if◌then◌else◌, List, [], ◌∷◌, ◌++◌, map, filter, Option, Some, None, refl, sym, ap, ◌∙◌}
use Rattle.std.specs.Prelude.{get_or, is_none}
use Rattle.std.specs.List.{range_with_len}
use Rattle.std.specs.Option.{unwrap_or}
use Rattle.gr_base.specs.declared.events.Choice.{Choice}
use Rattle.gr_base.specs.declared.events.Choice.TheVariants.{Plain, Pick, Default, Park}
use Rattle.gr_base.specs.declared.events.Event.{Event}
use Rattle.gr_program.specs.Programs.{Program}
use Rattle.gr_rules.specs.Actors.{Actor}
use Rattle.gr_rules.specs.Attempts.{Refusal, refusal_in, ask_go}
use Rattle.gr_rules.specs.Deeds.{Deed, Moves, Prints, Enters, Leaves, Starts, Makes, TakesLen, TakesCap, Closes, Communicates, Chooses, deed}
use Rattle.gr_rules.specs.Frames.{Frame}
use Rattle.gr_rules.specs.Goroutines.{Status, ready, waiting, finished, Goroutine}
use Rattle.gr_rules.specs.Outcomes.{Outcome, gives, faults, wrong}
use Rattle.gr_rules.specs.States.{Run, live, ended, faulted, State}
use Rattle.gr_rules.specs.Steps.{act_by, act_in, if_ready, if_known, if_live, refusal}
use Rattle.gr_rules.specs.Tells.{may, how_many_clauses, usual_choice}
use Rattle.gr_step.specs.Choices.{usual_event}
use Rattle.gr_rollback.specs.Stepping.{event_meant}

-- whether it is a choice
abbrev is_choice : Choice → Bool
is_choice Plain = false
is_choice (Pick i) = true
is_choice Default = true
is_choice Park = true

abbrev IsRefused : Option Refusal → Type 0
IsRefused o = is_none o ≡ false

some_is_not_none : {A : Type 0} {r : Refusal} → Some r ≡ None → A
some_is_not_none e = cc

by_choice : (f : Choice → Option Refusal) → ((i : ℕ) → IsRefused (f (Pick i))) → IsRefused (f Default) → IsRefused (f Park) → (c : Choice) → is_choice c ≡ true → IsRefused (f c)
by_choice f picks otherwise parks Plain chosen = absurd (let never : false ≡ true = chosen in cc)
by_choice f picks otherwise parks (Pick i) chosen = picks i
by_choice f picks otherwise parks Default chosen = otherwise
by_choice f picks otherwise parks Park chosen = parks

-- where a plain step is allowed every choice is refused
module _ (p : Program) (s : State) (n : List ℕ) where
  abbrev with : Choice → Event
  with c = record { go = n; choice = c }

  module _ (c : Choice) (chosen : is_choice c ≡ true) where
    by_outcome : (a : Actor) (o : Outcome Deed) → refusal_in s (act_by a Plain o) ≡ None → IsRefused (refusal_in s (act_by a c o))
    by_outcome a (gives (Moves on)) allowed = by_choice (λ c. refusal_in s (act_by a c (gives (Moves on)))) (λ i. refl) refl refl c chosen
    by_outcome a (gives (Prints line)) allowed = by_choice (λ c. refusal_in s (act_by a c (gives (Prints line)))) (λ i. refl) refl refl c chosen
    by_outcome a (gives (Enters f vs)) allowed = by_choice (λ c. refusal_in s (act_by a c (gives (Enters f vs)))) (λ i. refl) refl refl c chosen
    by_outcome a (gives (Leaves v)) allowed = by_choice (λ c. refusal_in s (act_by a c (gives (Leaves v)))) (λ i. refl) refl refl c chosen
    by_outcome a (gives (Starts f vs)) allowed = by_choice (λ c. refusal_in s (act_by a c (gives (Starts f vs)))) (λ i. refl) refl refl c chosen
    by_outcome a (gives (Makes k)) allowed = by_choice (λ c. refusal_in s (act_by a c (gives (Makes k)))) (λ i. refl) refl refl c chosen
    by_outcome a (gives (TakesLen d)) allowed = by_choice (λ c. refusal_in s (act_by a c (gives (TakesLen d)))) (λ i. refl) refl refl c chosen
    by_outcome a (gives (TakesCap d)) allowed = by_choice (λ c. refusal_in s (act_by a c (gives (TakesCap d)))) (λ i. refl) refl refl c chosen
    by_outcome a (gives (Communicates d)) allowed = by_choice (λ c. refusal_in s (act_by a c (gives (Communicates d)))) (λ i. refl) refl refl c chosen
    by_outcome a (gives (Closes d)) allowed = by_choice (λ c. refusal_in s (act_by a c (gives (Closes d)))) (λ i. refl) refl refl c chosen
    by_outcome a (gives (Chooses cs)) allowed = some_is_not_none allowed
    by_outcome a (faults e) allowed = by_choice (λ c. refusal_in s (act_by a c (faults e))) (λ i. refl) refl refl c chosen
    by_outcome a wrong allowed = by_choice (λ c. refusal_in s (act_by a c wrong)) (λ i. refl) refl refl c chosen

    by_frames : (g : Goroutine) (fs : List Frame) → refusal_in s (act_in p (with Plain) g fs) ≡ None → IsRefused (refusal_in s (act_in p (with c) g fs))
    by_frames g [] allowed = some_is_not_none allowed
    by_frames g (f ∷ fs) allowed = by_outcome (record { program = p; name = n; before = g; frame = f; below = fs }) (deed f) allowed

    by_status : (g : Goroutine) (x : Status) → refusal_in s (if_ready p (with Plain) g x) ≡ None → IsRefused (refusal_in s (if_ready p (with c) g x))
    by_status g finished allowed = some_is_not_none allowed
    by_status g (waiting ws) allowed = some_is_not_none allowed
    by_status g ready allowed = by_frames g g.frames allowed

    by_known : (x : Option Goroutine) → refusal_in s (if_known p (with Plain) x) ≡ None → IsRefused (refusal_in s (if_known p (with c) x))
    by_known None allowed = some_is_not_none allowed
    by_known (Some g) allowed = by_status g g.status allowed

    by_run : (r : Run) → refusal_in s (if_live (ask_go n (if_known p (with Plain))) r) ≡ None → IsRefused (refusal_in s (if_live (ask_go n (if_known p (with c))) r))
    by_run live allowed = by_known (s.goroutines n) allowed
    by_run ended allowed = some_is_not_none allowed
    by_run (faulted f) allowed = some_is_not_none allowed

    choice_is_refused : refusal p s (with Plain) ≡ None → may p s n c ≡ false
    choice_is_refused allowed = by_run s.run allowed

  module _ (allowed : refusal p s (with Plain) ≡ None) where
    none_of : (test : ℕ → Bool) (ns : List ℕ) → ((i : ℕ) → test i ≡ false) → filter test ns ≡ []
    none_of test [] none = refl
    none_of test (i ∷ ns) none = ap (λ b. if b then i ∷ filter test ns else filter test ns) (none i) ∙ none_of test ns none

    abbrev by_tests : Bool → Bool → Choice
    by_tests a b = get_or (if a then Default ∷ (if b then Park ∷ [] else []) else (if b then Park ∷ [] else [])) 0 Plain

    -- where a plain step is allowed, the usual choice is to have none
    plain_allowed : usual_choice p s n ≡ Plain
    plain_allowed =
        ap (λ ns. get_or (map Pick ns ++ filter (may p s n) (Default ∷ Park ∷ [])) 0 Plain)
        (none_of (λ i. may p s n (Pick i)) (range_with_len 1 (how_many_clauses (s.goroutines n))) (λ i. choice_is_refused (Pick i) refl allowed))
        ∙ ap (λ a. by_tests a (may p s n Park)) (choice_is_refused Default refl allowed) ∙ ap (by_tests false) (choice_is_refused Park refl allowed)

-- a plain step that the rules allow is that of the usual choice
pub plain_is_usual : (p : Program) (s : State) (n : List ℕ) → refusal p s (record { go = n; choice = Plain }) ≡ None
    → record { go = n; choice = Plain } ≡ usual_event p s n
plain_is_usual p s n allowed = ap (λ c. record { go = n; choice = c }) (sym (plain_allowed p s n allowed))

-- a plain step that the rules allow is that of the choice that is asked for, or else of the usual one
pub plain_is_meant : (p : Program) (s : State) (go : List ℕ) (choice : Option Choice) → refusal p s (record { go = go; choice = unwrap_or choice Plain }) ≡ None
    → record { go = go; choice = unwrap_or choice Plain } ≡ event_meant p s go choice
plain_is_meant p s go (Some choice) allowed = refl
plain_is_meant p s go None allowed = plain_is_usual p s go allowed
