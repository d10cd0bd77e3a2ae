-- Progress. In a state that a run of a checked program reaches, no event is unsound, and each ready goroutine has a step.
use Rattle.std.proofs.Common.{◌≡◌, ℕ, List, [], ◌∷◌, length, Option, Some, None, refl, sym, subst}
use Rattle.gr_base.specs.declared.events.Choice.{Choice}
use Rattle.gr_base.specs.declared.events.Choice.TheVariants as choices
use Rattle.gr_base.specs.declared.events.Event.{Event}
use Rattle.gr_program.specs.Programs.{Program}
use Rattle.gr_typing.specs.Scopes.{Signature}
use Rattle.gr_rules.specs.Outcomes.{Outcome, gives, faults, wrong}
use Rattle.gr_rules.specs.Frames.{Frame}
use Rattle.gr_rules.specs.Deeds.{Communication, Deed, Chooses, deed}
use Rattle.gr_rules.specs.Goroutines.{Status, ready, waiting, finished, Goroutine}
use Rattle.gr_rules.specs.States.{Run, live, ended, faulted, State}
use Rattle.gr_rules.specs.Attempts.{program_is_over, no_such_goroutine, goroutine_is_done, goroutine_waits, no_such_choice, unsound, Refusal, ask_go}
use Rattle.gr_rules.specs.Actors.{Actor}
use Rattle.gr_rules.specs.Touches.{clauses_in, clauses_by}
use Rattle.gr_rules.specs.Steps.{act_by, act_in, if_ready, if_known, if_live, attempt}
use Rattle.gr_rules.specs.Selects.{numbered}
use Rattle.type_safety.proofs.Sorts.{Sort, Made}
use Rattle.type_safety.proofs.Running.{SortedFrame, SortedBelow, SortedFrames, is_ready, SortedNumbered, SortedDeed, chooses, Comes, to}
use Rattle.type_safety.proofs.Promises.{Acting, Going, AttemptFine}
use Rattle.type_safety.proofs.SortedDeeds.{deed_sorted}
use Rattle.type_safety.proofs.FineAttempts.{IsFine, run_fine, go_fine, fault_fine}
use Rattle.type_safety.proofs.FineSteps.{act_fine}
use Rattle.type_safety.proofs.FineSelects.{Within, choose_fine, select_goes}

-- the refusals of an event that is not unsound
abbrev pub Sounds : Refusal → Type 0
Sounds r = r ≡ unsound → ⊥

over_sounds : Sounds program_is_over
over_sounds e = cc

nobody_sounds : Sounds no_such_goroutine
nobody_sounds e = cc

done_sounds : Sounds goroutine_is_done
done_sounds e = cc

waits_sounds : Sounds goroutine_waits
waits_sounds e = cc

choice_sounds : Sounds no_such_choice
choice_sounds e = cc

abbrev pub Never : Refusal → Type 0
Never r = ⊥

module _ (fs : List Signature) (p : Program) (made : Made) (s : State) (going : Going fs p made s) where
  clauses_sorted : (k : Sort) (f : Frame) (cs : List Communication) → SortedDeed fs made k f (Chooses cs)
      → SortedNumbered fs made k f (numbered 1 cs)
  clauses_sorted k f cs (chooses h) = h

  abbrev actor_of : List ℕ → Goroutine → Frame → List Frame → Actor
  actor_of name g f gs = record { program = p; name = name; before = g; frame = f; below = gs }

  module _ (name : List ℕ) (g : Goroutine) (f : Frame) (gs : List Frame) (k : Sort) (here : s.goroutines name ≡ Some g) (calm : g.status ≡ ready) (frames : g.frames ≡ f ∷ gs)
      (sorted : SortedFrame fs made k f) (below : SortedBelow fs made f.function k gs) where
    abbrev a : Actor
    a = actor_of name g f gs

    abbrev acting : Acting fs made s a k
    acting = record {
      sound = going.sound;
      waits = going.waits;
      sorted = going.sorted;
      program = going.program;
      here = here;
      calm = calm;
      frames = frames;
      sorted_frame = sorted;
      below = below;
    }

    -- of a choice no more than the choice is refused
    given_by : (choice : Choice) (d : Deed) → deed f ≡ gives d → SortedDeed fs made k f d
        → IsFine Sounds fs made s (act_by a choice (gives d))
    given_by choice (Chooses cs) e h =
        choose_fine Sounds fs made s a k acting cs (clauses_sorted k f cs h) e choice_sounds choice
    given_by choices.Plain d e h = act_fine Sounds fs made s a k acting d e h tt
    given_by _ d e h = record { fine = choice_sounds }

    comes_by : (choice : Choice) (x : Outcome Deed) → deed f ≡ x → Comes fs made k f x
        → IsFine Sounds fs made s (act_by a choice x)
    comes_by choice (gives d) e (to h) = given_by choice d e h
    comes_by choices.Plain (faults q) e h = fault_fine acting None q
    comes_by choices.Plain wrong e h = elim h [ ]
    comes_by _ (faults q) e h = record { fine = choice_sounds }
    comes_by _ wrong e h = elim h [ ]

    -- a choice that is a step; of a select it is one of its clauses
    abbrev Goes : Outcome Deed → Type 0
    Goes x = (choice : Choice) × IsFine Never fs made s (act_by a choice x) × Within (length (clauses_by x)) choice

    goes_by : (d : Deed) → deed f ≡ gives d → SortedDeed fs made k f d → Goes (gives d)
    goes_by (Chooses cs) e h = select_goes Never fs made s a k acting cs (clauses_sorted k f cs h) e
    goes_by d e h = (choices.Plain, act_fine Never fs made s a k acting d e h tt, tt)

    goes : (x : Outcome Deed) → deed f ≡ x → Comes fs made k f x → Goes x
    goes (gives d) e (to h) = goes_by d e h
    goes (faults q) e h = (choices.Plain, fault_fine acting None q, tt)
    goes wrong e h = elim h [ ]

  -- an event of a goroutine that is there
  module _ (name : List ℕ) (g : Goroutine) (here : s.goroutines name ≡ Some g) where
    abbrev event : Choice → Event
    event choice = record { go = name; choice = choice }

    of_frames : (choice : Choice) (gs : List Frame) → g.status ≡ ready → g.frames ≡ gs
        → SortedFrames fs made ready gs → IsFine Sounds fs made s (act_in p (event choice) g gs)
    of_frames choice [] r e h = elim h [ ]
    of_frames choice (f ∷ gs) r e (is_ready sorted below) =
        comes_by name g f gs _ here r e sorted below choice (deed f) refl (deed_sorted fs made _ f sorted)

    of_status : (choice : Choice) (x : Status) → g.status ≡ x → SortedFrames fs made x g.frames
        → IsFine Sounds fs made s (if_ready p (event choice) g x)
    of_status choice finished r h = record { fine = done_sounds }
    of_status choice (waiting ws) r h = record { fine = waits_sounds }
    of_status choice ready r h = of_frames choice g.frames r refl h

    a_choice : (gs : List Frame) → g.status ≡ ready → g.frames ≡ gs → SortedFrames fs made ready gs
        → (choice : Choice) × IsFine Never fs made s (act_in p (event choice) g gs)
        × Within (length (clauses_in gs)) choice
    a_choice [] r e h = elim h [ ]
    a_choice (f ∷ gs) r e (is_ready sorted below) =
        goes name g f gs _ here r e sorted below (deed f) refl (deed_sorted fs made _ f sorted)

    -- where the program runs, a goroutine that is ready has a step
    pub ready_goes : s.run ≡ live → g.status ≡ ready
        → (choice : Choice) × IsFine Never fs made s (attempt p (record { go = name; choice = choice }))
        × Within (length (clauses_in g.frames)) choice
    ready_goes l r =
        let h = a_choice g.frames r refl (subst (λ x. SortedFrames fs made x g.frames) r (going.sorted.goroutines name g here)) in (
          h.0,
          run_fine live l (go_fine (Some g) here (subst (λ x. IsFine Never fs made s (if_ready p (event h.0) g x)) (sym r) h.1)),
          h.2,
        )

  module _ (e : Event) where
    of_known : (x : Option Goroutine) → s.goroutines e.go ≡ x → IsFine Sounds fs made s (if_known p e x)
    of_known None h = record { fine = nobody_sounds }
    of_known (Some g) h = of_status e.go g h e.choice g.status refl (going.sorted.goroutines e.go g h)

    of_run : (r : Run) → IsFine Sounds fs made s (if_live (ask_go e.go (if_known p e)) r)
    of_run live = go_fine (s.goroutines e.go) refl (of_known (s.goroutines e.go) refl)
    of_run ended = record { fine = over_sounds }
    of_run (faulted f) = record { fine = over_sounds }

    pub attempted_fine : IsFine Sounds fs made s (attempt p e)
    attempted_fine = run_fine s.run refl (of_run s.run)

pub attempt_fine : AttemptFine
attempt_fine fs p made s e going = (attempted_fine fs p made s going e).fine
