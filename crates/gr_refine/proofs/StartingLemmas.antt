-- How a program of code starts, is met and calls.
use Rattle.std.proofs.Common.{◌≡◌, ℕ, Bool, true, false, if◌then◌else◌, List, [], ◌∷◌, map, Option, Some, None, refl, sym, ap, subst, ◌∙◌}
use Rattle.std.specs.Prelude.{option_map}
use Rattle.gr_base.specs.declared.values.Value as values
use Rattle.gr_program.specs.Programs.{Program}
use Rattle.gr_rules.specs.Outcomes.{Outcome, gives, faults, wrong, ◌>>=◌}
use Rattle.gr_rules.specs.Frames.{Frame}
use Rattle.gr_rules.specs.Goroutines.{Goroutine, ready}
use Rattle.gr_rules.specs.States.{same_go, call_of, main_of, started_in, start}
use Rattle.gr_rules.specs.Actors.{met}
use Rattle.gr_code.specs.Code.{Meanings, IfGiven}
use Rattle.gr_code.specs.CodeFrames.{ProgramCode, CodeFrame, entered, past_in}
use Rattle.gr_code.specs.Goroutines.{CodeGoroutine, started, IsMet, frames_past, with_arrival, arrived}
use Rattle.gr_code.specs.Programs.{ProgramFits, Stands, IsClause, frame_of, frame_meant}
use Rattle.gr_code.proofs.Entering.{enters, enters_standing}
use Rattle.gr_refine.specs.Contents.{goroutine_of}
use Rattle.gr_refine.specs.Standing.{AllStand}
use Rattle.gr_refine.specs.Arriving.{IsIn, HasClauseHere, MeetingArrives, MeetingCanArrive, RetriedIsRuled, EnteredIsRuled, CanBeEntered, StartedIsRuled}
use Rattle.gr_refine.specs.Starting.{BegunIsTheStart, BegunStands, MainIsEntered}
use Rattle.gr_refine.proofs.LocalLemmas.{never}
use Rattle.gr_refine.proofs.StandingLemmas.{OfOption, one_stands, none_stands}
use Rattle.gr_refine.proofs.ArrivingLemmas.{taken, untaken, here, arrives_here, past_here, not_past_here}

module _ (means : ℕ → Meanings) (p : Program) (code : ProgramCode) where
  abbrev as_ruled : CodeGoroutine → Goroutine
  as_ruled = goroutine_of (frame_of means code)

  pub entered_is_ruled : EnteredIsRuled means p code
  entered_is_ruled function vs first fits is = (
    enters means p code fits function vs ∙ ap (frame_meant means code) is,
    subst {_, _} (IfGiven (Stands means code)) is (enters_standing means p code fits function vs),
  )

  pub can_be_entered : CanBeEntered means p code
  can_be_entered function vs fits called none = called (enters means p code fits function vs ∙ ap (frame_meant means code) none)

  pub started_is_ruled : StartedIsRuled means p code
  started_is_ruled first = refl

  pub retried_is_ruled : RetriedIsRuled means p code
  retried_is_ruled g = refl

  -- one that is met has a frame
  frameless : (g : CodeGoroutine) (clause : Option ℕ) (got : Option (values.Value × Bool)) → g.frames ≡ [] → arrived code (IsMet clause got) g ≡ wrong
  frameless g clause got none = ap (λ fs. frames_past code (IsMet clause got) fs >>= λ fs. gives (with_arrival (IsMet clause got) g fs)) none

  -- a goroutine that is met is met by its innermost frame
  met_by : (g : CodeGoroutine) (clause : Option ℕ) (got : Option (values.Value × Bool)) (fs : List CodeFrame) → g.frames ≡ fs
      → met clause got (as_ruled g) (map (frame_of means code) g.frames) ≡ met clause got (as_ruled g) (map (frame_of means code) fs)
  met_by g clause got fs frames = ap (λ fs. met clause got (as_ruled g) (map (frame_of means code) fs)) frames

  meets : (clause : Option ℕ) (got : Option (values.Value × Bool)) (g after : CodeGoroutine) → ProgramFits means p code → AllStand means code g.frames
      → IsClause clause → arrived code (IsMet clause got) g ≡ gives after → (fs : List CodeFrame) → g.frames ≡ fs
      → met clause got (as_ruled g) (map (frame_of means code) fs) ≡ gives (as_ruled after)
  meets clause got g after fits stand h is [] frames = absurd (never (sym (frameless g clause got frames) ∙ is))
  meets clause got g after fits stand h is (f ∷ below) frames =
      let k : IsIn means p code g f below = record { fits = fits; frames = frames; stand = stand } in
      let t = taken (past_in f (here means p code g f below k) clause got) below (with_arrival (IsMet clause got) g) after
      (sym (arrives_here means p code g f below k (IsMet clause got)) ∙ is) in
      ap (λ (o : Outcome Frame). o >>= λ h. gives (record (as_ruled g) { status = ready; frames = h ∷ map (frame_of means code) below }))
      (past_here means p code g f below k clause got t.0 h t.1)
      ∙ ap (λ g. gives (as_ruled g)) t.2

  pub meeting_arrives : MeetingArrives means p code
  meeting_arrives clause got g after fits stand h is = meets clause got g after fits stand h is g.frames refl

  can_meet : (clause : Option ℕ) (got : Option (values.Value × Bool)) (g : CodeGoroutine) → ProgramFits means p code → AllStand means code g.frames
      → HasClauseHere code g.frames clause → arrived code (IsMet clause got) g ≡ wrong → (fs : List CodeFrame) → g.frames ≡ fs
      → met clause got (as_ruled g) (map (frame_of means code) fs) ≡ wrong
  can_meet clause got g fits stand h none [] frames = refl
  can_meet clause got g fits stand h none (f ∷ below) frames =
      let k : IsIn means p code g f below = record { fits = fits; frames = frames; stand = stand } in
      ap (λ (o : Outcome Frame). o >>= λ h. gives (record (as_ruled g) { status = ready; frames = h ∷ map (frame_of means code) below }))
      (not_past_here means p code g f below k clause got h
      (untaken (past_in f (here means p code g f below k) clause got) below (with_arrival (IsMet clause got) g)
      (sym (arrives_here means p code g f below k (IsMet clause got)) ∙ none)))

  pub meeting_can_arrive : MeetingCanArrive means p code
  meeting_can_arrive clause got g fits stand h goes none = goes (can_meet clause got g fits stand h none g.frames refl)

  -- `main` by the rules
  main_called : ProgramFits means p code → call_of p (main_of p) [] ≡ frame_meant means code (entered code code.main [])
  main_called fits = ap (λ k. call_of p k []) (sym fits.main) ∙ enters means p code fits code.main []

  pub begun_is_the_start : BegunIsTheStart means p code
  begun_is_the_start first fits is = λ i. record (start p) { goroutines = λ n. same (same_go n []) i }
    where
      same : (b : Bool) → option_map as_ruled (if b then Some (started first) else None) ≡ (if b then started_in (call_of p (main_of p) []) else None)
      same true = sym (ap started_in (main_called fits ∙ ap (frame_meant means code) is))
      same false = refl

  pub begun_stands : BegunStands means p code
  begun_stands first fits is = (λ n. by (same_go n []), λ c x there. absurd (none_there there))
    where
      by : (b : Bool) → OfOption means code (if b then Some (started first) else None)
      by true = one_stands means code (started first) ((entered_is_ruled code.main [] first fits is).1, tt)
      by false = none_stands means code

      none_there : {X : Type 0} {x : X} → None ≡ Some x → ⊥
      none_there e = subst {0, 0} (λ o. elim o [ Some y ↦ ⊥ | None ↦ Unit {0} ]) e tt

  pub main_is_entered : MainIsEntered means p code
  main_is_entered fits there = by (entered code code.main []) refl
    where
      by : (o : Outcome CodeFrame) → entered code code.main [] ≡ o → (first : CodeFrame) × (entered code code.main [] ≡ gives first)
      by (gives first) is = (first, is)
      by (faults x) is = absurd (there (ap started_in (main_called fits ∙ ap (frame_meant means code) is)))
      by wrong is = absurd (there (ap started_in (main_called fits ∙ ap (frame_meant means code) is)))
