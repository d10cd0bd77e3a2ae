-- Where the goroutine of a step stood, by its record: in the innermost frame of the goroutine before the step.
use Rattle.std.proofs.Common.{◌≡◌, ℕ, suc, Bool, true, false, List, ◌∷◌, Option, Some, None, option_map, sym, ap, subst, ◌∙◌, arith}
use Rattle.std.specs.Prelude.{option_and_then, if◌then◌else◌}
use Rattle.gr_base.specs.declared.events.Event.{Event}
use Rattle.gr_program.specs.Programs.{Program}
use Rattle.gr_rules.specs.Attempts.{Report}
use Rattle.gr_rules.specs.Steps.{count, steps_of, attempt}
use Rattle.gr_rules.specs.Turns.{line_of}
use Rattle.gr_laws.proofs.RuleCounts.{machine_counts}
use Rattle.gr_code.specs.CodeFrames.{CodeFrame}
use Rattle.gr_code.specs.Goroutines.{CodeGoroutine}
use Rattle.gr_code.specs.Programs.{ProgramFits, Stands}
use Rattle.gr_code.proofs.Standing.{line}
use Rattle.gr_refine.specs.Contents.{Contents, goroutine_of}
use Rattle.gr_refine.specs.Attempting.{IsUp}
use Rattle.gr_refine.specs.Machines.{note_of}
use Rattle.gr_refine.specs.Standing.{AllStand, ContentsStand}
use Rattle.gr_refine.proofs.AttemptLemmas.{step_is_of_the_machine}
use Rattle.gr_lower.specs.Lowered.{lowered, meaning}
use Rattle.gr_goros.specs.declared.undo.Spot.{Spot}
use Rattle.gr_goros.specs.Undoing.{spot_of}
use Rattle.gr_record.specs.declared.record.Record.{Record}
use Rattle.gr_record.specs.Listings.{frame_in, state_in}
use Rattle.gr_record.specs.Records.{event_of, is_go, begun_by, go_back, goroutines_changed}
use Rattle.gr_record.specs.Taking.{IsRecord}
use Rattle.gr_depend.specs.Given.{stood}
use Rattle.gr_depend.proofs.SpotLemmas.{Stood}
use Rattle.gr_depend.proofs.SpotLemmas as spots
use Rattle.gr_depend.proofs.KindLemmas.{is_up}
use Rattle.gr_facts.specs.Facts.{function_at}
use Rattle.gr_facts.specs.Recorded.{line_there, function_there}

-- what is there, although it could be gone
not_gone : {A : Type 0} → (b : Bool) (o : Option A) (x : A) → (if b then None else o) ≡ Some x → o ≡ Some x
not_gone false o x e = e
not_gone true o x e = absurd (let none : None ≡ Some x = e in cc)

-- the frame in which the goroutine stood, and the spot that the record keeps
pub record StoodIn (p : Program) (s : Contents) (r : Record) : Type 0 where
  pub goroutine : CodeGoroutine
  pub frame : CodeFrame
  pub below : List CodeFrame
  pub there : s.goroutines r.id.go ≡ Some goroutine
  pub frames : goroutine.frames ≡ frame ∷ below
  pub stands : Stands (meaning p) (lowered p) frame
  pub spot : stood r ≡ Some (spot_of frame)

module _ (p : Program) (s : Contents) (r : Record) (t : Contents) (is : IsRecord p s r t) (stand : ContentsStand (meaning p) (lowered p) s) where
  abbrev e : Event
  e = event_of r

  abbrev report : Report
  report = is.takes.report

  module _ (g : CodeGoroutine) (f : CodeFrame) (below : List CodeFrame) (up : IsUp s e g f below) where
    back : go_back (goroutines_changed e.go r.change) e.go (t.goroutines e.go) ≡ Some g
    back = not_gone (is_go e.go (begun_by r.change)) _ g (ap (λ (c : Contents). c.goroutines e.go) is.takes.back ∙ up.there)

    stood_there : Stood f below (stood r) (t.goroutines e.go) g
    stood_there = spots.stood f below e.go (goroutines_changed e.go r.change) (t.goroutines e.go) g back up.frames

    -- its count of steps rose
    rose : (h : CodeGoroutine) → t.goroutines e.go ≡ Some h → h.steps ≡ suc g.steps
    rose h there =
        let performs = is.takes.steps in
        let step = step_is_of_the_machine (frame_in p) s t p e report performs in
        let raised : count (state_in p t) e.go ≡ suc (count (state_in p s) e.go) =
        (machine_counts p).raised (state_in p s) (state_in p t) e (note_of (state_in p s) (attempt p e) report performs.cells) step in
        let steps_in : Option CodeGoroutine → ℕ = λ o. steps_of (option_map (goroutine_of (frame_in p)) o) in
        sym (ap steps_in there) ∙ raised ∙ ap (λ o. suc (steps_in o)) up.there

    spot_is : (o : Option Spot) → Stood f below o (t.goroutines e.go) g → o ≡ Some (spot_of f)
    spot_is (Some spot) same = λ k. Some (record { function = same.0 k; number = same.1 k })
    spot_is None same = absurd (let more : suc g.steps ≡ g.steps = sym (rose same.0 same.1) ∙ same.2 in omega (arith, more))

    stood_up : StoodIn p s r
    stood_up = record {
      goroutine = g;
      frame = f;
      below = below;
      there = up.there;
      frames = up.frames;
      stands = (subst {_, _} (AllStand (meaning p) (lowered p)) up.frames (stand e.go g up.there)).0;
      spot = spot_is (stood r) stood_there;
    }

  pub stood_in : StoodIn p s r
  stood_in =
      let up = is_up (frame_in p) s p e report is.takes.steps.cells is.takes.steps.ends in
      stood_up up.0 up.1 up.2 up.3

module _ (p : Program) (s : Contents) (r : Record) (x : StoodIn p s r) where
  -- of the goroutine by the rules, with its innermost frame
  of_frames : {A : Type 0} → (h : List CodeFrame → Option A) → h x.goroutine.frames ≡ h (x.frame ∷ x.below)
  of_frames h = ap h x.frames

  pub line_is : ProgramFits (meaning p) p (lowered p) → option_and_then (line_there (lowered p)) (stood r) ≡ line_of ((state_in p s).goroutines r.id.go)
  line_is fits =
      ap (option_and_then (line_there (lowered p))) x.spot
      ∙ line (meaning p) p (lowered p) fits x.frame x.stands
      ∙ sym (of_frames (λ fs. line_of (Some (goroutine_of (frame_in p) (record x.goroutine { frames = fs })))))
      ∙ sym (ap (λ o. line_of (option_map (goroutine_of (frame_in p)) o)) x.there)

  pub function_is : option_and_then (function_there p) (stood r) ≡ function_at p ((state_in p s).goroutines r.id.go)
  function_is =
      ap (option_and_then (function_there p)) x.spot
      ∙ sym (of_frames (λ fs. function_at p (Some (goroutine_of (frame_in p) (record x.goroutine { frames = fs })))))
      ∙ sym (ap (λ o. function_at p (option_map (goroutine_of (frame_in p)) o)) x.there)
