-- The values that the clauses of a select send: none is of a wrong kind.
use Rattle.std.proofs.Common.{◌≡◌, ℕ, List, [], ◌∷◌, Option, Some, None, refl, sym, ap, subst, ◌∙◌}
use Rattle.std.specs.Prelude.{map, slice_get, option_map, option_and_then}
use Rattle.std.specs.Option.{option_map_or}
use Rattle.gr_scan.specs.declared.token.Place.{Place}
use Rattle.gr_program.specs.Programs.{Program, Cases}
use Rattle.gr_rules.specs.Operands.{Operands}
use Rattle.gr_rules.specs.Evaluation.{Variables}
use Rattle.gr_rules.specs.Parts.{Plain, next_of}
use Rattle.gr_rules.specs.Points.{Rest, Point}
use Rattle.gr_rules.specs.Goroutines.{ready}
use Rattle.gr_code.specs.Filling.{fill_all, fill_point, ClearAll}
use Rattle.gr_code.specs.Instructions.{Arm, Instruction, Part, Decide, Perform, Choose, Spot}
use Rattle.gr_code.specs.Code.{Meanings, Holds, FitArms, no_arm, default_arm, send_arm, receive_arm, Fits}
use Rattle.gr_code.specs.Code as code
use Rattle.gr_code.specs.Vectors.{spot_in}
use Rattle.gr_code.specs.CodeFrames.{CodeFrame, ProgramCode, instruction_at}
use Rattle.gr_code.specs.Goroutines.{CodeGoroutine, instruction_here}
use Rattle.gr_code.specs.Programs.{ProgramFits, Stands, variables_in}
use Rattle.gr_code.proofs.Fills.{evaluate_fill, to_plain, next_of_fill}
use Rattle.gr_code.proofs.VectorLemmas.{holds}
use Rattle.gr_code.proofs.Standing.{function_fits}
use Rattle.gr_goros.specs.Needs.{AllCanSend, SendsAt, SendsHere, SendsIn}
use Rattle.gr_refine.specs.Contents.{Contents, goroutine_of}
use Rattle.gr_refine.specs.Standing.{AllStand}
use Rattle.gr_lower.specs.Lowered.{lowered, meaning}
use Rattle.type_safety.specs.Standing.{ClausesSend, WorkSends, FrameSends}
use Rattle.type_safety.proofs.CheckedRuns.{checked_sends}
use Rattle.gr_record.specs.Listings.{frame_in, state_in}
use Rattle.gr_record.specs.Running.{Running}
use Rattle.gr_step.proofs.RunningLemmas.{code_fits}

-- an instruction at a spot, whose variables and temporaries stand in one vector
module _ (n : ℕ) (means : Meanings) (s : Spot) (all : Variables) (same : Holds s all) where
  arms_send : (place : Place) (whole : Operands) (rest : Rest) (number : ℕ) (cases : Cases) (es : Operands) (arms : List Arm)
      → FitArms n means place whole rest number cases es arms
      → ClausesSend s.variables cases (fill_all s.temporaries es) → AllCanSend all arms
  arms_send place whole rest _ _ _ _ (no_arm number) h = tt
  arms_send place whole rest _ _ _ _ (default_arm number body others es arms on continues fit) h =
      (tt, arms_send place whole rest _ others es arms fit h)
  arms_send place whole rest _ _ _ _ (send_arm number channel value body others c e es arms on continues fit) h =
      (λ w. h.0 (evaluate_fill s all same e ∙ w), arms_send place whole rest _ others es arms fit h.1)
  arms_send place whole rest _ _ _ _ (receive_arm number targets channel initial body others c es arms into on goes fit) h =
      (tt, arms_send place whole rest _ others es arms fit h)

  -- the point that the instruction means, filled in, is that of the frame
  abbrev PointSends : Point → Type 0
  PointSends p = next_of (fill_point s.temporaries p).operands ≡ Plain
      → WorkSends s.variables (fill_point s.temporaries p).work (fill_point s.temporaries p).operands

  select_sends : (p : Point) (arms : List Arm) → Fits n means p (Choose arms) → ClearAll s.temporaries p.operands → PointSends p
      → AllCanSend all arms
  select_sends _ _ (code.select place cases es rest arms plain fit) clear h =
      arms_send place es rest 1 cases es arms fit
      (h (to_plain (fill_all s.temporaries) s.temporaries (next_of es) (next_of (fill_all s.temporaries es))
      (next_of_fill s.temporaries es clear) plain))

  instruction_sends : (p : Point) (i : Instruction) → Fits n means p i → ClearAll s.temporaries p.operands → PointSends p → SendsAt all i
  instruction_sends p (Part ask slot on) fits clear h = tt
  instruction_sends p (Decide op left slot settled right) fits clear h = tt
  instruction_sends p (Perform action operands) fits clear h = tt
  instruction_sends p (Choose arms) fits clear h = select_sends p arms fits clear h

-- the instruction at which a frame of code stands fits the point that it means
instruction_fits : (means : ℕ → Meanings) (p : Program) (code : ProgramCode) (f : CodeFrame) (i : Instruction) → ProgramFits means p code
    → (stands : Stands means code f) → instruction_at code f ≡ Some i
    → Fits (variables_in code f.function) (means f.function) (means f.function f.number) i
instruction_fits means p code f i fits stands at =
    let function = function_fits means p code fits f.function stands.function stands.is in
    let here : slice_get stands.function.instructions f.number ≡ Some i
    = sym (ap (λ o. option_and_then (λ c. slice_get c.instructions f.number) o) stands.is) ∙ at in
    let variables : stands.function.variables ≡ variables_in code f.function
    = sym (ap (λ o. option_map_or (λ c. c.variables) o 0) stands.is) in
    subst (λ n. Fits n (means f.function) (means f.function f.number) i) variables (function.2.fits f.number i here)

-- a frame of code, where the frame of the rules that it means sends no value of a wrong kind
frame_sends_here : (p : Program) (f : CodeFrame) → ProgramFits (meaning p) p (lowered p) → Stands (meaning p) (lowered p) f
    → FrameSends (frame_in p f) → SendsHere f.cells (instruction_here (instruction_at (lowered p) f))
frame_sends_here p f fits stands h = by_instruction (instruction_at (lowered p) f) refl
  where
    by_instruction : (o : Option Instruction) → instruction_at (lowered p) f ≡ o → SendsHere f.cells (instruction_here o)
    by_instruction None at = tt
    by_instruction (Some i) at =
        let n = variables_in (lowered p) f.function in
        instruction_sends n (meaning p f.function) (spot_in n f.cells f.number) f.cells (holds n f.cells f.number) (meaning p f.function f.number) i
        (instruction_fits (meaning p) p (lowered p) f i fits stands at) stands.clear h

pub sends_in : (p : Program) (s : Contents) → Running p s → (n : List ℕ) (g : CodeGoroutine) → s.goroutines n ≡ Some g → g.status ≡ ready
    → SendsIn (lowered p) g.frames
sends_in p s run n g there calm = by_frames g.frames refl
  where
    by_frames : (fs : List CodeFrame) → g.frames ≡ fs → SendsIn (lowered p) fs
    by_frames [] is = tt
    by_frames (f ∷ below) is =
        frame_sends_here p f (code_fits p s run) (subst (AllStand (meaning p) (lowered p)) is (run.stand n g there)).0
        (checked_sends run.program.file p (state_in p s) n (goroutine_of (frame_in p) g) (frame_in p f) (map (frame_in p) below)
        run.program.checked run.reached (ap (option_map (goroutine_of (frame_in p))) there) (ap (map (frame_in p)) is))
