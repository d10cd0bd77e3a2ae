-- The lines of frames of code are those of the frames that they mean.
use Rattle.std.proofs.Common.{◌≡◌, ℕ, List, [], ◌∷◌, map, Option, Some, None, refl, sym, ap, ap₂, ◌∙◌}
use Rattle.std.specs.Prelude.{option_map}
use Rattle.gr_code.specs.CodeFrames.{ProgramCode, CodeFrame}
use Rattle.gr_code.specs.Goroutines.{CodeGoroutine, line_of}
use Rattle.gr_code.specs.Programs.{Stands}
use Rattle.gr_code.proofs.Standing.{line}
use Rattle.gr_command.specs.Replies.{without_waits}
use Rattle.gr_lower.specs.Lowered.{lowered, meaning}
use Rattle.gr_program.specs.Programs.{Program}
use Rattle.gr_refine.specs.Contents.{Contents, goroutine_of}
use Rattle.gr_rules.specs.Goroutines.{Status}
use Rattle.gr_rules.specs.Tells.{FrameShown}
use Rattle.gr_step.specs.Listings.{frame_in, state_in}
use Rattle.gr_step.specs.Running.{IsChecked}
use Rattle.gr_queries.specs.Frames.{code_frame_shown}
use Rattle.gr_queries.specs.Stacks.{Stack, code_stack_frame, stack_at, stack_frame, stack_of}
use Rattle.gr_queries.proofs.Copying.{some_inj}
use Rattle.gr_queries.proofs.FramesShown.{fits_of}

module _ (p : Program) (checked : IsChecked p) (code : ProgramCode) (coded : code ≡ lowered p) (f : CodeFrame)
    (stands : Stands (meaning p) (lowered p) f) where
  line_there : line_of code f ≡ Some ((frame_in p f).point.place.line)
  line_there = ap (λ c. line_of c f) coded ∙ line (meaning p) p (lowered p) (fits_of p checked) f stands

  -- it has a line
  pub has_line : line_of code f ≡ None → ⊥
  has_line none = let there = line_there in cc

  -- the frame with its line
  pub frame_with_line : (shown : FrameShown) (n : ℕ) → shown ≡ code_frame_shown p f → line_of code f ≡ Some n → (shown, n) ≡ code_stack_frame p f
  frame_with_line shown n is at = ap₂ (λ (s : FrameShown) (k : ℕ). (s, k)) is (some_inj (sym at ∙ line_there))

-- the frames of the code, and those that they mean
frames_are : (p : Program) (fs : List CodeFrame) → map (code_stack_frame p) fs ≡ map (stack_frame p) (map (frame_in p) fs)
frames_are p [] = refl
frames_are p (f ∷ fs) = ap (λ l. code_stack_frame p f ∷ l) (frames_are p fs)

pub stack_told : (p : Program) (go : List ℕ) (g : CodeGoroutine) (told status : Status) (steps : ℕ) (frames : List (FrameShown × ℕ))
    → told ≡ without_waits status → status ≡ g.status → steps ≡ g.steps → frames ≡ map (code_stack_frame p) g.frames
    → record { go = go; status = told; steps = steps; frames = frames } ≡ stack_of p go (goroutine_of (frame_in p) g)
stack_told p go g told status steps frames tells is counted shows =
    let its_status = tells ∙ ap without_waits is in
    let its_frames = shows ∙ frames_are p g.frames in
    λ j. record { go = go; status = its_status j; steps = counted j; frames = its_frames j }

-- of a goroutine that is there
pub stack_answer : (p q : Program) (s : Contents) (n m : List ℕ) (g : CodeGoroutine) (told : Stack) → q ≡ p → Some g ≡ s.goroutines n → m ≡ n
    → told ≡ stack_of q m (goroutine_of (frame_in q) g) → Some told ≡ stack_at p n ((state_in p s).goroutines n)
stack_answer p q s n m g told same there named is =
    ap Some (is ∙ ap₂ (λ x k. stack_of x k (goroutine_of (frame_in x) g)) same named)
    ∙ ap (λ o. stack_at p n (option_map (goroutine_of (frame_in p)) o)) there

pub no_stack : (p : Program) (s : Contents) (n : List ℕ) → None ≡ s.goroutines n → None ≡ stack_at p n ((state_in p s).goroutines n)
no_stack p s n none = ap (λ o. stack_at p n (option_map (goroutine_of (frame_in p)) o)) none
