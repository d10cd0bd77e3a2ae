-- What is shown of a goroutine of code is what the rules show of the goroutine that it means.
use Rattle.std.proofs.Common.{◌≡◌, ℕ, zero, suc, ◌<◌, List, [], ◌∷◌, length, map, take, slice_get, Option, Some, None, refl, sym, ap, ◌∙◌}
use Rattle.std.proofs.Common.{subst, arith, IfSome}
use Rattle.std.specs.Prelude.{option_map, option_and_then}
use Rattle.std.specs.Option.{option_map_or}
use Rattle.gr_base.specs.declared.values.Value.{Value}
use Rattle.gr_program.specs.declared.program.Function as declared
use Rattle.gr_program.specs.declared.program.Program as listed
use Rattle.gr_program.specs.TypeViews.{declared_of}
use Rattle.gr_program.specs.Programs.{Function, FunctionIs, Program}
use Rattle.gr_program.specs.Views.{function_of, functions_of, program_of}
use Rattle.gr_rules.specs.Goroutines.{Status}
use Rattle.gr_rules.specs.Tells.{FrameShown, GoroutineShown, holding, frame_shown, next_line, shown}
use Rattle.gr_rules.specs.Tells as tells
use Rattle.gr_rules.specs.Turns.{line_of as line_of_next}
use Rattle.gr_code.specs.Code.{Meanings}
use Rattle.gr_code.specs.CodeFrames.{ProgramCode, CodeFrame}
use Rattle.gr_code.specs.Goroutines.{CodeGoroutine, line_of}
use Rattle.gr_code.specs.Programs.{ProgramFits, Stands, functions_in, variables_in}
use Rattle.gr_code.proofs.Standing.{line, function_fits}
use Rattle.gr_refine.specs.Contents.{Contents, goroutine_of}
use Rattle.gr_refine.specs.Standing.{AllStand}
use Rattle.gr_lower.specs.Lowered.{lowered, meaning}
use Rattle.gr_step.proofs.CodeOfPrograms.{checked_fits}
use Rattle.gr_command.specs.Replies.{told, without_waits}
use Rattle.gr_command.specs.Replies as said
use Rattle.gr_step.specs.Listings.{frame_in, state_in}
use Rattle.gr_step.specs.Running.{IsChecked}
use Rattle.gr_queries.specs.Frames.{code_frame_shown}
use Rattle.gr_queries.specs.Said.{goroutine_said, text_said}
use Rattle.gr_queries.proofs.Copying.{some_inj, is_within}
use Rattle.gr_queries.proofs.Holding.{holding_variables}

-- each of the frames stands
pub stands_at : (means : ℕ → Meanings) (code : ProgramCode) (fs : List CodeFrame) (n : ℕ) (f : CodeFrame) → AllStand means code fs
    → Some f ≡ slice_get fs n → Stands means code f
stands_at means code [] n f all h = cc
stands_at means code (g ∷ fs) zero f all h = subst (λ x. Stands means code x) (sym (some_inj h)) all.0
stands_at means code (g ∷ fs) (suc n) f all h = stands_at means code fs n f all.1 h

-- the functions of a program by their numbers
get_function : (fs : List declared.Function) (n : ℕ) (f : declared.Function) → Some f ≡ slice_get fs n
    → slice_get (functions_of fs) n ≡ Some (function_of f)
get_function [] n f h = cc
get_function (g ∷ fs) zero f h = ap (λ (x : declared.Function). Some (function_of x)) (some_inj (sym h))
get_function (g ∷ fs) (suc n) f h = get_function fs n f h

-- there are as many functions as in the code
functions_length : (fs : List declared.Function) → length (functions_of fs) ≡ length fs
functions_length [] = refl
functions_length (f ∷ fs) = ap suc (functions_length fs)

-- the code of a checked program
pub fits_of : (p : Program) → IsChecked p → ProgramFits (meaning p) p (lowered p)
fits_of p checked = checked_fits checked.file p checked.checked

-- a frame is that of a function
pub has_function : (p : listed.Program) (f : CodeFrame) → IsChecked (program_of p) → Stands (meaning (program_of p)) (lowered (program_of p)) f
    → f.function < length p.functions.items
has_function p f checked st =
    let fits = fits_of (program_of p) checked in
    let fit = function_fits (meaning (program_of p)) (program_of p) (lowered (program_of p)) fits f.function st.function st.is in
    let within : f.function < length (functions_of p.functions.items) = is_within _ f.function fit.0 (sym fit.1) in
    let same = functions_length p.functions.items in omega arith

-- a function with its variables
abbrev named_and_held : List ℕ → List (List ℕ × Value) → FrameShown
named_and_held name variables = record { function = name; variables = variables }

-- the variables of a frame are the first cells, as many as its function has
variables_are : (p : Program) (f : CodeFrame) (function : Function) → ProgramFits (meaning p) p (lowered p) → Stands (meaning p) (lowered p) f
    → slice_get (functions_in p) f.function ≡ Some function
    → frame_shown (Some function) (frame_in p f) ≡ frame_shown (Some function) (record (frame_in p f) { variables = f.cells })
variables_are p f (FunctionIs name parameters result variables body last) fits st is =
    let fit = fits.functions f.function _ st.function is st.is in
    let count : variables_in (lowered p) f.function ≡ length variables = ap (λ o. option_map_or (λ c. c.variables) o 0) st.is ∙ fit.variables in
    ap (λ n. named_and_held name (holding variables (take n f.cells))) count ∙ ap (named_and_held name) (holding_variables variables f.cells)

-- what is shown of a frame
pub frame_told : (p : listed.Program) (f : CodeFrame) (function : declared.Function) (name : List ℕ) (variables : List (List ℕ × Value))
    → IsChecked (program_of p) → Stands (meaning (program_of p)) (lowered (program_of p)) f → Some function ≡ slice_get p.functions.items f.function
    → name ≡ function.name.items → variables ≡ holding (declared_of function.variables.items) f.cells
    → record { function = name; variables = variables } ≡ code_frame_shown (program_of p) f
frame_told p f function name variables checked st there named held =
    let is = get_function p.functions.items f.function function there in
    let same : named_and_held name variables ≡ named_and_held function.name.items (holding (declared_of function.variables.items) f.cells) =
    ap (λ x. named_and_held x variables) named ∙ ap (named_and_held function.name.items) held in
    same
    ∙ sym (variables_are (program_of p) f (function_of function) (fits_of (program_of p) checked) st is)
    ∙ ap (λ o. frame_shown o (frame_in (program_of p) f)) (sym is)

module _ (p : Program) (checked : IsChecked p) (fs : List CodeFrame) (stand : AllStand (meaning p) (lowered p) fs) where
  -- the innermost frame has a line
  pub has_line : (code : ProgramCode) → code ≡ lowered p → IfSome (slice_get fs 0) (λ f. ¬ (line_of code f ≡ None))
  has_line code coded = by_frames fs stand
    where
      by_frames : (fs : List CodeFrame) → AllStand (meaning p) (lowered p) fs → IfSome (slice_get fs 0) (λ f. ¬ (line_of code f ≡ None))
      by_frames [] stand = tt
      by_frames (f ∷ below) stand = λ none.
          let there = ap (λ c. line_of c f) coded ∙ line (meaning p) p (lowered p) (fits_of p checked) f stand.0 in cc

  -- the line of the innermost frame is that of the rules
  line_is : option_and_then (line_of (lowered p)) (slice_get fs 0) ≡ next_line (map (frame_in p) fs)
  line_is = by_frames fs stand
    where
      by_frames : (fs : List CodeFrame) → AllStand (meaning p) (lowered p) fs
          → option_and_then (line_of (lowered p)) (slice_get fs 0) ≡ next_line (map (frame_in p) fs)
      by_frames [] stand = refl
      by_frames (f ∷ below) stand = line (meaning p) p (lowered p) (fits_of p checked) f stand.0

-- what is shown of frames
frames_are : (p : Program) (fs : List CodeFrame)
    → map (code_frame_shown p) fs ≡ map (λ f. frame_shown (tells.function_of p f.function) f) (map (frame_in p) fs)
frames_are p [] = refl
frames_are p (f ∷ fs) = ap (λ l. code_frame_shown p f ∷ l) (frames_are p fs)

-- what is shown of a goroutine
pub goroutine_told : (p : Program) (code : ProgramCode) (g : CodeGoroutine)
    → (told_status status : Status) (steps : ℕ) (at : Option ℕ) (frames : List FrameShown)
    → IsChecked p → code ≡ lowered p → AllStand (meaning p) (lowered p) g.frames
    → told_status ≡ without_waits status → status ≡ g.status → steps ≡ g.steps → at ≡ option_and_then (line_of code) (slice_get g.frames 0)
    → frames ≡ map (code_frame_shown p) g.frames
    → record { status = told_status; steps = steps; line = at; frames = frames } ≡ told (shown p (goroutine_of (frame_in p) g))
goroutine_told p code g told_status status steps at frames checked coded stand tells is counted line shows =
    let its_status = tells ∙ ap without_waits is in
    let its_line = line ∙ ap (λ c. option_and_then (line_of c) (slice_get g.frames 0)) coded ∙ line_is p checked g.frames stand in
    let its_frames = shows ∙ frames_are p g.frames in
    λ j. record { status = its_status j; steps = counted j; line = its_line j; frames = its_frames j }

-- a goroutine that is there is shown
pub goroutine_answer : (p q : Program) (s : Contents) (n m : List ℕ) (g : CodeGoroutine) (what : GoroutineShown)
    → q ≡ p → Some g ≡ s.goroutines n → m ≡ n
    → what ≡ told (shown q (goroutine_of (frame_in q) g)) → said.Shown m what ≡ goroutine_said p n ((state_in p s).goroutines n)
goroutine_answer p q s n m g what same there named tells =
    ap (λ x. said.Shown x what) named ∙ ap (said.Shown n) tells ∙ ap (λ x. said.Shown n (told (shown x (goroutine_of (frame_in x) g)))) same
    ∙ ap (λ o. goroutine_said p n (option_map (goroutine_of (frame_in p)) o)) there

-- the lines of a goroutine that is there are told
pub text_answer : (p : Program) (s : Contents) (n : List ℕ) (g : CodeGoroutine) (lines text : List (List ℕ)) → Some g ≡ s.goroutines n → lines ≡ text
    → text ≡ g.text → said.Lines lines ≡ text_said ((state_in p s).goroutines n)
text_answer p s n g lines text there copied is =
    ap said.Lines (copied ∙ is) ∙ ap (λ o. text_said (option_map (goroutine_of (frame_in p)) o)) there

-- the line of the next statement of the goroutine of a name
pub next_line_is : (p : Program) (code : ProgramCode) (s : Contents) (go : List ℕ) (g : CodeGoroutine) (at : Option ℕ)
    → IsChecked p → code ≡ lowered p → AllStand (meaning p) (lowered p) g.frames → s.goroutines go ≡ Some g
    → at ≡ option_and_then (line_of code) (slice_get g.frames 0) → at ≡ line_of_next ((state_in p s).goroutines go)
next_line_is p code s go g at checked coded stand there is =
    is ∙ ap (λ c. option_and_then (line_of c) (slice_get g.frames 0)) coded ∙ line_is p checked g.frames stand
    ∙ sym (ap (λ o. line_of_next (option_map (goroutine_of (frame_in p)) o)) there)
