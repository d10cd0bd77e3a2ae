-- The variables that an instruction gives values are those that the rules say of its deed.
use Rattle.std.proofs.Common.{◌≡◌, ℕ, false, List, [], ◌∷◌, slice_get, Option, Some, None, refl, sym, ap, subst, ◌∙◌}
use Rattle.std.specs.Prelude.{option_and_then, if◌then◌else◌}
use Rattle.gr_base.specs.declared.values.Value.{Value}
use Rattle.gr_program.specs.Programs.{Function, FunctionIs, Program}
use Rattle.gr_rules.specs.Assigned.{names_in, targets_of, targets_by, given_by}
use Rattle.gr_rules.specs.Outcomes.{Outcome, gives, faults, wrong, ◌>>=◌}
use Rattle.gr_rules.specs.Operators.{operate}
use Rattle.gr_rules.specs.Operands.{Variable, Operands, one}
use Rattle.gr_rules.specs.Evaluation.{evaluate, evaluate_all}
use Rattle.gr_rules.specs.Parts.{Ask, Calls, Receives, CountsItems, CountsPlaces, Decides, Next, Plain, Asks, next_of}
use Rattle.gr_rules.specs.Parts as parts
use Rattle.gr_rules.specs.Points.{Work, Assign, AssignReceive, Update, Eval, Close, Print, Send, Go, Return, GoOn, Astray, Test, Range, Turn, Select, Point}
use Rattle.gr_rules.specs.Frames.{Frame, assigned}
use Rattle.gr_rules.specs.Deeds.{Deed, Moves, Prints, Enters, Leaves, Starts, Makes, TakesLen, TakesCap, Closes, Communicates, Chooses, as_channel, as_int, as_truth, only, texts, deed}
use Rattle.gr_rules.specs.Steps.{is_deepest}
use Rattle.gr_rules.specs.Tells.{function_of}
use Rattle.gr_code.specs.Filling.{Temporaries, fill_all, fill_rest, fill_work, ClearAll}
use Rattle.gr_code.specs.Code.{Meanings, IfGiven, Fits}
use Rattle.gr_code.specs.Code as code_fits
use Rattle.gr_code.specs.CodeFrames.{FunctionCode, ProgramCode, CodeFrame, Task, Steps, Wants, asked_in, acted, task, instruction_at}
use Rattle.gr_code.specs.Instructions.{Action, Assigns, AssignsReceived, Updates, ClosesChannel, PrintsLine, Sends, StartsFunction, Returns, GoesOn, Fails, Tests, Ranges, Turns, Instruction, Part, Decide, Perform, Choose, clauses_of}
use Rattle.gr_code.specs.Programs.{ProgramFits, Stands, frame_of, spot_of, deed_of, deed_meant}
use Rattle.gr_code.proofs.Fills.{Fills, to_plain, next_of_fill}
use Rattle.gr_code.proofs.Staying.{then_given}
use Rattle.gr_code.proofs.Standing.{does, function_fits}
use Rattle.gr_depend.specs.Given.{parameters_named, given_at, GivenByInstruction}

-- the targets of an instruction
abbrev targets_at : Instruction → List (Option ℕ)
targets_at (Perform (Assigns targets on) operands) = targets
targets_at (Perform (Updates x op on) operands) = Some x ∷ []
targets_at i = []

names_none : (o : Option Function) → names_in o [] ≡ []
names_none None = refl
names_none (Some (FunctionIs name parameters result variables body last)) = refl

-- the targets by the rules at the point that an instruction means
has_none : {A : Type 0} → (w : Work) (n : Next A) → targets_of w ≡ [] → targets_by w n ≡ []
has_none w Plain e = e
has_none w (Asks ask k) e = refl

at_part : {A : Type 0} → (f : A → A) (ts : Temporaries) (w : Work) (ask : Ask) (k : Value → A) (n : Next A) → Fills f ts (Asks ask k) n → targets_by w n ≡ []
at_part f ts w ask k Plain e = absurd e
at_part f ts w ask k (Asks ask' k') e = refl

module _ (ts : Temporaries) where
  abbrev next_filled : Operands → Next Operands
  next_filled es = next_of (fill_all ts es)

  plain_targets : (w : Work) (es : Operands) → next_of es ≡ Plain → ClearAll ts es → targets_by w (next_filled es) ≡ targets_of w
  plain_targets w es plain clear =
      ap (targets_by w) (to_plain (fill_all ts) ts (next_of es) (next_filled es) (next_of_fill ts es clear) plain)

  part_targets : (w : Work) (es : Operands) (ask : Ask) (k : Value → Operands) → next_of es ≡ Asks ask k → ClearAll ts es → targets_by w (next_filled es) ≡ []
  part_targets w es ask k asks clear =
      at_part (fill_all ts) ts w ask k (next_filled es) (subst {_, _} (λ n. Fills (fill_all ts) ts n (next_filled es)) asks (next_of_fill ts es clear))

  targets_alike : (n : ℕ) (means : Meanings) (q : Point) (i : Instruction) → Fits n means q i → ClearAll ts q.operands
      → targets_by (fill_work ts q.work) (next_filled q.operands) ≡ targets_at i
  targets_alike n means _ _ (code_fits.part place work es rest ask k slot on asks plain goes) clear = part_targets (fill_work ts work) es ask k asks clear
  targets_alike n means _ _ (code_fits.decision place work es rest op left k slot settled right asks goes) clear = part_targets (fill_work ts work) es (Decides op left) k asks clear
  targets_alike n means _ _ (code_fits.assignment place targets es rest on plain continues) clear = plain_targets (Assign targets) es plain clear
  targets_alike n means _ _ (code_fits.update place x op es rest on plain continues) clear = plain_targets (Update x op) es plain clear
  targets_alike n means _ _ (code_fits.assignment_received place x y initial es rest value ok on plain goes) clear = has_none (AssignReceive x y initial) (next_filled es) refl
  targets_alike n means _ _ (code_fits.expression place es rest plain) clear = has_none Eval (next_filled es) refl
  targets_alike n means _ _ (code_fits.closing_channel place es rest on plain continues) clear = has_none Close (next_filled es) refl
  targets_alike n means _ _ (code_fits.printing place pieces es rest on plain continues) clear = has_none (Print pieces) (next_filled es) refl
  targets_alike n means _ _ (code_fits.sending place es rest on plain continues) clear = has_none Send (next_filled es) refl
  targets_alike n means _ _ (code_fits.starting place f es rest on plain continues) clear = has_none (Go f) (next_filled es) refl
  targets_alike n means _ _ (code_fits.returning place es rest plain) clear = has_none Return (next_filled es) refl
  targets_alike n means _ _ (code_fits.going_on place es rest on plain continues) clear = has_none GoOn (next_filled es) refl
  targets_alike n means _ _ (code_fits.astray place es rest plain) clear = has_none Astray (next_filled es) refl
  targets_alike n means _ _ (code_fits.test place holds es rest holds_on fails_on plain first second) clear = has_none (Test (fill_rest ts holds)) (next_filled es) refl
  targets_alike n means _ _ (code_fits.range place target body es rest slot on plain goes) clear = has_none (Range target body) (next_filled es) refl
  targets_alike n means _ _ (code_fits.range_turn place target body channel rest slot into after plain goes ends) clear = has_none (Turn target body) (next_filled (one channel)) refl
  targets_alike n means _ _ (code_fits.select place cases es rest arms plain fit) clear = has_none (Select cases) (next_filled es) refl

-- what a task of a frame of this function gives values, where these are the targets of its instruction
module _ (p : Program) (function : ℕ) where
  abbrev by_task : List (Option ℕ) → Task → List (List ℕ)
  by_task targets (Steps on) = names_in (function_of p function) targets
  by_task targets (Wants (Moves on)) = names_in (function_of p function) targets
  by_task targets (Wants (Enters callee vs)) = parameters_named p callee
  by_task targets (Wants d) = []

  module _ (f : CodeFrame) where
    none_given : names_in (function_of p function) [] ≡ []
    none_given = names_none (function_of p function)

    abbrev Tells : Instruction → Task → Type 0
    Tells i t = by_task (targets_at i) t ≡ given_at p function i

    asked_tells : (ask : Ask) (slot : Option ℕ) (on : ℕ) → IfGiven (Tells (Part ask slot on)) (asked_in f.cells ask)
    asked_tells (Calls callee arguments) slot on = then_given (Tells (Part (Calls callee arguments) slot on)) (evaluate_all f.cells arguments) _ (λ vs. refl)
    asked_tells (Receives channel initial) slot on = then_given (Tells (Part (Receives channel initial) slot on)) (evaluate f.cells channel >>= as_channel) _ (λ c. refl)
    asked_tells (parts.Makes size) slot on = then_given (Tells (Part (parts.Makes size) slot on)) (evaluate f.cells size >>= as_int) _ (λ k. refl)
    asked_tells (CountsItems channel) slot on = then_given (Tells (Part (CountsItems channel) slot on)) (evaluate f.cells channel >>= as_channel) _ (λ c. refl)
    asked_tells (CountsPlaces channel) slot on = then_given (Tells (Part (CountsPlaces channel) slot on)) (evaluate f.cells channel >>= as_channel) _ (λ c. refl)
    asked_tells (Decides op left) slot on = tt

    acted_tells : (action : Action) (es : Operands) (xs : List Value) → IfGiven (Tells (Perform action es)) (acted f action xs)
    acted_tells (Assigns targets on) es xs = then_given (Tells (Perform (Assigns targets on) es)) (assigned targets xs f.cells) _ (λ held. refl)
    acted_tells (AssignsReceived initial value ok on) es xs = then_given (Tells (Perform (AssignsReceived initial value ok on) es)) (only xs >>= as_channel) _ (λ c. refl)
    acted_tells (Updates x op on) es xs =
        then_given (Tells (Perform (Updates x op on) es)) (evaluate f.cells (Variable x) >>= λ u. only xs >>= operate op u) _
        (λ w. then_given (Tells (Perform (Updates x op on) es)) (assigned (Some x ∷ []) (w ∷ []) f.cells) _ (λ held. refl))
    acted_tells (ClosesChannel on) es xs = then_given (Tells (Perform (ClosesChannel on) es)) (only xs >>= as_channel) _ (λ c. refl)
    acted_tells (PrintsLine pieces on) es xs = then_given (Tells (Perform (PrintsLine pieces on) es)) (texts pieces xs) _ (λ ts. refl)
    acted_tells (Sends on) es [] = tt
    acted_tells (Sends on) es (c ∷ []) = tt
    acted_tells (Sends on) es (c ∷ v ∷ []) = then_given (Tells (Perform (Sends on) es)) (as_channel c) _ (λ c. refl)
    acted_tells (Sends on) es (c ∷ v ∷ w ∷ xs) = tt
    acted_tells (StartsFunction callee on) es xs = refl
    acted_tells Returns es [] = refl
    acted_tells Returns es (v ∷ []) = refl
    acted_tells Returns es (v ∷ w ∷ xs) = tt
    acted_tells (GoesOn on) es xs = none_given
    acted_tells Fails es xs = tt
    acted_tells (Tests holds fails) es xs = then_given (Tells (Perform (Tests holds fails) es)) (only xs >>= as_truth) _ (λ b. none_given)
    acted_tells (Ranges slot on) es xs = then_given (Tells (Perform (Ranges slot on) es)) (only xs) _ (λ c. none_given)
    acted_tells (Turns slot body after) es xs = then_given (Tells (Perform (Turns slot body after) es)) (only xs >>= as_channel) _ (λ c. refl)

    task_tells : (i : Instruction) → IfGiven (Tells i) (task f i)
    task_tells (Part ask slot on) = asked_tells ask slot on
    task_tells (Decide op left slot settled right) = then_given (Tells (Decide op left slot settled right)) (evaluate f.cells left) _ (λ v. none_given)
    task_tells (Perform action es) = then_given (Tells (Perform action es)) (evaluate_all f.cells es) _ (acted_tells action es)
    task_tells (Choose arms) = then_given (Tells (Choose arms)) (clauses_of f.cells arms) _ (λ cs. refl)

module _ (means : ℕ → Meanings) (p : Program) (code : ProgramCode) (f : CodeFrame) (i : Instruction) (fits : ProgramFits means p code)
    (stands : Stands means code f) (at : instruction_at code f ≡ Some i) where
  abbrev frame : Frame
  frame = frame_of means code f

  targets : targets_by frame.point.work (next_of frame.point.operands) ≡ targets_at i
  targets =
      let fit = (function_fits means p code fits f.function stands.function stands.is).2 in
      let here : slice_get stands.function.instructions f.number ≡ Some i =
      sym (ap (λ o. option_and_then (λ (c : FunctionCode). slice_get c.instructions f.number) o) stands.is) ∙ at in
      targets_alike (spot_of code f).temporaries stands.function.variables (means f.function) (means f.function f.number) i (fit.fits f.number i here) stands.clear

  -- by the deed that the task means
  by_deed : (fs : List Frame) (t : Task) → is_deepest fs ≡ false → given_by p fs frame (gives (deed_of means code t)) ≡ by_task p f.function (targets_at i) t
  by_deed fs (Steps on) shallow = ap (names_in (function_of p f.function)) targets
  by_deed fs (Wants (Moves on)) shallow = ap (names_in (function_of p f.function)) targets
  by_deed fs (Wants (Prints line)) shallow = refl
  by_deed fs (Wants (Enters callee vs)) shallow = ap (λ b. if b then [] else parameters_named p callee) shallow
  by_deed fs (Wants (Leaves v)) shallow = refl
  by_deed fs (Wants (Starts callee vs)) shallow = refl
  by_deed fs (Wants (Makes n)) shallow = refl
  by_deed fs (Wants (TakesLen c)) shallow = refl
  by_deed fs (Wants (TakesCap c)) shallow = refl
  by_deed fs (Wants (Closes c)) shallow = refl
  by_deed fs (Wants (Communicates c)) shallow = refl
  by_deed fs (Wants (Chooses cs)) shallow = refl

  by_outcome : (fs : List Frame) (d : Deed) (o : Outcome Task) → is_deepest fs ≡ false → IfGiven (Tells p f.function f i) o → deed_meant means code o ≡ gives d
      → given_by p fs frame (gives d) ≡ given_at p f.function i
  by_outcome fs d (gives t) shallow tells is = ap (given_by p fs frame) (sym is) ∙ by_deed fs t shallow ∙ tells
  by_outcome fs d (faults e) shallow tells is = absurd (subst {0, 0} (λ (o : Outcome Deed). elim o [ faults x ↦ Unit {0} | _ ↦ ⊥ ]) is tt)
  by_outcome fs d wrong shallow tells is = absurd (subst {0, 0} (λ (o : Outcome Deed). elim o [ wrong ↦ Unit {0} | _ ↦ ⊥ ]) is tt)

  given_here : (fs : List Frame) (d : Deed) → is_deepest fs ≡ false → deed frame ≡ gives d → given_by p fs frame (gives d) ≡ given_at p f.function i
  given_here fs d shallow is =
      by_outcome fs d (task f i) shallow (task_tells p f.function f i) (sym (does means p code fits f stands i at) ∙ is)

pub given_by_instruction : GivenByInstruction
given_by_instruction means p code f i fs d fits stands at shallow is = given_here means p code f i fits stands at fs d shallow is
