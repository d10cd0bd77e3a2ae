-- Where a goroutine has no choice.
use Rattle.std.proofs.Common.{◌≡◌, ℕ, Bool, true, false, if◌then◌else◌, List, [], ◌∷◌, ◌++◌, map, filter, Option, Some, None, refl, ap, ◌∙◌}
use Rattle.std.specs.Prelude.{get_or}
use Rattle.std.specs.List.{range_with_len}
use Rattle.gr_base.specs.declared.values.Value.{Value}
use Rattle.gr_base.specs.declared.events.Choice.{Choice}
use Rattle.gr_base.specs.declared.events.Choice.TheVariants.{Plain, Pick, Default, Park}
use Rattle.gr_program.specs.Programs.{Program}
use Rattle.gr_rules.specs.Outcomes.{Outcome, gives, faults, wrong, ◌>>=◌}
use Rattle.gr_rules.specs.Operators.{operate}
use Rattle.gr_rules.specs.Operands.{Variable}
use Rattle.gr_rules.specs.Evaluation.{evaluate, evaluate_all}
use Rattle.gr_rules.specs.Parts.{Ask, Calls, Receives, CountsItems, CountsPlaces, Decides}
use Rattle.gr_rules.specs.Parts as parts
use Rattle.gr_rules.specs.Frames.{assigned}
use Rattle.gr_rules.specs.Deeds.{as_channel, as_int, as_truth, only, texts}
use Rattle.gr_rules.specs.Goroutines.{Status, ready, waiting, finished}
use Rattle.gr_rules.specs.States.{live}
use Rattle.gr_rules.specs.Attempts.{Refusal, program_is_over, no_such_goroutine, goroutine_is_done, goroutine_waits, no_such_choice}
use Rattle.gr_rules.specs.Steps.{attempt}
use Rattle.gr_rules.specs.Tells.{may, how_many_clauses, ready_clauses, usual_choice}
use Rattle.gr_code.specs.Instructions.{Action, Assigns, AssignsReceived, Updates, ClosesChannel, PrintsLine, Sends, StartsFunction, Returns, GoesOn, Fails, Tests, Ranges, Turns, Instruction, Part, Decide, Perform, Choose}
use Rattle.gr_code.specs.CodeFrames.{ProgramCode, CodeFrame, Task, asked_in, acted, task}
use Rattle.gr_code.specs.Goroutines.{CodeGoroutine, instruction_in, task_in, task_of}
use Rattle.gr_refine.specs.Contents.{Contents}
use Rattle.gr_refine.specs.Leaves.{Refuses}
use Rattle.gr_refine.specs.Tasks.{chooses}
use Rattle.gr_refine.proofs.LookLemmas.{over_is_refused, unknown_is_refused, done_is_refused, waiting_is_refused}
use Rattle.gr_refine.proofs.TaskLemmas.{task_has_no_choice}
use Rattle.gr_goros.specs.Needs.{is_choice, is_select_in}
use Rattle.gr_lower.specs.Lowered.{lowered, meaning}
use Rattle.gr_record.specs.Listings.{frame_in, state_in}
use Rattle.gr_record.specs.Running.{Running}
use Rattle.gr_step.specs.Choices.{HasNoChoice}
use Rattle.gr_step.proofs.ProceedLemmas.{is_step}
use Rattle.gr_step.proofs.MayLemmas.{acts_at, chosen_by, step_at_leaf}

-- the task of an instruction other than that of a select leaves no choice
after : {A : Type 0} (o : Outcome A) (k : A → Outcome Task) → ((x : A) → chooses (k x) ≡ false) → chooses (o >>= k) ≡ false
after (gives x) k none = none x
after (faults e) k none = refl
after wrong k none = refl

of_part : (cells : List (Option Value)) (ask : Ask) → chooses (asked_in cells ask) ≡ false
of_part cells (Calls f arguments) = after (evaluate_all cells arguments) _ (λ vs. refl)
of_part cells (Receives channel initial) = after (evaluate cells channel >>= as_channel) _ (λ c. refl)
of_part cells (parts.Makes size) = after (evaluate cells size >>= as_int) _ (λ n. refl)
of_part cells (CountsItems channel) = after (evaluate cells channel >>= as_channel) _ (λ c. refl)
of_part cells (CountsPlaces channel) = after (evaluate cells channel >>= as_channel) _ (λ c. refl)
of_part cells (Decides op left) = refl

of_action : (f : CodeFrame) (action : Action) (vs : List Value) → chooses (acted f action vs) ≡ false
of_action f (Assigns targets on) vs = after (assigned targets vs f.cells) _ (λ held. refl)
of_action f (AssignsReceived initial value ok on) vs = after (only vs >>= as_channel) _ (λ c. refl)
of_action f (Updates x op on) vs = after (evaluate f.cells (Variable x) >>= λ u. only vs >>= operate op u) _
    (λ w. after (assigned (Some x ∷ []) (w ∷ []) f.cells) _ (λ held. refl))
of_action f (ClosesChannel on) vs = after (only vs >>= as_channel) _ (λ c. refl)
of_action f (PrintsLine pieces on) vs = after (texts pieces vs) _ (λ ts. refl)
of_action f (Sends on) [] = refl
of_action f (Sends on) (c ∷ []) = refl
of_action f (Sends on) (c ∷ v ∷ []) = after (as_channel c) _ (λ c. refl)
of_action f (Sends on) (c ∷ v ∷ w ∷ vs) = refl
of_action f (StartsFunction function on) vs = refl
of_action f Returns [] = refl
of_action f Returns (v ∷ []) = refl
of_action f Returns (v ∷ w ∷ vs) = refl
of_action f (GoesOn on) vs = refl
of_action f Fails vs = refl
of_action f (Tests holds fails) vs = after (only vs >>= as_truth) _ (λ b. refl)
of_action f (Ranges slot on) vs = after (only vs) _ (λ c. refl)
of_action f (Turns slot body on) vs = after (only vs >>= as_channel) _ (λ c. refl)

of_instruction : (f : CodeFrame) (i : Instruction) → is_choice (gives i) ≡ false → chooses (task f i) ≡ false
of_instruction f (Part ask slot on) plain = of_part f.cells ask
of_instruction f (Decide op left slot settled right) plain = after (evaluate f.cells left) _ (λ v. refl)
of_instruction f (Perform action operands) plain = after (evaluate_all f.cells operands) (acted f action) (of_action f action)
of_instruction f (Choose arms) plain = absurd (let never : true ≡ false = plain in cc)

here : (f : CodeFrame) (o : Outcome Instruction) → is_choice o ≡ false → chooses (o >>= λ i. task f i) ≡ false
here f (gives i) plain = of_instruction f i plain
here f (faults e) plain = refl
here f wrong plain = refl

pub no_select : (code : ProgramCode) (fs : List CodeFrame) → is_select_in code fs ≡ false → chooses (task_in code fs) ≡ false
no_select code [] plain = refl
no_select code (f ∷ below) plain = here f (instruction_in code f) plain

module _ (p : Program) (s : Contents) (n : List ℕ) where
  refused_may : (choice : Choice) (r : Refusal) → Refuses (attempt p (chosen_by n choice)) (state_in p s) r → may p (state_in p s) n choice ≡ false
  refused_may choice r ends = step_at_leaf (state_in p s) (attempt p (chosen_by n choice)) ∙ ap is_step ends

  -- the program is over; there is no such goroutine; it is done; it waits
  pub none_over : ¬ (s.run ≡ live) → HasNoChoice p s n
  none_over over choice chosen = refused_may choice program_is_over (over_is_refused (frame_in p) s p (chosen_by n choice) over)

  pub none_unknown : s.run ≡ live → s.goroutines n ≡ None → HasNoChoice p s n
  none_unknown runs unknown choice chosen =
      refused_may choice no_such_goroutine (unknown_is_refused (frame_in p) s p (chosen_by n choice) runs unknown)

  pub none_unready : (g : CodeGoroutine) → s.run ≡ live → s.goroutines n ≡ Some g → (status : Status) → g.status ≡ status → ¬ (status ≡ ready)
      → HasNoChoice p s n
  none_unready g runs there ready is unready choice chosen = absurd (unready refl)
  none_unready g runs there (waiting ws) is unready choice chosen =
      refused_may choice goroutine_waits (waiting_is_refused (frame_in p) s p (chosen_by n choice) g ws runs there is)
  none_unready g runs there finished is unready choice chosen =
      refused_may choice goroutine_is_done (done_is_refused (frame_in p) s p (chosen_by n choice) g runs there is)

  -- its task is not that of a select
  pub none_other : (g : CodeGoroutine) → Running p s → s.run ≡ live → s.goroutines n ≡ Some g → g.status ≡ ready
      → chooses (task_of (lowered p) g) ≡ false → HasNoChoice p s n
  none_other g run runs there is_ready plain choice chosen =
      let h = acts_at p s run (chosen_by n choice) g runs there is_ready in
      refused_may choice no_such_choice
      (task_has_no_choice (meaning p) p (lowered p) s (chosen_by n choice) g h.f h.below h.acts plain chosen)

  -- a goroutine whose task is no select has no clause to pick, and its step is plain
  none_of : (test : ℕ → Bool) (ns : List ℕ) → ((i : ℕ) → test i ≡ false) → filter test ns ≡ []
  none_of test [] none = refl
  none_of test (i ∷ ns) none = ap (λ b. if b then i ∷ filter test ns else filter test ns) (none i) ∙ none_of test ns none

  pub no_clause : HasNoChoice p s n → ready_clauses p (state_in p s) n ≡ []
  no_clause none =
      none_of (λ i. may p (state_in p s) n (Pick i)) (range_with_len 1 (how_many_clauses ((state_in p s).goroutines n)))
      (λ i. none (Pick i) refl)

  abbrev by_tests : Bool → Bool → Choice
  by_tests a b = get_or (if a then Default ∷ (if b then Park ∷ [] else []) else (if b then Park ∷ [] else [])) 0 Plain

  pub plain_choice : HasNoChoice p s n → usual_choice p (state_in p s) n ≡ Plain
  plain_choice none =
      ap (λ ns. get_or (map Pick ns ++ filter (may p (state_in p s) n) (Default ∷ Park ∷ [])) 0 Plain) (no_clause none)
      ∙ ap (λ a. by_tests a (may p (state_in p s) n Park)) (none Default refl) ∙ ap (by_tests false) (none Park refl)
