-- A step that stays within its goroutine is one of code, where it is not refused as unsound.
use Rattle.std.proofs.Common.{◌≡◌, ℕ, Bool, true, false, if◌then◌else◌, List, [], ◌∷◌, map, length, nat_le, Some, None, refl, sym, ap, subst, ◌∙◌}
use Rattle.gr_base.specs.declared.values.Value.{Value}
use Rattle.gr_base.specs.declared.values.Value.TheVariants.{Unit as Empty}
use Rattle.gr_base.specs.declared.kinds.Kind.{Kind}
use Rattle.gr_base.specs.declared.kinds.Kind.TheVariants as kinds
use Rattle.gr_base.specs.declared.kinds.Fault.TheVariants.{CallDepth}
use Rattle.gr_base.specs.declared.events.Choice.{Choice}
use Rattle.gr_base.specs.declared.events.Choice.TheVariants.{Plain}
use Rattle.gr_base.specs.declared.events.Event.{Event}
use Rattle.gr_program.specs.Programs.{Program}
use Rattle.gr_rules.specs.Outcomes.{Outcome, gives, faults, wrong, ◌>>=◌}
use Rattle.gr_rules.specs.Operators.{operate}
use Rattle.gr_rules.specs.Operands.{Variable}
use Rattle.gr_rules.specs.Evaluation.{evaluate, evaluate_all}
use Rattle.gr_rules.specs.Parts.{Ask, Calls, Receives, CountsItems, CountsPlaces, Decides}
use Rattle.gr_rules.specs.Parts as parts
use Rattle.gr_rules.specs.Frames.{assigned}
use Rattle.gr_rules.specs.Deeds.{Moves, Prints, Enters, Leaves, Starts, Makes, TakesLen, TakesCap, Closes, Communicates, Chooses, as_channel, as_int}
use Rattle.gr_rules.specs.Deeds.{as_truth, only, texts}
use Rattle.gr_rules.specs.Limits.{most_frames}
use Rattle.gr_rules.specs.Steps as rules
use Rattle.gr_rules.specs.Steps.{act_by}
use Rattle.gr_code.specs.Instructions.{Action, Assigns, AssignsReceived, Updates, ClosesChannel, PrintsLine, Sends, StartsFunction, Returns, GoesOn}
use Rattle.gr_code.specs.Instructions.{Fails, Tests, Ranges, Turns, Instruction, Part, Decide, Perform, Choose, clauses_of}
use Rattle.gr_code.specs.Code.{Meanings, IfGiven}
use Rattle.gr_code.specs.CodeFrames.{ProgramCode, CodeFrame, Task, Steps, Wants, entered, asked_in, acted, task, after_in, resumed_in}
use Rattle.gr_code.specs.Goroutines.{CodeGoroutine, is_deepest, faulted, with_frames, local_by, local_task, leaves, task_in, instruction_in}
use Rattle.gr_code.specs.Goroutines.{has_caller, is_call, is_local_action}
use Rattle.gr_code.specs.Goroutines.{is_local_instruction, is_local_here, is_local_in}
use Rattle.gr_code.specs.Programs.{ProgramFits, frame_of, frame_meant, deed_meant}
use Rattle.gr_code.proofs.Staying.{then_given}
use Rattle.gr_code.proofs.Standing.{has, resumed_alike}
use Rattle.gr_code.proofs.Entering.{enters as called_alike}
use Rattle.gr_refine.specs.Contents.{Contents}
use Rattle.gr_refine.specs.Looks.{actor_of}
use Rattle.gr_refine.specs.Presence.{Sound}
use Rattle.gr_refine.specs.Standing.{AllStand}
use Rattle.gr_refine.specs.Tasks.{LocalStaysWithin, stays_within, LocalStepIsThere}
use Rattle.gr_refine.proofs.GoingLemmas.{entering_goes_on, leaving_goes_on}
use Rattle.gr_refine.proofs.TaskLemmas.{all_stand, instruction, at_it, task_is, task_is_sound}
use Rattle.gr_refine.proofs.LocalLemmas.{map_length, local_here}

-- code goes on after a task that prints, starts a goroutine or closes a channel
abbrev pub HasAfter : Outcome CodeFrame → Task → Type 0
HasAfter r (Wants (Prints line)) = ¬ (r ≡ wrong)
HasAfter r (Wants (Starts function vs)) = ¬ (r ≡ wrong)
HasAfter r (Wants (Closes c)) = ¬ (r ≡ wrong)
HasAfter r _ = Unit {0}

is_given : {A : Type 0} {x : A} → ¬ (gives x ≡ wrong)
is_given e = subst {0, 0} (λ o. elim o [ gives _ ↦ Unit {0} | _ ↦ ⊥ ]) e tt

module _ (f : CodeFrame) where
  asks_after : (r : Outcome CodeFrame) (ask : Ask) → IfGiven (HasAfter r) (asked_in f.cells ask)
  asks_after r (Calls function arguments) = then_given (HasAfter r) (evaluate_all f.cells arguments) _ (λ vs. tt)
  asks_after r (Receives channel initial) = then_given (HasAfter r) (evaluate f.cells channel >>= as_channel) _ (λ c. tt)
  asks_after r (parts.Makes size) = then_given (HasAfter r) (evaluate f.cells size >>= as_int) _ (λ k. tt)
  asks_after r (CountsItems channel) = then_given (HasAfter r) (evaluate f.cells channel >>= as_channel) _ (λ c. tt)
  asks_after r (CountsPlaces channel) = then_given (HasAfter r) (evaluate f.cells channel >>= as_channel) _ (λ c. tt)
  asks_after r (Decides op left) = tt

  acts_after : (action : Action) (operands : _) (xs : List Value) → IfGiven (HasAfter (after_in f (Perform action operands))) (acted f action xs)
  acts_after (Assigns targets on) operands xs = then_given (HasAfter wrong) (assigned targets xs f.cells) _ (λ held. tt)
  acts_after (AssignsReceived initial value ok on) operands xs = then_given (HasAfter wrong) (only xs >>= as_channel) _ (λ c. tt)
  acts_after (Updates x op on) operands xs =
      then_given (HasAfter wrong) (evaluate f.cells (Variable x) >>= λ u. only xs >>= operate op u) _
      (λ w. then_given (HasAfter wrong) (assigned (Some x ∷ []) (w ∷ []) f.cells) _ (λ held. tt))
  acts_after (ClosesChannel on) operands xs =
      then_given (HasAfter (after_in f (Perform (ClosesChannel on) operands))) (only xs >>= as_channel) _ (λ c. is_given)
  acts_after (PrintsLine pieces on) operands xs =
      then_given (HasAfter (after_in f (Perform (PrintsLine pieces on) operands))) (texts pieces xs) _ (λ ts. is_given)
  acts_after (Sends on) operands [] = tt
  acts_after (Sends on) operands (c ∷ []) = tt
  acts_after (Sends on) operands (c ∷ v ∷ []) = then_given (HasAfter wrong) (as_channel c) _ (λ c. tt)
  acts_after (Sends on) operands (c ∷ v ∷ w ∷ xs) = tt
  acts_after (StartsFunction function on) operands xs = is_given
  acts_after Returns operands [] = tt
  acts_after Returns operands (v ∷ []) = tt
  acts_after Returns operands (v ∷ w ∷ xs) = tt
  acts_after (GoesOn on) operands xs = tt
  acts_after Fails operands xs = tt
  acts_after (Tests holds fails) operands xs = then_given (HasAfter wrong) (only xs >>= as_truth) _ (λ b. tt)
  acts_after (Ranges slot on) operands xs = then_given (HasAfter wrong) (only xs) _ (λ c. tt)
  acts_after (Turns slot body after) operands xs = then_given (HasAfter wrong) (only xs >>= as_channel) _ (λ c. tt)

  pub has_after : (i : Instruction) → IfGiven (HasAfter (after_in f i)) (task f i)
  has_after (Part ask slot on) = asks_after wrong ask
  has_after (Decide op left slot settled right) = then_given (HasAfter wrong) (evaluate f.cells left) _ (λ v. tt)
  has_after (Perform action operands) =
      then_given (HasAfter (after_in f (Perform action operands))) (evaluate_all f.cells operands) _ (acts_after action operands)
  has_after (Choose arms) = then_given (HasAfter wrong) (clauses_of f.cells arms) _ (λ cs. tt)

no_truth : false ≡ true → ⊥
no_truth e = cc

-- whether a task stays within its goroutine
module _ (f : CodeFrame) (below : List CodeFrame) where
  abbrev W : Task → Type 0
  W t = stays_within below (gives t) ≡ true

  leaves_within : (fs : List CodeFrame) (v : Value) → has_caller fs ≡ true → stays_within fs (gives (Wants (Leaves v))) ≡ true
  leaves_within [] v caller = caller
  leaves_within (c ∷ cs) v caller = refl

  asks_within : (ask : Ask) → is_call ask ≡ true → IfGiven W (asked_in f.cells ask)
  asks_within (Calls function arguments) call = then_given W (evaluate_all f.cells arguments) _ (λ vs. refl)
  asks_within (Receives channel initial) call = absurd (no_truth call)
  asks_within (parts.Makes size) call = absurd (no_truth call)
  asks_within (CountsItems channel) call = absurd (no_truth call)
  asks_within (CountsPlaces channel) call = absurd (no_truth call)
  asks_within (Decides op left) call = tt

  acts_within : (action : Action) (xs : List Value) → is_local_action (has_caller below) action ≡ true → IfGiven W (acted f action xs)
  acts_within (Assigns targets on) xs own = then_given W (assigned targets xs f.cells) _ (λ held. refl)
  acts_within (AssignsReceived initial value ok on) xs own = absurd (no_truth own)
  acts_within (Updates x op on) xs own =
      then_given W (evaluate f.cells (Variable x) >>= λ u. only xs >>= operate op u) _
      (λ w. then_given W (assigned (Some x ∷ []) (w ∷ []) f.cells) _ (λ held. refl))
  acts_within (ClosesChannel on) xs own = absurd (no_truth own)
  acts_within (PrintsLine pieces on) xs own = then_given W (texts pieces xs) _ (λ ts. refl)
  acts_within (Sends on) xs own = absurd (no_truth own)
  acts_within (StartsFunction function on) xs own = absurd (no_truth own)
  acts_within Returns [] own = leaves_within below Empty own
  acts_within Returns (v ∷ []) own = leaves_within below v own
  acts_within Returns (v ∷ w ∷ xs) own = tt
  acts_within (GoesOn on) xs own = refl
  acts_within Fails xs own = tt
  acts_within (Tests holds fails) xs own = then_given W (only xs >>= as_truth) _ (λ b. refl)
  acts_within (Ranges slot on) xs own = then_given W (only xs) _ (λ c. refl)
  acts_within (Turns slot body after) xs own = absurd (no_truth own)

  task_within : (i : Instruction) → is_local_instruction (has_caller below) i ≡ true → IfGiven W (task f i)
  task_within (Part ask slot on) own = asks_within ask own
  task_within (Decide op left slot settled right) own = then_given W (evaluate f.cells left) _ (λ v. refl)
  task_within (Perform action operands) own = then_given W (evaluate_all f.cells operands) _ (λ vs. acts_within action vs own)
  task_within (Choose arms) own = absurd (no_truth own)

  whole_within : (o : Outcome Task) → IfGiven W o → stays_within below o ≡ true
  whole_within (gives t) within = within
  whole_within (faults x) within = refl
  whole_within wrong within = refl

  here_within : (o : Outcome Instruction) → is_local_here (has_caller below) o ≡ true → stays_within below (o >>= λ i. task f i) ≡ true
  here_within (gives i) own = whole_within (task f i) (task_within i own)
  here_within (faults x) own = refl
  here_within wrong own = refl

pub local_stays_within : LocalStaysWithin
local_stays_within code g f below frames own =
    ap (λ fs. stays_within below (task_in code fs)) frames ∙ here_within f below (instruction_in code f) (sym (ap (is_local_in code) frames) ∙ own)

-- what leads to something is wrong only where it was
wrong_before : {A B : Type 0} (o : Outcome A) (k : A → B) → (o >>= λ a. gives (k a)) ≡ wrong → o ≡ wrong
wrong_before (gives a) k e = absurd (is_given e)
wrong_before {A} {B} (faults x) k e = absurd (subst {0, 0} (λ (o : Outcome B). elim o [ faults _ ↦ Unit {0} | _ ↦ ⊥ ]) e tt)
wrong_before wrong k e = refl

module _ (means : ℕ → Meanings) (p : Program) (code : ProgramCode) (fits : ProgramFits means p code) (s : Contents) (e : Event) (g : CodeGoroutine)
    (f : CodeFrame) where
  abbrev Allowed : List CodeFrame → Outcome Task → Type 0
  Allowed below o = Sound (frame_of means code) s (act_by (actor_of (frame_of means code) p e g f below) Plain (deed_meant means code o))

  abbrev entering : List CodeFrame → ℕ → List Value → Bool → Outcome (Kind × CodeGoroutine)
  entering below function vs b =
      if b then gives (kinds.Fault CallDepth, faulted g) else (entered code function vs >>= λ first. gives (kinds.Call, with_frames g (first ∷ f ∷ below)))

  enters_there : (below : List CodeFrame) (function : ℕ) (vs : List Value) → g.frames ≡ f ∷ below → Allowed below (gives (Wants (Enters function vs)))
      → (b : Bool) → is_deepest (f ∷ below) ≡ b
      → ¬ (entering below function vs b ≡ wrong)
  enters_there below function vs frames sound true deep none = is_given none
  enters_there below function vs frames sound false deep none =
      let shallow : rules.is_deepest (map (frame_of means code) g.frames) ≡ false =
      ap (λ n. nat_le most_frames n) (map_length (frame_of means code) g.frames ∙ ap length frames) ∙ deep in
      entering_goes_on (frame_of means code) s (actor_of (frame_of means code) p e g f below) function vs sound shallow
      (called_alike means p code fits function vs ∙ ap (frame_meant means code) (wrong_before (entered code function vs) _ none))

  leaves_there : (below : List CodeFrame) (v : Value) → AllStand means code below → Allowed below (gives (Wants (Leaves v)))
      → stays_within below (gives (Wants (Leaves v))) ≡ true → ¬ (leaves code g v below ≡ wrong)
  leaves_there [] v all sound within none = no_truth within
  leaves_there (c ∷ cs) v all sound within none =
      let j = has means p code fits c all.0 in
      let unwound : (resumed_in c j.0 v >>= λ on. gives (kinds.Return, with_frames g (on ∷ cs))) ≡ wrong =
      sym (ap (λ o. elim o [ Some k ↦ gives k | None ↦ wrong ] >>= λ j. resumed_in c j v >>= λ on. gives (kinds.Return, with_frames g (on ∷ cs))) j.1) ∙ none in
      leaving_goes_on (frame_of means code) s (actor_of (frame_of means code) p e g f (c ∷ cs)) v (frame_of means code c) (map (frame_of means code) cs) sound
      (resumed_alike means p code fits c all.0 j.0 j.1 v ∙ ap (frame_meant means code) (wrong_before (resumed_in c j.0 v) _ unwound))

  there_by : (below : List CodeFrame) (i : Instruction) → AllStand means code (f ∷ below) → g.frames ≡ f ∷ below → (o : Outcome Task)
      → IfGiven (HasAfter (after_in f i)) o → Allowed below o → stays_within below o ≡ true → ¬ (local_by g (local_task code g f below i) o ≡ wrong)
  there_by below i all frames (gives (Steps on)) goes sound within none = is_given none
  there_by below i all frames (gives (Wants (Moves on))) goes sound within none = no_truth within
  there_by below i all frames (gives (Wants (Prints line))) goes sound within none = goes (wrong_before (after_in f i) _ none)
  there_by below i all frames (gives (Wants (Enters function vs))) goes sound within none =
      enters_there below function vs frames sound (is_deepest (f ∷ below)) refl none
  there_by below i all frames (gives (Wants (Leaves v))) goes sound within none = leaves_there below v all.1 sound within none
  there_by below i all frames (gives (Wants (Starts function vs))) goes sound within none = no_truth within
  there_by below i all frames (gives (Wants (Makes n))) goes sound within none = no_truth within
  there_by below i all frames (gives (Wants (TakesLen c))) goes sound within none = no_truth within
  there_by below i all frames (gives (Wants (TakesCap c))) goes sound within none = no_truth within
  there_by below i all frames (gives (Wants (Closes c))) goes sound within none = no_truth within
  there_by below i all frames (gives (Wants (Communicates c))) goes sound within none = no_truth within
  there_by below i all frames (gives (Wants (Chooses cs))) goes sound within none = no_truth within
  there_by below i all frames (faults x) goes sound within none = is_given none
  there_by below i all frames wrong goes sound within none = sound refl

pub local_step_is_there : (means : ℕ → Meanings) (p : Program) (code : ProgramCode) (s : Contents) (e : Event) (g : CodeGoroutine) (f : CodeFrame)
    (below : List CodeFrame) → LocalStepIsThere means p code s e g f below
local_step_is_there means p code s e g f below acts plain sound within none =
    let i = instruction means p code g f below acts.fits acts.up.frames acts.stand in
    let here = at_it means p code g f below acts.fits acts.up.frames acts.stand in
    let is = task_is means p code g f below acts.fits acts.up.frames acts.stand in
    let here_sound = task_is_sound means p code s e g f below (task f i) acts is sound in
    let allowed = subst {_, _} (λ (c : Choice). Sound (frame_of means code) s (act_by (actor_of (frame_of means code) p e g f below) c
    (deed_meant means code (task f i)))) plain here_sound in
    there_by means p code acts.fits s e g f below i (all_stand means p code g f below acts.fits acts.up.frames acts.stand) acts.up.frames (task f i)
    (has_after f i) allowed (sym (ap (stays_within below) is) ∙ within) (sym (local_here means p code s e g f below i acts.up.frames here) ∙ none)
