-- What an instruction makes of the cells of a frame of code is what it makes of the frame's spot.
use Rattle.std.proofs.Common.{◌≡◌, ℕ, zero, suc, ◌-◌, Bool, true, false, List, [], ◌∷◌, Option, Some, None, length, refl, sym, ap, ◌∙◌, arith}
use Rattle.std.proofs.lemmas.List.{length-set}
use Rattle.std.specs.Prelude.{slice_get, slice_set, if◌then◌else◌}
use Rattle.gr_base.specs.declared.values.Value.{Value}
use Rattle.gr_base.specs.declared.values.Value.TheVariants.{Bool as Truth}
use Rattle.gr_rules.specs.Outcomes.{Outcome, gives, ◌>>=◌}
use Rattle.gr_rules.specs.Operators.{operate, settles}
use Rattle.gr_rules.specs.Operands.{Variable}
use Rattle.gr_rules.specs.Evaluation.{Variables, evaluate, evaluate_all, held}
use Rattle.gr_rules.specs.Parts.{Ask, Calls, Receives, CountsItems, CountsPlaces, Decides}
use Rattle.gr_rules.specs.Parts as parts
use Rattle.gr_rules.specs.Frames.{assigned}
use Rattle.gr_rules.specs.Deeds.{as_channel, as_int, as_truth, only, texts}
use Rattle.gr_code.specs.Filling.{with_value, keeping}
use Rattle.gr_code.specs.Instructions.{Arm, DefaultArm, SendArm, ReceiveArm, Action, Assigns, AssignsReceived, Updates, ClosesChannel, PrintsLine, Sends, StartsFunction, Returns, GoesOn, Fails, Tests, Ranges, Turns, Instruction, Part, Decide, Perform, Choose, Spot, spot, Doing, Goes, Does, asked, clauses_of, receiving, on_with, perform, run, on_after, on_resumed, on_past_part, on_past_action, on_past_arm, on_past}
use Rattle.gr_code.specs.Vectors.{spot_in, TargetsBelow}
use Rattle.gr_code.specs.CodeFrames.{CodeFrame, Task, Steps, Wants, asked_in, with_cell, with_part, with_received, acted, task, after_in, resumed_in, past_part_in, past_action_in, past_arm_in, past_in}
use Rattle.gr_code.specs.Programs.{IsSlot, IsSlotIfAny, AreSlotsIfAny, ActionInBounds, ArmsInBounds, InBounds}
use Rattle.gr_code.proofs.FrameSimulation.{through}
use Rattle.gr_code.proofs.VectorLemmas.{get_take, kept, assigns}

-- the spot of a frame of code, by how many variables there are
abbrev pub spot_by : ℕ → CodeFrame → Spot
spot_by n f = spot_in n f.cells f.number

abbrev pub doing_by : ℕ → Task → Doing
doing_by n (Steps on) = Goes (spot_by n on)
doing_by n (Wants deed) = Does deed

-- what is given is shown in two steps
pub shown_by : {A B C : Type 0} → (o : Outcome A) (h : A → B) (k : B → C) → (o >>= λ a. gives (k (h a))) ≡ ((o >>= λ a. gives (h a)) >>= λ b. gives (k b))
shown_by o h k = through o _ _ _ (λ a. refl)

module _ (n m count : ℕ) (f : CodeFrame) (long : length f.cells ≡ m) where
  abbrev s : Spot
  s = spot_by n f

  abbrev done : Task → Outcome Doing
  done t = gives (doing_by n t)

  abbrev reached : CodeFrame → Outcome Spot
  reached g = gives (spot_by n g)

  -- with a value in a temporary
  in_cell : (slot : ℕ) (v : Value) (on : ℕ) → IsSlot n m slot → on_with s (with_value s.temporaries slot v) on ≡ spot_by n (with_cell f slot v on)
  in_cell slot v on h = sym (kept n f.cells slot v on h.0 (omega arith))

  in_part : (slot : Option ℕ) (v : Value) (on : ℕ) → IsSlotIfAny n m slot
      → on_with s (keeping s.temporaries slot v) on ≡ spot_by n (with_part f slot v on)
  in_part (Some d) v on h = in_cell d v on h
  in_part None v on h = refl

  in_two : (a b : ℕ) (got : Value × Bool) (on : ℕ) → IsSlot n m a → IsSlot n m b
      → on_with s (receiving s.temporaries (Some (a, b)) got) on ≡ spot_by n (with_received f (Some (a, b)) got on)
  in_two a b got on h k =
      let first : Variables = slice_set f.cells a (Some got.0) in
      let first_long : length first ≡ m = length-set f.cells a (Some got.0) ∙ long in
      ap (λ t. spot t.variables (with_value t.temporaries b (Truth got.1)) on) (sym (kept n f.cells a got.0 on h.0 (omega arith)))
      ∙ sym (kept n first b (Truth got.1) on k.0 (omega arith))

  in_received : (into : Option (ℕ × ℕ)) (got : Value × Bool) (on : ℕ) → AreSlotsIfAny n m into
      → on_with s (receiving s.temporaries into got) on ≡ spot_by n (with_received f into got on)
  in_received (Some (a, b)) got on h = in_two a b got on h.0 h.1
  in_received None got on h = refl

  asks : (ask : Ask) → asked f.cells ask ≡ (asked_in f.cells ask >>= done)
  asks (Calls function arguments) = through (evaluate_all f.cells arguments) _ _ _ (λ vs. refl)
  asks (Receives channel initial) = through (evaluate f.cells channel >>= as_channel) _ _ _ (λ c. refl)
  asks (parts.Makes size) = through (evaluate f.cells size >>= as_int) _ _ _ (λ k. refl)
  asks (CountsItems channel) = through (evaluate f.cells channel >>= as_channel) _ _ _ (λ c. refl)
  asks (CountsPlaces channel) = through (evaluate f.cells channel >>= as_channel) _ _ _ (λ c. refl)
  asks (Decides op left) = refl

  -- values are assigned to variables
  gives_variables : (ks : List (Option ℕ)) (xs : List Value) (on : ℕ) → TargetsBelow n ks
      → (assigned ks xs s.variables >>= λ held. gives (Goes (spot held s.temporaries on)))
      ≡ ((assigned ks xs f.cells >>= λ held. gives (Steps (record f { cells = held; number = on }))) >>= done)
  gives_variables ks xs on h =
      shown_by (assigned ks xs s.variables) (λ held. spot held s.temporaries on) (λ t. Goes t)
      ∙ ap (λ o. o >>= λ t. gives (Goes t)) (sym (assigns n ks xs f.cells on h))
      ∙ sym (shown_by (assigned ks xs f.cells) (λ held. spot_in n held on) (λ t. Goes t))
      ∙ through (assigned ks xs f.cells) _ _ _ (λ held. refl)

  acts : (action : Action) (xs : List Value) → ActionInBounds n m count action → perform s action xs ≡ (acted f action xs >>= done)
  acts (Assigns targets on) xs h = gives_variables targets xs on h.0
  acts (AssignsReceived initial value ok on) xs h = through (only xs >>= as_channel) _ _ _ (λ c. refl)
  acts (Updates x op on) xs h =
      ap (λ o. (held o >>= λ u. only xs >>= operate op u)
      >>= λ w. assigned (Some x ∷ []) (w ∷ []) s.variables >>= λ us. gives (Goes (spot us s.temporaries on)))
      (get_take n f.cells x h.0)
      ∙ through (evaluate f.cells (Variable x) >>= λ u. only xs >>= operate op u) _ _ _ (λ w. gives_variables (Some x ∷ []) (w ∷ []) on (h.0, tt))
  acts (ClosesChannel on) xs h = through (only xs >>= as_channel) _ _ _ (λ c. refl)
  acts (PrintsLine pieces on) xs h = through (texts pieces xs) _ _ _ (λ ts. refl)
  acts (Sends on) [] h = refl
  acts (Sends on) (c ∷ []) h = refl
  acts (Sends on) (c ∷ v ∷ []) h = through (as_channel c) _ _ _ (λ c. refl)
  acts (Sends on) (c ∷ v ∷ w ∷ xs) h = refl
  acts (StartsFunction function on) xs h = refl
  acts Returns [] h = refl
  acts Returns (v ∷ []) h = refl
  acts Returns (v ∷ w ∷ xs) h = refl
  acts (GoesOn on) xs h = refl
  acts Fails xs h = refl
  acts (Tests holds fails) xs h = through (only xs >>= as_truth) _ _ _ (λ b. refl)
  acts (Ranges slot on) xs h = through (only xs) _ _ _ (λ c. ap (λ t. gives (Goes t)) (in_cell slot c on h.0))
  acts (Turns slot body after) xs h = through (only xs >>= as_channel) _ _ _ (λ c. refl)

  pub runs : (i : Instruction) → InBounds n m count i → run s f.cells i ≡ (task f i >>= done)
  runs (Part ask slot on) h = asks ask
  runs (Decide op left slot settled right) h =
      through (evaluate f.cells left) _ _ _ (λ v. ap (λ t. gives (Goes t)) (in_cell slot v (if settles op v then settled else right) h.1))
  runs (Perform action operands) h = through (evaluate_all f.cells operands) _ _ _ (λ xs. acts action xs h.1)
  runs (Choose arms) h = through (clauses_of f.cells arms) _ _ _ (λ cs. refl)

  pub goes_after : (i : Instruction) → on_after s i ≡ (after_in f i >>= reached)
  goes_after (Part ask slot on) = refl
  goes_after (Decide op left slot settled right) = refl
  goes_after (Choose arms) = refl
  goes_after (Perform (Assigns targets on) operands) = refl
  goes_after (Perform (AssignsReceived initial value ok on) operands) = refl
  goes_after (Perform (Updates x op on) operands) = refl
  goes_after (Perform (ClosesChannel on) operands) = refl
  goes_after (Perform (PrintsLine pieces on) operands) = refl
  goes_after (Perform (Sends on) operands) = refl
  goes_after (Perform (StartsFunction function on) operands) = refl
  goes_after (Perform Returns operands) = refl
  goes_after (Perform (GoesOn on) operands) = refl
  goes_after (Perform Fails operands) = refl
  goes_after (Perform (Tests holds fails) operands) = refl
  goes_after (Perform (Ranges slot on) operands) = refl
  goes_after (Perform (Turns slot body after) operands) = refl

  pub resumes : (i : Instruction) (v : Value) → InBounds n m count i → on_resumed s i v ≡ (resumed_in f i v >>= reached)
  resumes (Part ask slot on) v h = ap (λ t. gives t) (in_part slot v on h.1)
  resumes (Decide op left slot settled right) v h = ap (λ t. gives t) (in_cell slot v (if settles op v then settled else right) h.1)
  resumes (Perform action operands) v h = refl
  resumes (Choose arms) v h = refl

  past_part : (ask : Ask) (slot : Option ℕ) (on : ℕ) (got : Option (Value × Bool)) → IsSlotIfAny n m slot
      → on_past_part s ask slot on got ≡ (past_part_in f ask slot on got >>= reached)
  past_part (Receives channel initial) slot on (Some got) h = ap (λ t. gives t) (in_part slot got.0 on h)
  past_part (Receives channel initial) slot on None h = refl
  past_part (Calls function arguments) slot on got h = refl
  past_part (parts.Makes size) slot on got h = refl
  past_part (CountsItems channel) slot on got h = refl
  past_part (CountsPlaces channel) slot on got h = refl
  past_part (Decides op left) slot on got h = refl

  past_action : (action : Action) (got : Option (Value × Bool)) → ActionInBounds n m count action
      → on_past_action s action got ≡ (past_action_in f action got >>= reached)
  past_action (Assigns targets on) got h = refl
  past_action (AssignsReceived initial value ok on) None h = refl
  past_action (AssignsReceived initial value ok on) (Some got) h = ap (λ t. gives t) (in_two value ok got on h.0 h.1)
  past_action (Updates x op on) got h = refl
  past_action (ClosesChannel on) got h = refl
  past_action (PrintsLine pieces on) got h = refl
  past_action (Sends on) None h = refl
  past_action (Sends on) (Some got) h = refl
  past_action (StartsFunction function on) got h = refl
  past_action Returns got h = refl
  past_action (GoesOn on) got h = refl
  past_action Fails got h = refl
  past_action (Tests holds fails) got h = refl
  past_action (Ranges slot on) got h = refl
  past_action (Turns slot body after) None h = refl
  past_action (Turns slot body after) (Some (v, true)) h = ap (λ t. gives t) (in_cell slot v body h.0)
  past_action (Turns slot body after) (Some (v, false)) h = refl

  past_arm : (arms : List Arm) (k : ℕ) (got : Option (Value × Bool)) → ArmsInBounds n m count arms
      → on_past_arm s (slice_get arms k) got ≡ (past_arm_in f (slice_get arms k) got >>= reached)
  past_arm [] k got h = refl
  past_arm (DefaultArm on ∷ arms) zero None h = refl
  past_arm (DefaultArm on ∷ arms) zero (Some got) h = refl
  past_arm (SendArm channel value on ∷ arms) zero None h = refl
  past_arm (SendArm channel value on ∷ arms) zero (Some got) h = refl
  past_arm (ReceiveArm channel initial into on ∷ arms) zero None h = refl
  past_arm (ReceiveArm channel initial into on ∷ arms) zero (Some got) h = ap (λ t. gives t) (in_received into got on h.0.1)
  past_arm (arm ∷ arms) (suc k) got h = past_arm arms k got h.1

  pub passes : (i : Instruction) (clause : Option ℕ) (got : Option (Value × Bool)) → InBounds n m count i
      → on_past s i clause got ≡ (past_in f i clause got >>= reached)
  passes (Part ask slot on) None got h = past_part ask slot on got h.1
  passes (Part ask slot on) (Some number) got h = refl
  passes (Decide op left slot settled right) clause got h = refl
  passes (Perform action operands) None got h = past_action action got h.1
  passes (Perform action operands) (Some number) got h = refl
  passes (Choose arms) None got h = refl
  passes (Choose arms) (Some number) got h = past_arm arms (number - 1) got h
