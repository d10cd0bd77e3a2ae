-- The frames of code that an instruction leads to are of its function, at instructions that there are, with as many cells.
use Rattle.std.proofs.Common.{◌≡◌, ◌<◌, ℕ, zero, suc, ◌-◌, Bool, true, false, List, [], ◌∷◌, Option, Some, None, length, refl, ◌∙◌}
use Rattle.std.proofs.lemmas.List.{length-set}
use Rattle.std.specs.Prelude.{slice_get, if◌then◌else◌}
use Rattle.gr_base.specs.declared.values.Value.{Value}
use Rattle.gr_base.specs.declared.values.Value.TheVariants.{Bool as Truth}
use Rattle.gr_rules.specs.Outcomes.{Outcome, gives, faults, wrong, ◌>>=◌}
use Rattle.gr_rules.specs.Operators.{operate, settles}
use Rattle.gr_rules.specs.Operands.{Variable}
use Rattle.gr_rules.specs.Evaluation.{Variables, evaluate, evaluate_all}
use Rattle.gr_rules.specs.Parts.{Ask, Calls, Receives, CountsItems, CountsPlaces, Decides}
use Rattle.gr_rules.specs.Parts as parts
use Rattle.gr_rules.specs.Frames.{written, assigned}
use Rattle.gr_rules.specs.Deeds.{as_channel, as_int, as_truth, only, texts}
use Rattle.gr_code.specs.Instructions.{Arm, DefaultArm, SendArm, ReceiveArm, Action, Assigns, AssignsReceived, Updates, ClosesChannel, PrintsLine, Sends, StartsFunction, Returns, GoesOn, Fails, Tests, Ranges, Turns, Instruction, Part, Decide, Perform, Choose, clauses_of}
use Rattle.gr_code.specs.Code.{IfGiven}
use Rattle.gr_code.specs.CodeFrames.{CodeFrame, Task, Steps, Wants, asked_in, with_cell, with_part, with_received, acted, task, after_in, resumed_in, past_part_in, past_action_in, past_arm_in, past_in}
use Rattle.gr_code.specs.Programs.{ActionInBounds, ArmsInBounds, InBounds}
use Rattle.gr_code.proofs.Staying.{then_given}

-- of the same function, at one of this many instructions, with m cells
abbrev pub InPlace : ℕ → ℕ → ℕ → CodeFrame → Type 0
InPlace function m count g = (g.function ≡ function) × (g.number < count) × (length g.cells ≡ m)

abbrev pub TaskInPlace : ℕ → ℕ → ℕ → Task → Type 0
TaskInPlace function m count (Steps on) = InPlace function m count on
TaskInPlace function m count (Wants deed) = Unit {0}

pub and_given : {A B : Type 0} → (Q : A → Type 0) (P : B → Type 0) (o : Outcome A) (f : A → Outcome B)
    → IfGiven Q o → ((a : A) → Q a → IfGiven P (f a)) → IfGiven P (o >>= f)
and_given Q P (gives a) f q h = h a q
and_given Q P (faults e) f q h = tt
and_given Q P wrong f q h = tt

-- what is assigned to has as many variables as before
pub assigned_long : (m : ℕ) (ks : List (Option ℕ)) (xs : List Value) (all : Variables) → length all ≡ m → IfGiven (λ held. length held ≡ m) (assigned ks xs all)
assigned_long m [] xs all e = e
assigned_long m (None ∷ ks) [] all e = tt
assigned_long m (Some k ∷ ks) [] all e = tt
assigned_long m (None ∷ ks) (x ∷ xs) all e = assigned_long m ks xs all e
assigned_long m (Some k ∷ ks) (x ∷ xs) all e = by_old (slice_get all k) (assigned_long m ks xs _ (length-set all k (Some x) ∙ e))
  where
    by_old : (o : Option (Option Value)) → IfGiven (λ held. length held ≡ m) (written (Some None) k x all >>= λ held. assigned ks xs held)
        → IfGiven (λ held. length held ≡ m) (written o k x all >>= λ held. assigned ks xs held)
    by_old None h = tt
    by_old (Some old) h = h

module _ (n m count : ℕ) (f : CodeFrame) (long : length f.cells ≡ m) where
  abbrev Here : CodeFrame → Type 0
  Here g = InPlace f.function m count g

  abbrev TaskHere : Task → Type 0
  TaskHere t = TaskInPlace f.function m count t

  to_cell : (slot : ℕ) (v : Value) (on : ℕ) → on < count → Here (with_cell f slot v on)
  to_cell slot v on h = (refl, h, length-set f.cells slot (Some v) ∙ long)

  to_part : (slot : Option ℕ) (v : Value) (on : ℕ) → on < count → Here (with_part f slot v on)
  to_part (Some d) v on h = to_cell d v on h
  to_part None v on h = (refl, h, long)

  to_received : (into : Option (ℕ × ℕ)) (got : Value × Bool) (on : ℕ) → on < count → Here (with_received f into got on)
  to_received (Some (a, b)) got on h = (refl, h, length-set _ b (Some (Truth got.1)) ∙ length-set f.cells a (Some got.0) ∙ long)
  to_received None got on h = (refl, h, long)

  to_side : (b : Bool) (there other : ℕ) → there < count → other < count → (if b then there else other) < count
  to_side true there other h k = h
  to_side false there other h k = k

  asks_here : (ask : Ask) → IfGiven TaskHere (asked_in f.cells ask)
  asks_here (Calls function arguments) = then_given TaskHere (evaluate_all f.cells arguments) _ (λ vs. tt)
  asks_here (Receives channel initial) = then_given TaskHere (evaluate f.cells channel >>= as_channel) _ (λ c. tt)
  asks_here (parts.Makes size) = then_given TaskHere (evaluate f.cells size >>= as_int) _ (λ k. tt)
  asks_here (CountsItems channel) = then_given TaskHere (evaluate f.cells channel >>= as_channel) _ (λ c. tt)
  asks_here (CountsPlaces channel) = then_given TaskHere (evaluate f.cells channel >>= as_channel) _ (λ c. tt)
  asks_here (Decides op left) = tt

  to_variables : (ks : List (Option ℕ)) (xs : List Value) (on : ℕ) → on < count
      → IfGiven TaskHere (assigned ks xs f.cells >>= λ held. gives (Steps (record f { cells = held; number = on })))
  to_variables ks xs on h =
      and_given (λ held. length held ≡ m) TaskHere (assigned ks xs f.cells) _ (assigned_long m ks xs f.cells long) (λ held e. (refl, h, e))

  acts_here : (action : Action) (xs : List Value) → ActionInBounds n m count action → IfGiven TaskHere (acted f action xs)
  acts_here (Assigns targets on) xs h = to_variables targets xs on h.1
  acts_here (AssignsReceived initial value ok on) xs h = then_given TaskHere (only xs >>= as_channel) _ (λ c. tt)
  acts_here (Updates x op on) xs h =
      then_given TaskHere (evaluate f.cells (Variable x) >>= λ u. only xs >>= operate op u) _ (λ w. to_variables (Some x ∷ []) (w ∷ []) on h.1)
  acts_here (ClosesChannel on) xs h = then_given TaskHere (only xs >>= as_channel) _ (λ c. tt)
  acts_here (PrintsLine pieces on) xs h = then_given TaskHere (texts pieces xs) _ (λ ts. tt)
  acts_here (Sends on) [] h = tt
  acts_here (Sends on) (c ∷ []) h = tt
  acts_here (Sends on) (c ∷ v ∷ []) h = then_given TaskHere (as_channel c) _ (λ c. tt)
  acts_here (Sends on) (c ∷ v ∷ w ∷ xs) h = tt
  acts_here (StartsFunction function on) xs h = tt
  acts_here Returns [] h = tt
  acts_here Returns (v ∷ []) h = tt
  acts_here Returns (v ∷ w ∷ xs) h = tt
  acts_here (GoesOn on) xs h = (refl, h, long)
  acts_here Fails xs h = tt
  acts_here (Tests holds fails) xs h = then_given TaskHere (only xs >>= as_truth) _ (λ b. (refl, to_side b holds fails h.0 h.1, long))
  acts_here (Ranges slot on) xs h = then_given TaskHere (only xs) _ (λ c. to_cell slot c on h.1)
  acts_here (Turns slot body after) xs h = then_given TaskHere (only xs >>= as_channel) _ (λ c. tt)

  pub runs_here : (i : Instruction) → InBounds n m count i → IfGiven TaskHere (task f i)
  runs_here (Part ask slot on) h = asks_here ask
  runs_here (Decide op left slot settled right) h =
      then_given TaskHere (evaluate f.cells left) _
      (λ v. to_cell slot v (if settles op v then settled else right) (to_side (settles op v) settled right h.2 h.3))
  runs_here (Perform action operands) h = then_given TaskHere (evaluate_all f.cells operands) _ (λ xs. acts_here action xs h.1)
  runs_here (Choose arms) h = then_given TaskHere (clauses_of f.cells arms) _ (λ cs. tt)

  pub after_here : (i : Instruction) → InBounds n m count i → IfGiven Here (after_in f i)
  after_here (Part ask slot on) h = tt
  after_here (Decide op left slot settled right) h = tt
  after_here (Choose arms) h = tt
  after_here (Perform (Assigns targets on) operands) h = tt
  after_here (Perform (AssignsReceived initial value ok on) operands) h = tt
  after_here (Perform (Updates x op on) operands) h = tt
  after_here (Perform (ClosesChannel on) operands) h = (refl, h.1, long)
  after_here (Perform (PrintsLine pieces on) operands) h = (refl, h.1, long)
  after_here (Perform (Sends on) operands) h = tt
  after_here (Perform (StartsFunction function on) operands) h = (refl, h.1, long)
  after_here (Perform Returns operands) h = tt
  after_here (Perform (GoesOn on) operands) h = tt
  after_here (Perform Fails operands) h = tt
  after_here (Perform (Tests holds fails) operands) h = tt
  after_here (Perform (Ranges slot on) operands) h = tt
  after_here (Perform (Turns slot body after) operands) h = tt

  pub resumes_here : (i : Instruction) (v : Value) → InBounds n m count i → IfGiven Here (resumed_in f i v)
  resumes_here (Part ask slot on) v h = to_part slot v on h.2
  resumes_here (Decide op left slot settled right) v h = to_cell slot v (if settles op v then settled else right) (to_side (settles op v) settled right h.2 h.3)
  resumes_here (Perform action operands) v h = tt
  resumes_here (Choose arms) v h = tt

  past_part_here : (ask : Ask) (slot : Option ℕ) (on : ℕ) (got : Option (Value × Bool)) → on < count → IfGiven Here (past_part_in f ask slot on got)
  past_part_here (Receives channel initial) slot on (Some got) h = to_part slot got.0 on h
  past_part_here (Receives channel initial) slot on None h = tt
  past_part_here (Calls function arguments) slot on got h = tt
  past_part_here (parts.Makes size) slot on got h = tt
  past_part_here (CountsItems channel) slot on got h = tt
  past_part_here (CountsPlaces channel) slot on got h = tt
  past_part_here (Decides op left) slot on got h = tt

  past_action_here : (action : Action) (got : Option (Value × Bool)) → ActionInBounds n m count action → IfGiven Here (past_action_in f action got)
  past_action_here (Assigns targets on) got h = tt
  past_action_here (AssignsReceived initial value ok on) None h = tt
  past_action_here (AssignsReceived initial value ok on) (Some got) h = to_received (Some (value, ok)) got on h.2
  past_action_here (Updates x op on) got h = tt
  past_action_here (ClosesChannel on) got h = tt
  past_action_here (PrintsLine pieces on) got h = tt
  past_action_here (Sends on) None h = (refl, h, long)
  past_action_here (Sends on) (Some got) h = tt
  past_action_here (StartsFunction function on) got h = tt
  past_action_here Returns got h = tt
  past_action_here (GoesOn on) got h = tt
  past_action_here Fails got h = tt
  past_action_here (Tests holds fails) got h = tt
  past_action_here (Ranges slot on) got h = tt
  past_action_here (Turns slot body after) None h = tt
  past_action_here (Turns slot body after) (Some (v, true)) h = to_cell slot v body h.1
  past_action_here (Turns slot body after) (Some (v, false)) h = (refl, h.2, long)

  past_arm_here : (arms : List Arm) (k : ℕ) (got : Option (Value × Bool)) → ArmsInBounds n m count arms → IfGiven Here (past_arm_in f (slice_get arms k) got)
  past_arm_here [] k got h = tt
  past_arm_here (DefaultArm on ∷ arms) zero None h = (refl, h.0, long)
  past_arm_here (DefaultArm on ∷ arms) zero (Some got) h = tt
  past_arm_here (SendArm channel value on ∷ arms) zero None h = (refl, h.0.2, long)
  past_arm_here (SendArm channel value on ∷ arms) zero (Some got) h = tt
  past_arm_here (ReceiveArm channel initial into on ∷ arms) zero None h = tt
  past_arm_here (ReceiveArm channel initial into on ∷ arms) zero (Some got) h = to_received into got on h.0.2
  past_arm_here (arm ∷ arms) (suc k) got h = past_arm_here arms k got h.1

  pub passes_here : (i : Instruction) (clause : Option ℕ) (got : Option (Value × Bool)) → InBounds n m count i → IfGiven Here (past_in f i clause got)
  passes_here (Part ask slot on) None got h = past_part_here ask slot on got h.2
  passes_here (Part ask slot on) (Some number) got h = tt
  passes_here (Decide op left slot settled right) clause got h = tt
  passes_here (Perform action operands) None got h = past_action_here action got h.1
  passes_here (Perform action operands) (Some number) got h = tt
  passes_here (Choose arms) None got h = tt
  passes_here (Choose arms) (Some number) got h = past_arm_here arms (number - 1) got h
