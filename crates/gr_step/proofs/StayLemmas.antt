-- A goroutine has no further step of its own: its next step reaches further than the goroutine, or is a fault.
use Rattle.std.proofs.Common.{◌≡◌, Bool, true, false, not, true≢false, if◌then◌else◌, List, [], ◌∷◌, ◌++◌, refl, ap}
use Rattle.gr_base.specs.declared.kinds.Fault.{Fault}
use Rattle.gr_base.specs.declared.kinds.Kind.{Kind}
use Rattle.gr_base.specs.declared.kinds.Kind.TheVariants as kinds
use Rattle.gr_base.specs.declared.values.Value.{Value}
use Rattle.gr_rules.specs.Deeds.{Moves, Prints, Enters, Leaves, Starts, Makes, TakesLen, TakesCap, Closes, Communicates, Chooses, as_channel, as_int, only}
use Rattle.gr_rules.specs.Evaluation.{evaluate, evaluate_all}
use Rattle.gr_rules.specs.Outcomes.{Outcome, gives, faults, wrong, ◌>>=◌}
use Rattle.gr_rules.specs.Parts.{Ask, Calls, Receives, CountsItems, CountsPlaces, Decides}
use Rattle.gr_rules.specs.Parts as parts
use Rattle.gr_code.specs.Instructions.{Action, Assigns, AssignsReceived, Updates, ClosesChannel, PrintsLine, Sends, StartsFunction, Returns, GoesOn, Fails, Tests, Ranges, Turns, Instruction, Part, Decide, Perform, Choose, clauses_of}
use Rattle.gr_code.specs.CodeFrames.{ProgramCode, CodeFrame, Task, Steps, Wants, acted, after_in, asked_in, entered, resumed_in, task}
use Rattle.gr_code.specs.Goroutines.{CodeGoroutine, has_caller, instruction_in, is_call, is_deepest, is_local, is_local_action, is_local_here, is_local_in, is_local_instruction, leaves, local, local_by, local_in, local_task, task_in, with_frames}
use Rattle.gr_goros.specs.Alone.{stays, stays_alone, stays_in}

-- an instruction that asks for something beyond its goroutine
module _ (f : CodeFrame) (caller deepest : Bool) where
  never : {A : Type 0} → (o : Outcome A) (k : A → Outcome Task) → ((x : A) → stays caller deepest (k x) ≡ false)
      → stays caller deepest (o >>= k) ≡ false
  never (gives x) k each = each x
  never (faults e) k each = refl
  never wrong k each = refl

  part_reaches : (ask : Ask) → is_call ask ≡ false → stays caller deepest (asked_in f.cells ask) ≡ false
  part_reaches (Calls function arguments) is = absurd (true≢false is)
  part_reaches (Receives channel initial) is = never (evaluate f.cells channel >>= as_channel) _ (λ c. refl)
  part_reaches (parts.Makes size) is = never (evaluate f.cells size >>= as_int) _ (λ n. refl)
  part_reaches (CountsItems channel) is = never (evaluate f.cells channel >>= as_channel) _ (λ c. refl)
  part_reaches (CountsPlaces channel) is = never (evaluate f.cells channel >>= as_channel) _ (λ c. refl)
  part_reaches (Decides op left) is = refl

  action_reaches : (action : Action) → is_local_action caller action ≡ false → (vs : List Value) → stays caller deepest (acted f action vs) ≡ false
  action_reaches (AssignsReceived initial value ok on) is vs = never (only vs >>= as_channel) _ (λ c. refl)
  action_reaches (ClosesChannel on) is vs = never (only vs >>= as_channel) _ (λ c. refl)
  action_reaches (Sends on) is [] = refl
  action_reaches (Sends on) is (c ∷ []) = refl
  action_reaches (Sends on) is (c ∷ v ∷ []) = never (as_channel c) _ (λ c. refl)
  action_reaches (Sends on) is (c ∷ v ∷ w ∷ vs) = refl
  action_reaches (StartsFunction function on) is vs = refl
  action_reaches (Turns slot body after) is vs = never (only vs >>= as_channel) _ (λ c. refl)
  action_reaches Returns is [] = is
  action_reaches Returns is (v ∷ []) = is
  action_reaches Returns is (v ∷ w ∷ vs) = refl
  action_reaches (Assigns targets on) is vs = absurd (true≢false is)
  action_reaches (Updates x op on) is vs = absurd (true≢false is)
  action_reaches (PrintsLine pieces on) is vs = absurd (true≢false is)
  action_reaches (GoesOn on) is vs = absurd (true≢false is)
  action_reaches Fails is vs = refl
  action_reaches (Tests holds fails) is vs = absurd (true≢false is)
  action_reaches (Ranges slot on) is vs = absurd (true≢false is)

  reaches : (i : Instruction) → is_local_instruction caller i ≡ false → stays caller deepest (task f i) ≡ false
  reaches (Part ask slot on) is = part_reaches ask is
  reaches (Decide op left slot settled right) is = absurd (true≢false is)
  reaches (Perform action operands) is = never (evaluate_all f.cells operands) (acted f action) (action_reaches action is)
  reaches (Choose arms) is = never (clauses_of f.cells arms) _ (λ cs. refl)

pub reaches_further : (code : ProgramCode) (g : CodeGoroutine) → is_local code g ≡ false → stays_alone code g ≡ false
reaches_further code g is = by g.frames is
  where
    at : (f : CodeFrame) (below : List CodeFrame) (o : Outcome Instruction) → is_local_here (has_caller below) o ≡ false
        → stays (has_caller below) (is_deepest (f ∷ below)) (o >>= λ i. task f i) ≡ false
    at f below (gives i) is = reaches f (has_caller below) (is_deepest (f ∷ below)) i is
    at f below (faults e) is = refl
    at f below wrong is = refl

    by : (fs : List CodeFrame) → is_local_in code fs ≡ false → stays_in fs (task_in code fs) ≡ false
    by [] is = refl
    by (f ∷ below) is = at f below (instruction_in code f) is

-- a step that is a fault
module _ (code : ProgramCode) (g h : CodeGoroutine) (fault : Fault) where
  -- whether this is what a step comes to
  abbrev IsFault : Outcome (Kind × CodeGoroutine) → Type 0
  IsFault o = o ≡ gives (kinds.Fault fault, h)

  abbrev IsNoFault : Outcome (Kind × CodeGoroutine) → Type 0
  IsNoFault o = ¬ IsFault o

  same_kind : (kind : Kind) (x : CodeGoroutine) → IsFault (gives (kind, x)) → kind ≡ kinds.Fault fault
  same_kind kind x is = ap (λ (o : Outcome (Kind × CodeGoroutine)). elim o [ gives y ↦ y.0 | _ ↦ kind ]) is

  not_pure : (x : CodeGoroutine) → IsNoFault (gives (kinds.Pure, x))
  not_pure x is = let no : kinds.Pure ≡ kinds.Fault fault = same_kind kinds.Pure x is in cc

  not_call : (x : CodeGoroutine) → IsNoFault (gives (kinds.Call, x))
  not_call x is = let no : kinds.Call ≡ kinds.Fault fault = same_kind kinds.Call x is in cc

  not_return : (x : CodeGoroutine) → IsNoFault (gives (kinds.Return, x))
  not_return x is = let no : kinds.Return ≡ kinds.Fault fault = same_kind kinds.Return x is in cc

  then_none : {A : Type 0} → (o : Outcome A) (k : A → Outcome (Kind × CodeGoroutine)) → ((x : A) → IsNoFault (k x)) → IsNoFault (o >>= k)
  then_none (gives x) k each is = each x is
  then_none (faults e) k each is = cc
  then_none wrong k each is = cc

  too_deep : (deepest : Bool) (shallow deep : Outcome (Kind × CodeGoroutine)) → IsNoFault shallow
      → IsFault (if deepest then deep else shallow) → not deepest ≡ false
  too_deep true shallow deep none is = refl
  too_deep false shallow deep none is = absurd (none is)

  module _ (f : CodeFrame) (below : List CodeFrame) (i : Instruction) where
    abbrev StaysNot : Outcome Task → Type 0
    StaysNot o = stays (has_caller below) (is_deepest (f ∷ below)) o ≡ false

    returned : (v : Value) (rest : List CodeFrame) → IsFault (leaves code g v rest) → has_caller rest ≡ false
    returned v [] is = refl
    returned v (e ∷ rest) is = absurd (then_none (instruction_in code e) _ (λ i. then_none (resumed_in e i v) _ (λ on. not_return (with_frames g (on ∷ rest)))) is)

    stays_not : (o : Outcome Task) → IsFault (local_by g (local_task code g f below i) o) → StaysNot o
    stays_not (gives (Steps on)) is = absurd (not_pure (with_frames g (on ∷ below)) is)
    stays_not (gives (Wants (Moves on))) is = cc
    stays_not (gives (Wants (Prints line))) is = absurd (then_none (after_in f i) _ (λ on. not_pure (record (with_frames g (on ∷ below)) { text = g.text ++ line ∷ [] })) is)
    stays_not (gives (Wants (Enters function vs))) is =
        too_deep (is_deepest (f ∷ below)) _ _ (then_none (entered code function vs) _ (λ e. not_call (with_frames g (e ∷ f ∷ below)))) is
    stays_not (gives (Wants (Leaves v))) is = returned v below is
    stays_not (gives (Wants (Starts function vs))) is = refl
    stays_not (gives (Wants (Makes n))) is = refl
    stays_not (gives (Wants (TakesLen c))) is = refl
    stays_not (gives (Wants (TakesCap c))) is = refl
    stays_not (gives (Wants (Closes c))) is = refl
    stays_not (gives (Wants (Communicates c))) is = refl
    stays_not (gives (Wants (Chooses cs))) is = refl
    stays_not (faults e) is = refl
    stays_not wrong is = refl

  by_frames : (fs : List CodeFrame) → IsFault (local_in code g fs) → stays_in fs (task_in code fs) ≡ false
  by_frames [] is = refl
  by_frames (f ∷ below) is = at (instruction_in code f) is
    where
      at : (o : Outcome Instruction) → IsFault (o >>= λ i. local_by g (local_task code g f below i) (task f i))
          → stays (has_caller below) (is_deepest (f ∷ below)) (o >>= λ i. task f i) ≡ false
      at (gives i) is = stays_not f below i (task f i) is
      at (faults e) is = refl
      at wrong is = refl

  pub fault_stays_not : IsFault (local code g) → stays_alone code g ≡ false
  fault_stays_not is = by_frames g.frames is
