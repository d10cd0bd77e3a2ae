-- What goes on by itself, by its operands.
use Rattle.std.proofs.Common.{◌≡◌, ℕ, ◌<◌, ◌≤◌, get_or, Bool, true, false, not, ◌&&◌, List, [], ◌∷◌, length, reverse, arith, Option, Some, None, refl, sym, ap, ◌∙◌}
use Rattle.std.proofs.Math.Dec.{eqb-suc-zero, leb-suc-suc}
use Rattle.std.proofs.lemmas.List.{length-reverse}
use Rattle.std.specs.Prelude.{slice_get, nat_eq, nat_le}
use Rattle.gr_tree.specs.declared.expr.BinaryOp.{BinaryOp}
use Rattle.gr_base.specs.declared.values.Value as values
use Rattle.gr_base.specs.declared.values.Value.TheVariants.{Int, Bool as Truth, Unit as Empty, Chan}
use Rattle.gr_rules.specs.Outcomes.{Outcome, gives, faults, wrong, ◌>>=◌}
use Rattle.gr_rules.specs.Operators.{operate}
use Rattle.gr_rules.specs.Operands.{Operand, Operands, nothing, also}
use Rattle.gr_rules.specs.Evaluation.{Variables, held, evaluate, evaluate_all}
use Rattle.gr_rules.specs.Frames.{assigned, written}
use Rattle.gr_rules.specs.Deeds.{only, as_truth, as_channel, as_int, texts}
use Rattle.gr_rules.specs.Points.{Piece, OfText, OfValue}
use Rattle.gr_rules.specs.Parts.{Ask, Calls, Receives, CountsItems, CountsPlaces, Decides}
use Rattle.gr_rules.specs.Parts as parts
use Rattle.gr_code.specs.Instructions.{Action, Assigns, AssignsReceived, ClosesChannel, PrintsLine, Sends, StartsFunction, Returns, GoesOn, Fails, Tests, Ranges, Turns, Arm, Instruction, Decide, Choose, clauses_of}
use Rattle.gr_code.specs.CodeViews.{operand_of, operands_of}
use Rattle.gr_code.specs.declared.code.Operand as code
use Rattle.gr_code.specs.CodeFrames.{ProgramCode, CodeFrame, Task, acted, asked_in, task}
use Rattle.gr_code.specs.Goroutines.{has_caller, instruction_in, is_deepest, task_in}
use Rattle.gr_eval.specs.Stops.{is_fault}
use Rattle.gr_eval.specs.Stops as eval
use Rattle.gr_goros.specs.Alone.{stays, stays_in}
use Rattle.gr_goros.specs.Tasks.{performed, stored, updated}
use Rattle.gr_goros.specs.Views.{frames_by}

-- what gives something, where nothing is wrong
abbrev Sure : {A : Type 0} → Outcome A → Type 0
Sure (gives x) = Unit {0}
Sure (faults e) = ⊥
Sure wrong = Unit {0}

sure_then : {A B : Type 0} → (o : Outcome A) (k : A → Outcome B) → Sure o → ((x : A) → Sure (k x)) → Sure (o >>= k)
sure_then (gives x) k so each = each x
sure_then (faults e) k so each = so
sure_then wrong k so each = tt

sure_written : (o : Option (Option values.Value)) (k : ℕ) (v : values.Value) (cells : Variables) → Sure (written o k v cells)
sure_written None k v cells = tt
sure_written (Some old) k v cells = tt

sure_assigned : (targets : List (Option ℕ)) (vs : List values.Value) (cells : Variables) → Sure (assigned targets vs cells)
sure_assigned [] vs cells = tt
sure_assigned (Some k ∷ ks) [] cells = tt
sure_assigned (Some k ∷ ks) (v ∷ vs) cells =
    sure_then (written (slice_get cells k) k v cells) _ (sure_written (slice_get cells k) k v cells) (λ held. sure_assigned ks vs held)
sure_assigned (None ∷ ks) [] cells = tt
sure_assigned (None ∷ ks) (v ∷ vs) cells = sure_assigned ks vs cells

sure_only : (vs : List values.Value) → Sure (only vs)
sure_only [] = tt
sure_only (v ∷ []) = tt
sure_only (v ∷ w ∷ vs) = tt

sure_truth : (v : values.Value) → Sure (as_truth v)
sure_truth (Int n) = tt
sure_truth (Truth b) = tt
sure_truth Empty = tt
sure_truth (Chan c) = tt

sure_texts : (ps : List Piece) (vs : List values.Value) → Sure (texts ps vs)
sure_texts [] [] = tt
sure_texts [] (v ∷ vs) = tt
sure_texts (OfText bytes ∷ ps) vs = sure_then (texts ps vs) _ (sure_texts ps vs) (λ ts. tt)
sure_texts (OfValue ∷ ps) [] = tt
sure_texts (OfValue ∷ ps) (v ∷ vs) = sure_then (texts ps vs) _ (sure_texts ps vs) (λ ts. tt)

sure_held : (o : Option (Option values.Value)) → Sure (held o)
sure_held None = tt
sure_held (Some None) = tt
sure_held (Some (Some v)) = tt

module _ (caller deepest : Bool) where
  -- a task that goes on as this says, where nothing is wrong
  abbrev Comes : Bool → Outcome Task → Type 0
  Comes b (gives t) = stays caller deepest (gives t) ≡ b
  Comes b (faults e) = ⊥
  Comes b wrong = Unit {0}

  comes_then : {A : Type 0} → (b : Bool) (o : Outcome A) (k : A → Outcome Task) → Sure o → ((x : A) → Comes b (k x)) → Comes b (o >>= k)
  comes_then b (gives x) k so each = each x
  comes_then b (faults e) k so each = so
  comes_then b wrong k so each = tt

  came : (b : Bool) (r : Outcome Task) → Comes b r → ¬ (r ≡ wrong) → b ≡ stays caller deepest r
  came b (gives t) comes right = sym comes
  came b (faults e) comes right = absurd comes
  came b wrong comes right = absurd (right refl)

  -- by what is evaluated first
  by_operands : {A : Type 0} → (b : Bool) (o : Outcome A) (k : A → Outcome Task) → ((x : A) → Comes b (k x)) → ¬ ((o >>= k) ≡ wrong)
      → (not (is_fault o) && b) ≡ stays caller deepest (o >>= k)
  by_operands b (gives x) k each right = came b (k x) (each x) right
  by_operands b (faults e) k each right = refl
  by_operands b wrong k each right = absurd (right refl)

  never : {A : Type 0} → (o : Outcome A) (k : A → Outcome Task) → ((x : A) → stays caller deepest (k x) ≡ false) → stays caller deepest (o >>= k) ≡ false
  never (gives x) k each = each x
  never (faults e) k each = refl
  never wrong k each = refl

pub evaluated_right : {A B : Type 0} → (o : Outcome A) (k : A → Outcome B) → ¬ ((o >>= k) ≡ wrong) → ¬ (o ≡ wrong)
evaluated_right o k right w = right (ap (λ o. o >>= k) w)

and_true : (b : Bool) → (b && true) ≡ b
and_true true = refl
and_true false = refl

module _ (f : CodeFrame) (es : Operands) where
  pub operands_right : (action : Action) → ¬ (performed f action es ≡ wrong) → ¬ (evaluate_all f.cells es ≡ wrong)
  operands_right action right = evaluated_right (evaluate_all f.cells es) (acted f action) right

  module _ (caller deepest : Bool) where
    goes_on : (action : Action) → ((vs : List values.Value) → Comes caller deepest true (acted f action vs)) → ¬ (performed f action es ≡ wrong)
        → not (is_fault (evaluate_all f.cells es)) ≡ stays caller deepest (performed f action es)
    goes_on action each right = sym (and_true _) ∙ by_operands caller deepest true (evaluate_all f.cells es) (acted f action) each right

    pub assign_stays : (targets : List (Option ℕ)) (on : ℕ) → ¬ (performed f (Assigns targets on) es ≡ wrong)
        → not (is_fault (evaluate_all f.cells es)) ≡ stays caller deepest (performed f (Assigns targets on) es)
    assign_stays targets on =
        goes_on (Assigns targets on) (λ vs. comes_then caller deepest true (assigned targets vs f.cells) _ (sure_assigned targets vs f.cells) (λ held. refl))

    pub print_stays : (pieces : List Piece) (on : ℕ) → ¬ (performed f (PrintsLine pieces on) es ≡ wrong)
        → not (is_fault (evaluate_all f.cells es)) ≡ stays caller deepest (performed f (PrintsLine pieces on) es)
    print_stays pieces on = goes_on (PrintsLine pieces on) (λ vs. comes_then caller deepest true (texts pieces vs) _ (sure_texts pieces vs) (λ ts. refl))

    pub move_stays : (on : ℕ) → ¬ (performed f (GoesOn on) es ≡ wrong)
        → not (is_fault (evaluate_all f.cells es)) ≡ stays caller deepest (performed f (GoesOn on) es)
    move_stays on = goes_on (GoesOn on) (λ vs. refl)

    pub test_stays : (holds fails : ℕ) → ¬ (performed f (Tests holds fails) es ≡ wrong)
        → not (is_fault (evaluate_all f.cells es)) ≡ stays caller deepest (performed f (Tests holds fails) es)
    test_stays holds fails =
        goes_on (Tests holds fails) (λ vs. comes_then caller deepest true (only vs >>= as_truth) _ (sure_then (only vs) as_truth (sure_only vs) sure_truth) (λ b. refl))

    pub range_stays : (slot on : ℕ) → ¬ (performed f (Ranges slot on) es ≡ wrong)
        → not (is_fault (evaluate_all f.cells es)) ≡ stays caller deepest (performed f (Ranges slot on) es)
    range_stays slot on = goes_on (Ranges slot on) (λ vs. comes_then caller deepest true (only vs) _ (sure_only vs) (λ c. refl))

    pub fail_is_none : ¬ (performed f Fails es ≡ wrong) → false ≡ stays caller deepest (performed f Fails es)
    fail_is_none right = sym (never caller deepest (evaluate_all f.cells es) (acted f Fails) (λ vs. refl))

    pub receive_is_none : (initial : values.Value) (value ok on : ℕ) → false ≡ stays caller deepest (performed f (AssignsReceived initial value ok on) es)
    receive_is_none initial value ok on = sym (never caller deepest (evaluate_all f.cells es) (acted f (AssignsReceived initial value ok on))
        (λ vs. never caller deepest (only vs >>= as_channel) _ (λ c. refl)))

    pub close_is_none : (on : ℕ) → false ≡ stays caller deepest (performed f (ClosesChannel on) es)
    close_is_none on = sym (never caller deepest (evaluate_all f.cells es) (acted f (ClosesChannel on)) (λ vs. never caller deepest (only vs >>= as_channel) _ (λ c. refl)))

    pub send_is_none : (on : ℕ) → false ≡ stays caller deepest (performed f (Sends on) es)
    send_is_none on = sym (never caller deepest (evaluate_all f.cells es) (acted f (Sends on)) each)
      where
        each : (vs : List values.Value) → stays caller deepest (acted f (Sends on) vs) ≡ false
        each [] = refl
        each (c ∷ []) = refl
        each (c ∷ v ∷ []) = never caller deepest (as_channel c) _ (λ c. refl)
        each (c ∷ v ∷ w ∷ vs) = refl

    pub start_is_none : (function on : ℕ) → false ≡ stays caller deepest (performed f (StartsFunction function on) es)
    start_is_none function on = sym (never caller deepest (evaluate_all f.cells es) (acted f (StartsFunction function on)) (λ vs. refl))

    pub turn_is_none : (slot body after : ℕ) → false ≡ stays caller deepest (performed f (Turns slot body after) es)
    turn_is_none slot body after =
        sym (never caller deepest (evaluate_all f.cells es) (acted f (Turns slot body after)) (λ vs. never caller deepest (only vs >>= as_channel) _ (λ c. refl)))

  returns_as : (caller deepest : Bool) (vs : List values.Value) → Comes caller deepest caller (acted f Returns vs)
  returns_as caller deepest [] = refl
  returns_as caller deepest (v ∷ []) = refl
  returns_as caller deepest (v ∷ w ∷ vs) = tt

  pub return_stays : (deepest : Bool) → ¬ (performed f Returns es ≡ wrong)
      → not (is_fault (evaluate_all f.cells es)) ≡ stays true deepest (performed f Returns es)
  return_stays deepest right = sym (and_true _) ∙ by_operands true deepest true (evaluate_all f.cells es) (acted f Returns) (returns_as true deepest) right

  pub outermost_return : (deepest : Bool) → false ≡ stays false deepest (performed f Returns es)
  outermost_return deepest = sym (never false deepest (evaluate_all f.cells es) (acted f Returns) each)
    where
      each : (vs : List values.Value) → stays false deepest (acted f Returns vs) ≡ false
      each [] = refl
      each (v ∷ []) = refl
      each (v ∷ w ∷ vs) = refl

  -- a call
  pub call_right : (function : ℕ) → ¬ (asked_in f.cells (Calls function es) ≡ wrong) → ¬ (evaluate_all f.cells es ≡ wrong)
  call_right function right = evaluated_right (evaluate_all f.cells es) _ right

  pub call_stays : (caller : Bool) (function : ℕ) → ¬ (asked_in f.cells (Calls function es) ≡ wrong)
      → not (is_fault (evaluate_all f.cells es)) ≡ stays caller false (asked_in f.cells (Calls function es))
  call_stays caller function right = sym (and_true _) ∙ by_operands caller false true (evaluate_all f.cells es) _ (λ vs. refl) right

  pub deep_call : (caller : Bool) (function : ℕ) → false ≡ stays caller true (asked_in f.cells (Calls function es))
  deep_call caller function = sym (never caller true (evaluate_all f.cells es) _ (λ vs. refl))

-- other instructions
module _ (f : CodeFrame) (caller deepest : Bool) where
  pub received : (channel : Operand) (initial : values.Value) → false ≡ stays caller deepest (asked_in f.cells (Receives channel initial))
  received channel initial = sym (never caller deepest (evaluate f.cells channel >>= as_channel) _ (λ c. refl))

  pub made : (size : Operand) → false ≡ stays caller deepest (asked_in f.cells (parts.Makes size))
  made size = sym (never caller deepest (evaluate f.cells size >>= as_int) _ (λ n. refl))

  pub items_counted : (channel : Operand) → false ≡ stays caller deepest (asked_in f.cells (CountsItems channel))
  items_counted channel = sym (never caller deepest (evaluate f.cells channel >>= as_channel) _ (λ c. refl))

  pub places_counted : (channel : Operand) → false ≡ stays caller deepest (asked_in f.cells (CountsPlaces channel))
  places_counted channel = sym (never caller deepest (evaluate f.cells channel >>= as_channel) _ (λ c. refl))

  pub choose_is_none : (arms : List Arm) → false ≡ stays caller deepest (task f (Choose arms))
  choose_is_none arms = sym (never caller deepest (clauses_of f.cells arms) _ (λ cs. refl))

  pub decide_stays : (op : BinaryOp) (left : Operand) (slot settled right : ℕ) → ¬ (task f (Decide op left slot settled right) ≡ wrong)
      → not (is_fault (evaluate f.cells left)) ≡ stays caller deepest (task f (Decide op left slot settled right))
  decide_stays op left slot settled right sound =
      sym (and_true _) ∙ by_operands caller deepest true (evaluate f.cells left) _ (λ v. refl) sound

pub decide_right : (f : CodeFrame) (op : BinaryOp) (left : Operand) (slot settled right : ℕ) → ¬ (task f (Decide op left slot settled right) ≡ wrong)
    → ¬ (evaluate f.cells left ≡ wrong)
decide_right f op left slot settled right sound = evaluated_right (evaluate f.cells left) _ sound

-- an assignment with an operator
one_operand : (o : Outcome values.Value) (k : values.Value → Outcome Task)
    → (((o >>= λ x. gives (x ∷ [])) >>= only) >>= k) ≡ (o >>= k)
one_operand (gives x) k = refl
one_operand (faults e) k = refl
one_operand wrong k = refl

regrouped : (op : BinaryOp) (o h : Outcome values.Value) (k : values.Value → Outcome Task)
    → (o >>= λ v. h >>= λ u. operate op u v >>= k) ≡ (eval.updated op o h >>= k)
regrouped op (gives v) (gives u) k = refl
regrouped op (gives v) (faults e) k = refl
regrouped op (gives v) wrong k = refl
regrouped op (faults e) h k = refl
regrouped op wrong h k = refl

module _ (f : CodeFrame) (x : ℕ) (op : BinaryOp) (on : ℕ) (e : Operand) where
  abbrev new_value : Outcome values.Value
  new_value = eval.updated op (evaluate f.cells e) (held (slice_get f.cells x))

  update_is : updated f x op on (also e nothing) ≡ (new_value >>= stored f x on)
  update_is =
      one_operand (evaluate f.cells e) (λ v. held (slice_get f.cells x) >>= λ u. operate op u v >>= stored f x on)
      ∙ regrouped op (evaluate f.cells e) (held (slice_get f.cells x)) (stored f x on)

  pub update_right : ¬ (updated f x op on (also e nothing) ≡ wrong) → ¬ (new_value ≡ wrong)
  update_right right = evaluated_right new_value (stored f x on) (λ w. right (update_is ∙ w))

  pub update_stays : (caller deepest : Bool) → ¬ (updated f x op on (also e nothing) ≡ wrong)
      → not (is_fault new_value) ≡ stays caller deepest (updated f x op on (also e nothing))
  update_stays caller deepest right =
      sym (and_true _)
      ∙ by_operands caller deepest true new_value (stored f x on)
      (λ v. comes_then caller deepest true (written (slice_get f.cells x) x v f.cells) _ (sure_written (slice_get f.cells x) x v f.cells) (λ cells. refl))
      (λ w. right (update_is ∙ w))
      ∙ ap (stays caller deepest) (sym update_is)

-- the operands, where there is one
pub only_operand : (os : List code.Operand) (a : code.Operand) → 1 ≤ length os → length os < 2 → a ≡ get_or os 0 a
    → operands_of os ≡ also (operand_of a) nothing
only_operand [] a h k e = absurd (omega (arith, h))
only_operand (b ∷ []) a h k e = ap (λ a. also (operand_of a) nothing) (sym e)
only_operand (b ∷ c ∷ os) a h k e = absurd (omega (arith, k))

-- an assignment with an operator wants one operand
module _ (f : CodeFrame) (x : ℕ) (op : BinaryOp) (on : ℕ) (caller deepest : Bool) where
  pub update_none : false ≡ stays caller deepest (updated f x op on nothing)
  update_none = refl

  two : (o p : Outcome values.Value) (q : Outcome (List values.Value)) (k : values.Value → Outcome Task)
      → stays caller deepest (((o >>= λ x. (p >>= λ y. q >>= λ ys. gives (y ∷ ys)) >>= λ xs. gives (x ∷ xs)) >>= only) >>= k) ≡ false
  two (faults e) p q k = refl
  two wrong p q k = refl
  two (gives x) (faults e) q k = refl
  two (gives x) wrong q k = refl
  two (gives x) (gives y) (faults e) k = refl
  two (gives x) (gives y) wrong k = refl
  two (gives x) (gives y) (gives ys) k = refl

  pub update_many : (a b : Operand) (es : Operands) → false ≡ stays caller deepest (updated f x op on (also a (also b es)))
  update_many a b es = sym (two (evaluate f.cells a) (evaluate f.cells b) (evaluate_all f.cells es) _)

  pub not_one : (os : List code.Operand) → 2 ≤ length os → false ≡ stays caller deepest (updated f x op on (operands_of os))
  not_one [] many = absurd (omega (arith, many))
  not_one (a ∷ []) many = absurd (omega (arith, many))
  not_one (a ∷ b ∷ os) many = update_many (operand_of a) (operand_of b) (operands_of os)

-- what is told by how many frames lie below the innermost
caller_by : (fs : List CodeFrame) → not (nat_eq (length fs) 0) ≡ has_caller fs
caller_by [] = refl
caller_by (f ∷ fs) = ap not (eqb-suc-zero (length fs))

pub caller_told : (under : List CodeFrame) (n : ℕ) → n ≡ length under → not (nat_eq n 0) ≡ has_caller (reverse under)
caller_told under n lengths = ap (λ k. not (nat_eq k 0)) (lengths ∙ sym (length-reverse under)) ∙ caller_by (reverse under)

pub depth_told : (top : CodeFrame) (under : List CodeFrame) (n : ℕ) → n ≡ length under → nat_le 999 n ≡ is_deepest (top ∷ reverse under)
depth_told top under n lengths = ap (nat_le 999) (lengths ∙ sym (length-reverse under)) ∙ sym (leb-suc-suc 999 (length (reverse under)))

-- a goroutine whose task is not wrong is not finished, and goes on alone as its innermost frame does
pub alone_by : (code : ProgramCode) (finished : Bool) (top : CodeFrame) (under : List CodeFrame) (i : Instruction) (caller deepest alone : Bool)
    → ¬ (task_in code (frames_by finished top under) ≡ wrong) → instruction_in code top ≡ gives i
    → caller ≡ has_caller (reverse under) → deepest ≡ is_deepest (top ∷ reverse under) → alone ≡ stays caller deepest (task top i)
    → alone ≡ stays_in (frames_by finished top under) (task_in code (frames_by finished top under))
alone_by code true top under i caller deepest alone right at below deep goes = absurd (right refl)
alone_by code false top under i caller deepest alone right at below deep goes =
    goes
    ∙ ap (λ b. stays b deepest (task top i)) below
    ∙ ap (λ b. stays (has_caller (reverse under)) b (task top i)) deep
    ∙ ap (λ o. stays (has_caller (reverse under)) (is_deepest (top ∷ reverse under)) (o >>= λ i. task top i)) (sym at)
