-- Arguments of a call that come to stand in cells one by one.
use Rattle.std.proofs.Common.{◌≡◌, ℕ, zero, suc, Bool, true, false, List, [], ◌∷◌, ◌+◌, ◌<◌, ◌≤◌, length, drop, reverse, replicate, Option, Some, None, refl, sym, ap, ◌∙◌, arith, get_or}
use Rattle.std.proofs.lemmas.List.{drop_more, drop_all}
use Rattle.std.specs.Prelude.{slice_get, if◌then◌else◌}
use Rattle.gr_base.specs.declared.values.Value.{Value}
use Rattle.gr_base.specs.declared.kinds.Fault.{Fault}
use Rattle.gr_base.specs.declared.kinds.Fault.TheVariants.{CallDepth}
use Rattle.gr_base.specs.declared.kinds.Kind.{Kind}
use Rattle.gr_base.specs.declared.kinds.Kind.TheVariants as kinds
use Rattle.gr_rules.specs.Outcomes.{Outcome, gives, faults, wrong, ◌>>=◌}
use Rattle.gr_rules.specs.Operands.{Operands}
use Rattle.gr_rules.specs.Evaluation.{Variables, evaluate, evaluate_all}
use Rattle.gr_rules.specs.Frames.{assigned}
use Rattle.gr_rules.specs.Deeds.{Enters}
use Rattle.gr_rules.specs.Goroutines.{Status}
use Rattle.gr_rules.specs.Parts.{Calls}
use Rattle.gr_code.specs.declared.code.Operand as code
use Rattle.gr_code.specs.Instructions.{Instruction, Part}
use Rattle.gr_code.specs.CodeFrames.{ProgramCode, FunctionCode, CodeFrame, Wants, entered, task}
use Rattle.gr_code.specs.CodeViews.{operand_of, operands_of}
use Rattle.gr_code.specs.Goroutines.{CodeGoroutine, enters, faulted, with_frames, is_deepest, instruction_in, is_local_in, local_by, local_in, local_task}
use Rattle.gr_eval.specs.Stops.{Stops, is_fault}
use Rattle.gr_eval.specs.declared.stop.Stop.{Stop}
use Rattle.gr_eval.specs.declared.stop.Stop.TheVariants as stops
use Rattle.gr_goros.specs.Views.{frames_by, frames_of, is_finished}
use Rattle.gr_goros.specs.Calls.{given, passed, called, with_call, calls_with, calls, CallsWith}
use Rattle.gr_goros.proofs.CellLemmas.{one_assigned}

-- one value is given, and then the others
given_first : (ts : List (Option ℕ)) (i : ℕ) (v : Value) (vs : List Value) (cells : Variables) → ¬ (assigned (drop i ts) (v ∷ vs) cells ≡ wrong)
    → assigned (drop i ts) (v ∷ vs) cells ≡ assigned (drop (i + 1) ts) vs (given (slice_get ts i) v cells)
given_first [] zero v vs cells h = refl
given_first [] (suc i) v vs cells h =
    let one : suc i + 1 ≡ suc (i + 1) = omega arith in rw one refl
given_first (None ∷ ts) zero v vs cells h = refl
given_first (Some k ∷ ts) zero v vs cells h = one_assigned k ts v vs cells h
given_first (t ∷ ts) (suc i) v vs cells h =
    let one : suc i + 1 ≡ suc (i + 1) = omega arith in rw one (given_first ts i v vs cells h)

abbrev first_then : Outcome (List Value) → Outcome Value → Outcome (List Value)
first_then rest o = o >>= λ x. rest >>= λ xs. gives (x ∷ xs)

abbrev with_first : (i : ℕ) (ts : List (Option ℕ)) (cells : Variables) → Outcome (List Value) → Outcome Value → Outcome Variables
with_first i ts cells rest o = first_then rest o >>= λ vs. assigned (drop i ts) vs cells

given_then : (o : Outcome (List Value)) (ts : List (Option ℕ)) (i : ℕ) (v : Value) (cells : Variables)
    → ¬ (with_first i ts cells o (gives v) ≡ wrong)
    → with_first i ts cells o (gives v) ≡ (o >>= λ vs. assigned (drop (i + 1) ts) vs (given (slice_get ts i) v cells))
given_then (gives vs) ts i v cells h = given_first ts i v vs cells h
given_then (faults e) ts i v cells h = refl
given_then wrong ts i v cells h = refl

-- after some arguments
pub record Passing (own : Variables) (os : List code.Operand) (ts : List (Option ℕ)) (whole : Outcome Variables) (i : ℕ) (cells : Variables) : Type 0 where
  pub is : passed own (operands_of (drop i os)) (drop i ts) cells ≡ whole
  pub right : ¬ (whole ≡ wrong)
  pub stops : (e : Fault) → evaluate_all own (operands_of (drop i os)) ≡ faults e → evaluate_all own (operands_of os) ≡ faults e

pub begins : (own : Variables) (os : List code.Operand) (ts : List (Option ℕ)) (cells : Variables)
    → ¬ (passed own (operands_of os) ts cells ≡ wrong) → Passing own os ts (passed own (operands_of os) ts cells) 0 cells
begins own os ts cells h = record { is = refl; right = h; stops = λ e w. w }

none_left : (ts : List (Option ℕ)) (cells : Variables) → ¬ (assigned ts [] cells ≡ wrong) → assigned ts [] cells ≡ gives cells
none_left [] cells h = refl
none_left (None ∷ ts) cells h = absurd (h refl)
none_left (Some k ∷ ts) cells h = absurd (h refl)

module _ (own : Variables) (os : List code.Operand) (ts : List (Option ℕ)) (whole : Outcome Variables) (i : ℕ) (cells : Variables)
    (s : Passing own os ts whole i cells) where
  module _ (a : code.Operand) (h : i < length os) (e : a ≡ get_or os i a) where
    here : drop i os ≡ a ∷ drop (i + 1) os
    here = drop_more os i a h ∙ ap (λ c. c ∷ drop (i + 1) os) (sym e)

    next_is : with_first i ts cells (evaluate_all own (operands_of (drop (i + 1) os))) (evaluate own (operand_of a)) ≡ whole
    next_is = sym (ap (λ os. passed own (operands_of os) (drop i ts) cells) here) ∙ s.is

    pub right_here : ¬ (evaluate own (operand_of a) ≡ wrong)
    right_here w = s.right (sym next_is ∙ ap (with_first i ts cells (evaluate_all own (operands_of (drop (i + 1) os)))) w)

    pub stops_here : (e : Stop) → Stops e (evaluate own (operand_of a)) → Stops e (evaluate_all own (operands_of os))
    stops_here (stops.Fault f) w =
        s.stops f (ap (λ os. evaluate_all own (operands_of os)) here ∙ ap (first_then (evaluate_all own (operands_of (drop (i + 1) os)))) w)
    stops_here stops.NoMemory w = tt

    pub goes_on : (v : Value) (next : Variables) → evaluate own (operand_of a) ≡ gives v → next ≡ given (slice_get ts i) v cells
        → Passing own os ts whole (i + 1) next
    goes_on v next g n =
        let left = evaluate_all own (operands_of (drop (i + 1) os)) in
        let now : with_first i ts cells left (gives v) ≡ whole = ap (with_first i ts cells left) (sym g) ∙ next_is in
        record {
          is = ap (λ cells. passed own (operands_of (drop (i + 1) os)) (drop (i + 1) ts) cells) n
              ∙ sym (given_then left ts i v cells (λ w. s.right (sym now ∙ w))) ∙ now;
          right = s.right;
          stops = λ f w. s.stops f (ap (λ os. evaluate_all own (operands_of os)) here ∙ ap (first_then left) g
              ∙ ap (λ (o : Outcome (List Value)). o >>= λ xs. gives (v ∷ xs)) w);
        }

  pub ends : length os ≤ i → whole ≡ gives cells
  ends h =
      let now : assigned (drop i ts) [] cells ≡ whole = sym (ap (λ os. passed own (operands_of os) (drop i ts) cells) (drop_all i os h)) ∙ s.is in
      sym now ∙ none_left (drop i ts) cells (λ w. s.right (sym now ∙ w))

-- the same operands are passed to the same parameters alike
pub passed_alike : (own held : Variables) (es : Operands) (ts us : List (Option ℕ)) (cells blank : Variables) → held ≡ own → us ≡ ts → blank ≡ cells
    → passed held es us blank ≡ passed own es ts cells
passed_alike own held es ts us cells blank h u b =
    ap (λ own. passed own es us blank) h ∙ ap (λ ts. passed own es ts blank) u ∙ ap (passed own es ts) b

-- the frame of a function that there is, and of one that there is not
abbrev entered_by : ℕ → List Value → Option FunctionCode → Outcome CodeFrame
entered_by number vs o = elim o [
  | Some c ↦ assigned c.parameters vs (replicate c.cells None) >>= λ held. gives (record { function = number; number = 0; cells = held })
  | None ↦ wrong
]

abbrev frame_with : ℕ → Outcome Variables → Outcome CodeFrame
frame_with number o = o >>= λ held. gives (record { function = number; number = 0; cells = held })

module _ (code : ProgramCode) (function : ℕ) (own : Variables) (es : Operands) where
  assoc : (o : Outcome (List Value)) (k : List Value → Outcome Variables) → (o >>= λ vs. frame_with function (k vs)) ≡ frame_with function (o >>= k)
  assoc (gives vs) k = refl
  assoc (faults e) k = refl
  assoc wrong k = refl

  called_is : (c : FunctionCode) → slice_get code.functions function ≡ Some c
      → called code function own es ≡ frame_with function (passed own es c.parameters (replicate c.cells None))
  called_is c h = ap (λ o. evaluate_all own es >>= λ vs. entered_by function vs o) h ∙ assoc (evaluate_all own es) _

  pub passed_right : (c : FunctionCode) → slice_get code.functions function ≡ Some c → ¬ (called code function own es ≡ wrong)
      → ¬ (passed own es c.parameters (replicate c.cells None) ≡ wrong)
  passed_right c h right w = right (called_is c h ∙ ap (frame_with function) w)

  pub called_gives : (c : FunctionCode) (cells : Variables) → slice_get code.functions function ≡ Some c
      → passed own es c.parameters (replicate c.cells None) ≡ gives cells
      → called code function own es ≡ gives (record { function = function; number = 0; cells = cells })
  called_gives c cells h w = called_is c h ∙ ap (frame_with function) w

  pub operands_right : ¬ (called code function own es ≡ wrong) → ¬ (evaluate_all own es ≡ wrong)
  operands_right right w = right (ap (λ (o : Outcome (List Value)). o >>= entered code function) w)

  pub none_called : (vs : List Value) → slice_get code.functions function ≡ None → evaluate_all own es ≡ gives vs → called code function own es ≡ wrong
  none_called vs h w = ap (λ (o : Outcome (List Value)). o >>= entered code function) w ∙ ap (entered_by function vs) h

-- the step of a goroutine at a call
abbrev deep_or : CodeGoroutine → Bool → Outcome (Kind × CodeGoroutine) → Outcome (Kind × CodeGoroutine)
deep_or g deep o = if deep then gives (kinds.Fault CallDepth, faulted g) else o

module _ (code : ProgramCode) (g : CodeGoroutine) (function : ℕ) where
  abbrev pushed : List CodeFrame → Outcome CodeFrame → Outcome (Kind × CodeGoroutine)
  pushed fs o = o >>= λ f. gives (kinds.Call, with_frames g (f ∷ fs))

  shallow : (fs : List CodeFrame) (vs : List Value) → is_deepest fs ≡ false → enters code g function vs fs ≡ pushed fs (entered code function vs)
  shallow fs vs d = ap (λ deep. deep_or g deep (pushed fs (entered code function vs))) d

  right_by : (fs : List CodeFrame) (o : Outcome (List Value)) → is_deepest fs ≡ false → ¬ (calls_with code g function fs o ≡ wrong)
      → ¬ ((o >>= entered code function) ≡ wrong)
  right_by fs (gives vs) d h w = h (shallow fs vs d ∙ ap (pushed fs) w)
  right_by fs (faults e) d h w = absurd (let no : true ≡ false = ap is_fault w in cc)
  right_by fs wrong d h w = h refl

  gives_by : (fs : List CodeFrame) (o : Outcome (List Value)) (f : CodeFrame) → is_deepest fs ≡ false → (o >>= entered code function) ≡ gives f
      → calls_with code g function fs o ≡ with_call (record g { frames = fs }) f
  gives_by fs (gives vs) f d w = shallow fs vs d ∙ ap (pushed fs) w
  gives_by fs (faults e) f d w = cc
  gives_by fs wrong f d w = cc

  deep_by : (fs : List CodeFrame) (vs : List Value) → is_deepest fs ≡ true → calls_with code g function fs (gives vs) ≡ gives (kinds.Fault CallDepth, faulted g)
  deep_by fs vs d = ap (λ deep. deep_or g deep (pushed fs (entered code function vs))) d

  module _ (es : Operands) (s : Status) (top : CodeFrame) (under : List CodeFrame) (live : is_finished s ≡ false) where
    at_top : calls code g function es (frames_of s top under) ≡ calls_with code g function (frames_of s top under) (evaluate_all top.cells es)
    at_top =
        ap (λ end. calls code g function es (frames_by end top under)) live
        ∙ sym (ap (λ end. calls_with code g function (frames_by end top under) (evaluate_all top.cells es)) live)

    pub call_right : is_deepest (frames_of s top under) ≡ false → ¬ (calls code g function es (frames_of s top under) ≡ wrong)
        → ¬ (called code function top.cells es ≡ wrong)
    call_right d h = right_by (frames_of s top under) (evaluate_all top.cells es) d (λ w. h (at_top ∙ w))

    pub call_gives : (f : CodeFrame) → is_deepest (frames_of s top under) ≡ false → called code function top.cells es ≡ gives f
        → calls code g function es (frames_of s top under) ≡ with_call (record g { frames = frames_of s top under }) f
    call_gives f d w = at_top ∙ gives_by (frames_of s top under) (evaluate_all top.cells es) f d w

    pub call_faults : (e : Fault) → evaluate_all top.cells es ≡ faults e
        → calls code g function es (frames_of s top under) ≡ gives (kinds.Fault e, faulted g)
    call_faults e w = at_top ∙ ap (calls_with code g function (frames_of s top under)) w

    pub call_evaluates : ¬ (calls code g function es (frames_of s top under) ≡ wrong) → ¬ (evaluate_all top.cells es ≡ wrong)
    call_evaluates h w = h (at_top ∙ ap (calls_with code g function (frames_of s top under)) w)

    pub call_deep : (vs : List Value) → is_deepest (frames_of s top under) ≡ true → evaluate_all top.cells es ≡ gives vs
        → calls code g function es (frames_of s top under) ≡ gives (kinds.Fault CallDepth, faulted g)
    call_deep vs d w = at_top ∙ ap (calls_with code g function (frames_of s top under)) w ∙ deep_by (frames_of s top under) vs d

    call_by : (f : CodeFrame) (below : List CodeFrame) (slot : Option ℕ) (on : ℕ) (o : Outcome (List Value))
        → local_by g (local_task code g f below (Part (Calls function es) slot on)) (o >>= λ vs. gives (Wants (Enters function vs)))
        ≡ calls_with code g function (f ∷ below) o
    call_by f below slot on (gives vs) = refl
    call_by f below slot on (faults e) = refl
    call_by f below slot on wrong = refl

    abbrev local_at : Instruction → Outcome (Kind × CodeGoroutine)
    local_at i = local_by g (local_task code g top (reverse under) i) (task top i)

    -- the step of a goroutine at a call
    pub local_is : (i : Instruction) → instruction_in code top ≡ gives i → CallsWith i function es
        → local_in code g (frames_of s top under) ≡ calls code g function es (frames_of s top under)
    local_is i here c =
        ap (λ end. local_in code g (frames_by end top under)) live
        ∙ ap (λ (o : Outcome Instruction). o >>= local_at) here
        ∙ ap local_at c.2
        ∙ call_by top (reverse under) c.0 c.1 (evaluate_all top.cells es)
        ∙ sym (ap (λ end. calls code g function es (frames_by end top under)) live)

live_by : (code : ProgramCode) (end : Bool) (top : CodeFrame) (under : List CodeFrame) → is_local_in code (frames_by end top under) ≡ true → end ≡ false
live_by code true top under h = sym h
live_by code false top under h = refl

-- a goroutine whose step is local is not finished
pub live_if_local : (code : ProgramCode) (s : Status) (top : CodeFrame) (under : List CodeFrame) → is_local_in code (frames_of s top under) ≡ true
    → is_finished s ≡ false
live_if_local code s top under h = live_by code (is_finished s) top under h
