-- Frames of functions (Go: Function declarations, Calls).
use Rattle.std.specs.Prelude.{ℕ, Bool, true, false, List, [], ◌∷◌, map, length, replicate, slice_get, slice_set, Option, Some, None, if◌then◌else◌}
use Rattle.gr_base.specs.declared.values.Value.{Value}
use Rattle.gr_program.specs.Programs.{Parameter, Takes, Function, FunctionIs}
use Rattle.gr_rules.specs.Outcomes.{Outcome, gives, wrong, ◌>>=◌}
use Rattle.gr_rules.specs.Operands.{Done, Operands, nothing, also}
use Rattle.gr_rules.specs.Evaluation.{Variables}
use Rattle.gr_rules.specs.Points.{closing, Work, Eval, Point, at, onto, point_after}

-- a function that was called and has not returned: its number, its variables, and where it stands
pub record Frame : Type 0 where
  pub function : ℕ
  pub variables : Variables
  pub point : Point

-- the variables, where there is one with the number, with this value in it
abbrev pub written : Option (Option Value) → ℕ → Value → Variables → Outcome Variables
written None k v held = wrong
written (Some old) k v held = gives (slice_set held k (Some v))

-- Values given to variables, from left to right. The blank identifier keeps nothing (Go: Assignment statements). Values
-- without a variable are dropped: where a clause of a select asks for the value alone, whether there was one is dropped.
abbrev pub assigned : List (Option ℕ) → List Value → Variables → Outcome Variables
assigned [] vs held = gives held
assigned (Some k ∷ ks) (v ∷ vs) held = written (slice_get held k) k v held >>= λ held. assigned ks vs held
assigned (None ∷ ks) (v ∷ vs) held = assigned ks vs held
assigned _ _ held = wrong

abbrev pub variable_of : Parameter → Option ℕ
variable_of (Takes k type) = k

-- the function before its first statement, its parameters having these values
abbrev pub called : ℕ → List Value → Function → Outcome Frame
called number vs (FunctionIs name parameters result variables body last) =
    assigned (map variable_of parameters) vs (replicate (length variables) None) >>= λ held.
    gives (record { function = number; variables = held; point = point_after (onto body (closing last)) })

-- the frame at this point
abbrev pub moved : Frame → Point → Frame
moved f p = record f { point = p }

-- the frame past its statement
abbrev pub goes_on : Frame → Frame
goes_on f = moved f (point_after f.point.rest)

-- a call or a receive that is a statement is over once it is done (Go: Expression statements)
abbrev pub is_over : Work → Operands → Bool
is_over Eval (also (Done v) nothing) = true
is_over _ _ = false

-- the frame with these operands, after one more part is done
abbrev pub filled : Frame → Operands → Frame
filled f operands =
    if is_over f.point.work operands
    then goes_on f
    else moved f (at f.point.place f.point.work operands f.point.rest)
