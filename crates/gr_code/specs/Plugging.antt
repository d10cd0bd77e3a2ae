-- The next part replaced by a temporary: the operands that the instruction after the part means. A statement's code is its
-- operands plugged again and again.
use Rattle.std.specs.Prelude.{◌≡◌, ℕ, ◌+◌, false, Option, Some, None, if◌then◌else◌}
use Rattle.gr_tree.specs.declared.expr.BinaryOp.{BinaryOp}
use Rattle.gr_base.specs.declared.values.Value.{Value}
use Rattle.gr_rules.specs.Operators.{settles}
use Rattle.gr_rules.specs.Operands.{Operand, Done, Variable, Unary, Binary, Receive, Call, Len, Cap, Make, Decided, Operands, nothing, also}
use Rattle.gr_rules.specs.Parts.{Ask, Decides, Next, Plain, Asks, is_logical}
use Rattle.gr_code.specs.Filling.{Temporaries, with_value}

-- the part of an operand is one of the whole, and comes before the other
abbrev pub inside : {A B : Type 0} → (A → B) → Option A → Option B → Option B
inside f o other = elim o [ Some a ↦ Some (f a) | None ↦ other ]

abbrev pub plug_right : ℕ → BinaryOp → Operand → Operand → Option Operand → Option Operand
plug_right d op a b o = elim o [ Some c ↦ Some (if is_logical op then Decided op d b else Binary op a c) | None ↦ None ]

-- with the temporary of this number for the next part, if there is one
abbrev mutual
  pub plug : ℕ → Operand → Option Operand
  plug d (Done v) = None
  plug d (Variable x) = None
  plug d (Unary op a) = inside (Unary op) (plug d a) None
  plug d (Binary op a b) = inside (λ x. Binary op x b) (plug d a) (plug_right d op a b (plug d b))
  plug d (Receive c zero) = inside (λ x. Receive x zero) (plug d c) (Some (Variable d))
  plug d (Call f arguments) = inside (Call f) (plug_all d arguments) (Some (Variable d))
  plug d (Len c) = inside Len (plug d c) (Some (Variable d))
  plug d (Cap c) = inside Cap (plug d c) (Some (Variable d))
  plug d (Make n) = inside Make (plug d n) (Some (Variable d))
  plug d (Decided op x b) = inside (Decided op x) (plug d b) None

  pub plug_all : ℕ → Operands → Option Operands
  plug_all d nothing = None
  plug_all d (also a others) = inside (λ x. also x others) (plug d a) (inside (also a) (plug_all d others) None)

-- what is plugged, and filled with the part's value, is what the rules have in its place; there is nothing to plug just where
-- there is no part
abbrev pub IsPlugged : {A : Type 0} → (Temporaries → A → A) → ℕ → Next A → Option A → Type 0
IsPlugged f d Plain None = Unit {0}
IsPlugged f d (Asks ask k) (Some a) = (ts : Temporaries) (v : Value) → f (with_value ts d v) a ≡ f ts (k v)
IsPlugged f d _ _ = ⊥

-- a decision that does not settle
abbrev pub Unsettled : Ask → Value → Type 0
Unsettled ask v = elim ask [ Decides op left ↦ settles op v ≡ false | _ ↦ Unit {0} ]

-- what is plugged is clear as the whole was
abbrev pub IsCleared : {A : Type 0} → (Temporaries → A → Type 0) → ℕ → Next A → Option A → A → Type 0
IsCleared C d Plain None whole = Unit {0}
IsCleared C d (Asks ask k) (Some a) whole = (ts : Temporaries) (v : Value) → C ts whole → Unsettled ask v → C (with_value ts d v) a
IsCleared C d _ _ whole = ⊥

-- what is plugged has variables below the next number
abbrev pub IsBounded : {A : Type 0} → (ℕ → A → Type 0) → ℕ → Option A → Type 0
IsBounded B d o = elim o [ Some a ↦ B (d + 1) a | None ↦ Unit {0} ]
