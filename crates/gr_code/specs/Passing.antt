-- Where a left operand settles `&&` or `||`, the instructions of the right operand's parts are skipped, and plugging those
-- parts changes nothing.
use Rattle.std.specs.Prelude.{◌≡◌, ◌⊎◌, ℕ, zero, suc, ◌+◌, true, false, Option, Some, None, if◌then◌else◌}
use Rattle.std.specs.Option.{option_or}
use Rattle.gr_tree.specs.declared.expr.BinaryOp.{BinaryOp}
use Rattle.gr_base.specs.declared.values.Value.{Value}
use Rattle.gr_rules.specs.Operators.{settles}
use Rattle.gr_rules.specs.Operands.{Operand, Done, Variable, Unary, Binary, Receive, Call, Len, Cap, Make, Decided, Operands, nothing, also}
use Rattle.gr_rules.specs.Parts.{Decides, Next, Plain, Asks, is_logical}
use Rattle.gr_code.specs.Filling.{Temporaries, with_value, Clear, ClearAll}

-- the parts of a right operand, and the decision before them where there is one
abbrev pub with_decision : BinaryOp → ℕ → ℕ
with_decision op zero = zero
with_decision op (suc n) = if is_logical op then suc (suc n) else suc n

-- how many parts there are, with those of right operands that may be passed by
abbrev mutual
  pub parts : Operand → ℕ
  parts (Done v) = 0
  parts (Variable x) = 0
  parts (Unary op a) = parts a
  parts (Binary op a b) = parts a + with_decision op (parts b)
  parts (Receive c initial) = parts c + 1
  parts (Call f arguments) = parts_in arguments + 1
  parts (Len c) = parts c + 1
  parts (Cap c) = parts c + 1
  parts (Make n) = parts n + 1
  parts (Decided op x b) = parts b

  pub parts_in : Operands → ℕ
  parts_in nothing = 0
  parts_in (also a others) = parts a + parts_in others

-- what is plugged has one part less than this many
abbrev pub IsOneLess : {A : Type 0} → (A → ℕ) → ℕ → Option A → Type 0
IsOneLess count n o = elim o [ Some a ↦ n ≡ count a + 1 | None ↦ n ≡ 0 ]

-- how many parts are passed by where the next part is a decision that settles
abbrev pub passed_right : BinaryOp → ℕ → Option ℕ → Option ℕ
passed_right op n o = elim o [ Some m ↦ Some (if is_logical op then n else m) | None ↦ None ]

abbrev mutual
  pub passed_by : Operand → Option ℕ
  passed_by (Done v) = None
  passed_by (Variable x) = None
  passed_by (Unary op a) = option_or (passed_by a) None
  passed_by (Binary op a b) = option_or (passed_by a) (passed_right op (parts b) (passed_by b))
  passed_by (Receive c initial) = option_or (passed_by c) (Some 0)
  passed_by (Call f arguments) = option_or (passed_by_in arguments) (Some 0)
  passed_by (Len c) = option_or (passed_by c) (Some 0)
  passed_by (Cap c) = option_or (passed_by c) (Some 0)
  passed_by (Make n) = option_or (passed_by n) (Some 0)
  passed_by (Decided op x b) = option_or (passed_by b) None

  pub passed_by_in : Operands → Option ℕ
  passed_by_in nothing = None
  passed_by_in (also a others) = option_or (passed_by a) (option_or (passed_by_in others) None)

abbrev pub Unsettling : BinaryOp → Option Value → Type 0
Unsettling op o = elim o [ Some v ↦ settles op v ≡ false | None ↦ Unit {0} ]

-- the next n parts are those left of a right operand that is not wanted; all else is clear
abbrev mutual
  pub Passing : ℕ → Temporaries → Operand → Type 0
  Passing n ts (Done v) = ⊥
  Passing n ts (Variable x) = ⊥
  Passing n ts (Unary op a) = Passing n ts a
  Passing n ts (Binary op a b) = (Passing n ts a × Clear ts b) ⊎ ((parts a ≡ 0) × (is_logical op ≡ false) × Passing n ts b)
  Passing n ts (Receive c initial) = Passing n ts c
  Passing n ts (Call f arguments) = AllPassing n ts arguments
  Passing n ts (Len c) = Passing n ts c
  Passing n ts (Cap c) = Passing n ts c
  Passing n ts (Make a) = Passing n ts a
  Passing n ts (Decided op x b) =
      ((v : Value) × (ts x ≡ Some v) × (settles op v ≡ true) × (parts b ≡ n)) ⊎ (Unsettling op (ts x) × Passing n ts b)

  pub AllPassing : ℕ → Temporaries → Operands → Type 0
  AllPassing n ts nothing = ⊥
  AllPassing n ts (also a others) = (Passing n ts a × ClearAll ts others) ⊎ ((parts a ≡ 0) × AllPassing n ts others)

-- a decision that settles begins to pass by
abbrev pub BeginsToPass : {A : Type 0} → (Temporaries → A → Type 0) → (ℕ → Temporaries → A → Type 0) → ℕ
    → Next A → Option A → Option ℕ → A → Type 0
BeginsToPass C P d Plain None None whole = Unit {0}
BeginsToPass C P d (Asks ask k) (Some a) (Some n) whole =
    (ts : Temporaries) (v : Value) (op : BinaryOp) (left : Operand)
    → ask ≡ Decides op left → settles op v ≡ true → C ts whole → P n (with_value ts d v) a
BeginsToPass C P d _ _ _ whole = ⊥

-- it is plugged, filled as before, and passes one part less
abbrev pub KeepsPassing : {A : Type 0} → (A → A) → (ℕ → A → Type 0) → ℕ → Option A → A → Type 0
KeepsPassing f P n o whole = elim o [ Some a ↦ (f a ≡ f whole) × P n a | None ↦ ⊥ ]
