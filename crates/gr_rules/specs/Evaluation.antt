-- Evaluation of expressions without calls, receives, `make`, `len` and `cap`, which have steps of their own. It goes from
-- left to right, operands before their operator (Go: Order of evaluation).
use Rattle.std.specs.Prelude.{Option, Some, List, [], ◌∷◌, slice_get, if◌then◌else◌}
use Rattle.gr_base.specs.declared.values.Value.{Value}
use Rattle.gr_rules.specs.Outcomes.{Outcome, gives, wrong, ◌>>=◌}
use Rattle.gr_rules.specs.Operators.{operate, apply, settles}
use Rattle.gr_rules.specs.Operands.{Operand, Done, Variable, Unary, Binary, Decided, Operands, nothing, also}

-- the values of a function's variables by their numbers; none before the variable is declared
abbrev pub Variables : Type 0
Variables = List (Option Value)

abbrev pub held : Option (Option Value) → Outcome Value
held o = elim o [ Some (Some v) ↦ gives v | _ ↦ wrong ]

-- `&&` and `||` leave the right operand alone where the left one decides (Go: Logical operators)
abbrev pub evaluate : Variables → Operand → Outcome Value
evaluate vs (Done v) = gives v
evaluate vs (Variable x) = held (slice_get vs x)
evaluate vs (Unary op a) = evaluate vs a >>= apply op
evaluate vs (Binary op a b) = evaluate vs a >>= λ x. if settles op x then gives x else (evaluate vs b >>= operate op x)
evaluate vs (Decided op x b) = held (slice_get vs x) >>= λ v. if settles op v then gives v else evaluate vs b
evaluate vs _ = wrong

abbrev pub evaluate_all : Variables → Operands → Outcome (List Value)
evaluate_all vs nothing = gives []
evaluate_all vs (also a rest) = evaluate vs a >>= λ x. evaluate_all vs rest >>= λ xs. gives (x ∷ xs)
