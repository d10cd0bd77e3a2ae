-- One more operand, of those that are evaluated from left to right.
use Rattle.std.proofs.Common.{◌≡◌, ◌≢◌, ℕ, List, ◌∷◌, ◌++◌, ◌<◌, ◌+◌, length, drop, get_or, sym, ap, ◌∙◌}
use Rattle.std.proofs.lemmas.List.{drop_more}
use Rattle.gr_base.specs.declared.values.Value.{Value}
use Rattle.gr_code.specs.declared.code.Operand as code
use Rattle.gr_code.specs.CodeViews.{operand_of, operands_of}
use Rattle.gr_rules.specs.Outcomes.{Outcome, gives, wrong, ◌>>=◌}
use Rattle.gr_rules.specs.Operands.{Operands}
use Rattle.gr_rules.specs.Evaluation.{Variables, evaluate, evaluate_all}

-- what is done, and what is still to be done
abbrev pub after : List Value → Outcome (List Value) → Outcome (List Value)
after vs o = o >>= λ ws. gives (vs ++ ws)

-- the values of operands, after those that are done
abbrev pub values_after : Variables → List Value → List code.Operand → Outcome (List Value)
values_after cells vs bs = after vs (evaluate_all cells (operands_of bs))

-- the values after that of the first operand
abbrev first_then : Variables → List Value → Operands → Outcome Value → Outcome (List Value)
first_then cells vs rest o = after vs (o >>= λ x. evaluate_all cells rest >>= λ xs. gives (x ∷ xs))

next_is : (bs : List code.Operand) (i : ℕ) (a : code.Operand) → i < length bs → a ≡ get_or bs i a → drop i bs ≡ a ∷ drop (i + 1) bs
next_is bs i a h e = drop_more bs i a h ∙ ap (λ c. c ∷ drop (i + 1) bs) (sym e)

-- where no value of a wrong kind is met, none is met in the next operand
pub next_right : (cells : Variables) (vs : List Value) (bs : List code.Operand) (i : ℕ) (a : code.Operand) → i < length bs → a ≡ get_or bs i a
    → values_after cells vs (drop i bs) ≡ evaluate_all cells (operands_of bs) → evaluate_all cells (operands_of bs) ≢ wrong
    → evaluate cells (operand_of a) ≢ wrong
next_right cells vs bs i a h e done right w = right (
    sym done ∙ ap (values_after cells vs) (next_is bs i a h e) ∙ ap (first_then cells vs (operands_of (drop (i + 1) bs))) w)
