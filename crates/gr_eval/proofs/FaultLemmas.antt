-- Whether one of some operands stops the program.
use Rattle.std.proofs.Common.{◌≡◌, ◌≢◌, ℕ, true, false, List, ◌∷◌, ◌<◌, ◌≤◌, ◌+◌, length, drop, get_or, refl, sym, ap, ◌∙◌}
use Rattle.std.proofs.lemmas.List.{drop_more, drop_all}
use Rattle.gr_base.specs.declared.values.Value.{Value}
use Rattle.gr_code.specs.declared.code.Operand as code
use Rattle.gr_code.specs.CodeViews.{operand_of, operands_of}
use Rattle.gr_rules.specs.Outcomes.{Outcome, gives, faults, wrong, ◌>>=◌}
use Rattle.gr_rules.specs.Operands.{Operands}
use Rattle.gr_rules.specs.Evaluation.{Variables, evaluate, evaluate_all}
use Rattle.gr_eval.specs.Stops.{is_fault}

-- what is still to be evaluated, of operands that meet no value of a wrong kind
pub record Rest (cells : Variables) (operands : List code.Operand) (i : ℕ) : Type 0 where
  pub right : evaluate_all cells (operands_of (drop i operands)) ≢ wrong
  pub same : is_fault (evaluate_all cells (operands_of (drop i operands))) ≡ is_fault (evaluate_all cells (operands_of operands))

pub all : (cells : Variables) (operands : List code.Operand) → evaluate_all cells (operands_of operands) ≢ wrong → Rest cells operands 0
all cells operands right = record { right = right; same = refl }

-- the values after that of the first operand
abbrev then_rest : Variables → Operands → Outcome Value → Outcome (List Value)
then_rest cells rest o = o >>= λ x. evaluate_all cells rest >>= λ xs. gives (x ∷ xs)

module _ (cells : Variables) (operands : List code.Operand) (i : ℕ) (a : code.Operand) (within : i < length operands) (here : a ≡ get_or operands i a)
    (rest : Rest cells operands i) where
  abbrev after : Outcome Value → Outcome (List Value)
  after = then_rest cells (operands_of (drop (i + 1) operands))

  next_is : evaluate_all cells (operands_of (drop i operands)) ≡ after (evaluate cells (operand_of a))
  next_is = ap (λ os. evaluate_all cells (operands_of os)) (drop_more operands i a within ∙ ap (λ c. c ∷ drop (i + 1) operands) (sym here))

  pub next_right : evaluate cells (operand_of a) ≢ wrong
  next_right w = rest.right (next_is ∙ ap after w)

  pub stops_here : is_fault (evaluate cells (operand_of a)) ≡ true → is_fault (evaluate_all cells (operands_of operands)) ≡ true
  stops_here fault = sym rest.same ∙ ap is_fault next_is ∙ by (evaluate cells (operand_of a)) fault
    where
      by : (o : Outcome Value) → is_fault o ≡ true → is_fault (after o) ≡ true
      by (gives x) e = absurd (let no : false ≡ true = e in cc)
      by (faults f) e = refl
      by wrong e = absurd (let no : false ≡ true = e in cc)

  pub goes_on : is_fault (evaluate cells (operand_of a)) ≡ false → Rest cells operands (i + 1)
  goes_on none = by (evaluate cells (operand_of a)) refl none
    where
      joined : (o : Outcome (List Value)) (x : Value) → is_fault (o >>= λ xs. gives (x ∷ xs)) ≡ is_fault o
      joined (gives xs) x = refl
      joined (faults f) x = refl
      joined wrong x = refl

      by : (o : Outcome Value) → evaluate cells (operand_of a) ≡ o → is_fault o ≡ false → Rest cells operands (i + 1)
      by (gives x) is e = record {
        right = λ w. rest.right (next_is ∙ ap after is ∙ ap (λ (o : Outcome (List Value)). o >>= λ xs. gives (x ∷ xs)) w);
        same = sym (joined (evaluate_all cells (operands_of (drop (i + 1) operands))) x) ∙ sym (ap is_fault (next_is ∙ ap after is)) ∙ rest.same;
      }
      by (faults f) is e = absurd (let no : true ≡ false = e in cc)
      by wrong is e = absurd (next_right is)

pub none_stops : (cells : Variables) (operands : List code.Operand) (i : ℕ) → Rest cells operands i → length operands ≤ i
    → false ≡ is_fault (evaluate_all cells (operands_of operands))
none_stops cells operands i rest h =
    ap (λ os. is_fault (evaluate_all cells (operands_of os))) (sym (drop_all i operands h)) ∙ rest.same
