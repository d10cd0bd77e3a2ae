-- Operands without a next part evaluate to a value of their sort, or to a fault.
use Rattle.std.proofs.Common.{◌≡◌, ℕ, Bool, true, false, if◌then◌else◌, List, ◌∷◌, Some, refl, sym, ◌∙◌, subst}
use Rattle.std.proofs.lemmas.Option.{same_Some}
use Rattle.gr_tree.specs.declared.expr.BinaryOp.{BinaryOp}
use Rattle.gr_base.specs.declared.values.Value.{Value}
use Rattle.gr_rules.specs.Outcomes.{Outcome, gives, ◌>>=◌}
use Rattle.gr_rules.specs.Operators.{operate, settles}
use Rattle.gr_rules.specs.Operands.{Operand, Done, Variable, Unary, Binary, Receive, Call, Len, Cap, Make, Operands, also}
use Rattle.gr_rules.specs.Evaluation.{Variables, held, evaluate, evaluate_all}
use Rattle.gr_rules.specs.Parts.{Ask, Calls, Receives, Makes, CountsItems, CountsPlaces, Decides, Next, Plain, Asks, within, is_logical, on_right, next, next_of}
use Rattle.gr_causal.specs.Sequences.{In}
use Rattle.type_safety.proofs.Sorts.{Sort, Made, HasSort, no_value, one_value, Yields, yields, faulty, BinarySorts, Setting, SortedOperand, done, variable, unary, binary, receive, call, len, cap, make, SortedOperands, no_operand, one_operand, Holding, sort_at}
use Rattle.type_safety.proofs.SortedValues.{operate_yields, apply_yields, then_yields, logical_sorts, settles_logical}
use Rattle.type_safety.proofs.Promises.{YieldAll, yield_all, one_faulty, Evaluates, EvaluatesAll}

-- What has no next part.
no_ask : {A : Type 0} {ask : Ask} {with : Value → A} → Asks ask with ≡ Plain → ⊥
no_ask e = cc

pub within_plain : {A B : Type 0} (f : A → B) (x : Next A) (other : Next B) → within f x other ≡ Plain → (x ≡ Plain)
    × (other ≡ Plain)
within_plain f Plain other e = (refl, e)
within_plain f (Asks ask with) other e = absurd (no_ask e)

-- a part that asks for itself
pub asks_itself : {A B : Type 0} (f : A → B) (x : Next A) (ask : Ask) (with : Value → B)
    → within f x (Asks ask with) ≡ Plain → ⊥
asks_itself f x ask with e = no_ask (within_plain f x (Asks ask with) e).1

pub right_plain : (op : BinaryOp) (a b : Operand) (x : Next Operand) → on_right op a b x ≡ Plain → x ≡ Plain
right_plain op a b Plain e = refl
right_plain op a b (Asks ask with) e = absurd (by_op (is_logical op) e)
  where
    by_op : (l : Bool)
        → (if l then Asks (Decides op a)
        (λ v. if settles op v then Done v else b) else Asks ask (λ v. Binary op a (with v))) ≡ Plain → ⊥
    by_op true e = no_ask e
    by_op false e = no_ask e

-- Evaluation.
module _ (d : Setting) (made : Made) (live : List ℕ) (vs : Variables) (holding : Holding d.variables made live vs) where
  variable_yields : (x : ℕ) (k : Sort) → sort_at d.variables x ≡ Some k → In x live
      → Yields made (evaluate vs (Variable x)) k
  variable_yields x k e i =
      let v = holding.values x i in
      let l = holding.sorts x v.0 v.1 in
      subst (λ o. Yields made (held o) k) (sym v.1) (yields (subst (HasSort made v.0) (same_Some _ _ (sym l.1 ∙ e)) l.2))

  -- the right operand where the left one does not decide
  right_yields : (op : BinaryOp) (b : Operand) {k l : Sort} (x : Value) → BinarySorts op k l → HasSort made x k
      → Yields made (evaluate vs b) k
      → Yields made (if settles op x then gives x else (evaluate vs b >>= operate op x)) l
  right_yields op b {k} {l} x o h y = by_settled (settles op x) refl
    where
      by_settled : (z : Bool) → settles op x ≡ z
          → Yields made (if z then gives x else (evaluate vs b >>= operate op x)) l
      by_settled true e =
          let q = logical_sorts op (settles_logical op x e) o in
          yields (subst (HasSort made x) (q.0 ∙ sym q.1) h)
      by_settled false e = then_yields y (λ v g. operate_yields op o h g)

  evaluated : {t : Operand} {k : Sort} → SortedOperand d made live t k → next t ≡ Plain
      → Yields made (evaluate vs t) k
  evaluated (done h) e = yields h
  evaluated (variable {x} {k} s i) e = variable_yields x k s i
  evaluated (unary {op} {a} o s) e =
      then_yields (evaluated s (within_plain (Unary op) (next a) Plain e).0) (λ v h. apply_yields op o h)
  evaluated (binary {op} {a} {b} o s t) e =
      let p = within_plain (λ x. Binary op x b) (next a) (on_right op a b (next b)) e in
      let y = evaluated t (right_plain op a b (next b) p.1) in
      then_yields (evaluated s p.0) (λ v h. right_yields op b v o h y)
  evaluated (receive {c} {zero} s h) e = absurd (asks_itself (λ x. Receive x zero) (next c) (Receives c zero) Done e)
  evaluated (call {n} {arguments} g s) e =
      absurd (asks_itself (Call n) (next_of arguments) (Calls n arguments) Done e)
  evaluated (len {c} s) e = absurd (asks_itself Len (next c) (CountsItems c) Done e)
  evaluated (cap {c} s) e = absurd (asks_itself Cap (next c) (CountsPlaces c) Done e)
  evaluated (make {n} s) e = absurd (asks_itself Make (next n) (Makes n) Done e)

  then_all : {o : Outcome Value} {p : Outcome (List Value)} {k : Sort} {ks : List Sort}
      → Yields made o k → YieldAll made p ks → YieldAll made (o >>= λ x. p >>= λ xs. gives (x ∷ xs)) (k ∷ ks)
  then_all (yields h) (yield_all g) = yield_all (one_value h g)
  then_all (yields h) one_faulty = one_faulty
  then_all faulty g = one_faulty

  evaluated_all : {ts : Operands} {ks : List Sort} → SortedOperands d made live ts ks → next_of ts ≡ Plain
      → YieldAll made (evaluate_all vs ts) ks
  evaluated_all no_operand e = yield_all no_value
  evaluated_all (one_operand {a} {rest} s others) e =
      let p = within_plain (λ x. also x rest) (next a) (within (also a) (next_of rest) Plain) e in
      then_all (evaluated s p.0) (evaluated_all others (within_plain (also a) (next_of rest) Plain p.1).0)

pub evaluates : Evaluates
evaluates d made live held t k h s e = evaluated d made live held h s e

pub evaluates_all : EvaluatesAll
evaluates_all d made live held ts ks h s e = evaluated_all d made live held h s e
