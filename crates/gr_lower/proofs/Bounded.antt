-- Operands below a number are below a greater one, and so is what their next part asks for.
use Rattle.std.proofs.Common.{◌≡◌, ◌≤◌, ℕ, true, false, arith}
use Rattle.std.specs.Prelude.{if◌then◌else◌}
use Rattle.gr_tree.specs.declared.expr.BinaryOp.{BinaryOp}
use Rattle.gr_base.specs.declared.values.Value.{Value}
use Rattle.gr_rules.specs.Operators.{settles}
use Rattle.gr_rules.specs.Operands.{Operand, Done, Variable, Unary, Binary, Receive, Call, Len, Cap, Make, Decided, Operands, nothing, also}
use Rattle.gr_rules.specs.Parts.{Ask, Decides, Next, Plain, Asks, within, on_right, is_logical, next, next_of}
use Rattle.gr_code.specs.Bounds.{Below, AllBelow}
use Rattle.gr_code.specs.Programs.{AskBelow}

module _ (d e : ℕ) (more : d ≤ e) where
  mutual
    pub wider : (t : Operand) → Below d t → Below e t
    wider (Done v) h = tt
    wider (Variable x) h = omega arith
    wider (Unary op a) h = wider a h
    wider (Binary op a b) h = (wider a h.0, wider b h.1)
    wider (Receive c initial) h = wider c h
    wider (Call f arguments) h = wider_all arguments h
    wider (Len c) h = wider c h
    wider (Cap c) h = wider c h
    wider (Make a) h = wider a h
    wider (Decided op x b) h = (omega arith, wider b h.1)

    pub wider_all : (es : Operands) → AllBelow d es → AllBelow e es
    wider_all nothing h = tt
    wider_all (also a others) h = (wider a h.0, wider_all others h.1)

module _ (d : ℕ) where
  abbrev AsksBelow : {A : Type 0} → Next A → Type 0
  AsksBelow Plain = Unit {0}
  AsksBelow (Asks ask k) = AskBelow d ask

  below_within : {A B : Type 0} → (f : A → B) (n : Next A) (other : Next B) → AsksBelow n → AsksBelow other → AsksBelow (within f n other)
  below_within f Plain other h g = g
  below_within f (Asks ask k) other h g = h

  below_right : (op : BinaryOp) (a b : Operand) (n : Next Operand) → Below d a → AsksBelow n → AsksBelow (on_right op a b n)
  below_right op a b Plain l h = tt
  below_right op a b (Asks ask k) l h =
      elim (is_logical op) as (λ z. AsksBelow (if z then Asks (Decides op a) (λ v. if settles op v then Done v else b) else Asks ask (λ v. Binary op a (k v))))
      [ true ↦ l | false ↦ h ]

  mutual
    below_next : (t : Operand) → Below d t → AsksBelow (next t)
    below_next (Done v) h = tt
    below_next (Variable x) h = tt
    below_next (Unary op a) h = below_within (Unary op) (next a) Plain (below_next a h) tt
    below_next (Binary op a b) h = below_within (λ x. Binary op x b) (next a) _ (below_next a h.0) (below_right op a b (next b) h.0 (below_next b h.1))
    below_next (Receive c initial) h = below_within (λ x. Receive x initial) (next c) _ (below_next c h) h
    below_next (Call f arguments) h = below_within (Call f) (next_of arguments) _ (below_next_of arguments h) h
    below_next (Len c) h = below_within Len (next c) _ (below_next c h) h
    below_next (Cap c) h = below_within Cap (next c) _ (below_next c h) h
    below_next (Make a) h = below_within Make (next a) _ (below_next a h) h
    below_next (Decided op x b) h = below_within (Decided op x) (next b) Plain (below_next b h.1) tt

    below_next_of : (es : Operands) → AllBelow d es → AsksBelow (next_of es)
    below_next_of nothing h = tt
    below_next_of (also a others) h =
        below_within (λ x. also x others) (next a) _ (below_next a h.0) (below_within (also a) (next_of others) Plain (below_next_of others h.1) tt)

  -- what the next part asks for
  pub asks_below : (es : Operands) (ask : Ask) (k : Value → Operands) → AllBelow d es → next_of es ≡ Asks ask k → AskBelow d ask
  asks_below es ask k h e = rw e at (below_next_of es h)
