-- What is plugged has variables below the next number.
use Rattle.std.proofs.Common.{ℕ, ◌+◌, true, false, Option, Some, None, arith}
use Rattle.std.specs.Prelude.{if◌then◌else◌}
use Rattle.gr_tree.specs.declared.expr.BinaryOp.{BinaryOp}
use Rattle.gr_rules.specs.Operands.{Operand, Done, Variable, Unary, Binary, Receive, Call, Len, Cap, Make, Decided, Operands, nothing, also}
use Rattle.gr_rules.specs.Parts.{is_logical}
use Rattle.gr_code.specs.Bounds.{Below, AllBelow}
use Rattle.gr_code.specs.Plugging.{inside, plug_right, plug, plug_all, IsBounded}

module _ (d : ℕ) where
  mutual
    wider : (e : Operand) → Below d e → Below (d + 1) e
    wider (Done v) h = tt
    wider (Variable x) h = omega arith
    wider (Unary op a) h = wider a h
    wider (Binary op a b) h = (wider a h.0, wider b h.1)
    wider (Receive c initial) h = wider c h
    wider (Call f arguments) h = wider_all arguments h
    wider (Len c) h = wider c h
    wider (Cap c) h = wider c h
    wider (Make n) h = wider n h
    wider (Decided op x b) h = (omega arith, wider b h.1)

    wider_all : (es : Operands) → AllBelow d es → AllBelow (d + 1) es
    wider_all nothing h = tt
    wider_all (also a others) h = (wider a h.0, wider_all others h.1)

  bounded_inside : {A B : Type 0} → (C : ℕ → A → Type 0) (D : ℕ → B → Type 0) (h : A → B) (o : Option A) (q : Option B)
      → IsBounded C d o → ((a : A) → C (d + 1) a → D (d + 1) (h a)) → IsBounded D d q → IsBounded D d (inside h o q)
  bounded_inside C D h (Some a) q e c p = c a e
  bounded_inside C D h None q e c p = p

  bounded_right : (op : BinaryOp) (a b : Operand) (o : Option Operand) → Below d a → Below d b → IsBounded Below d o → IsBounded Below d (plug_right d op a b o)
  bounded_right op a b None l r e = tt
  bounded_right op a b (Some c) l r e = elim (is_logical op) as (λ s. Below (d + 1) (if s then Decided op d b else Binary op a c)) [ true ↦ (omega arith, wider b r) | false ↦ (wider a l, e) ]

  mutual
    pub bounded : (e : Operand) → Below d e → IsBounded Below d (plug d e)
    bounded (Done v) h = tt
    bounded (Variable x) h = tt
    bounded (Unary op a) h = bounded_inside Below Below (Unary op) (plug d a) None (bounded a h) (λ x e. e) tt
    bounded (Binary op a b) h = bounded_inside Below Below (λ x. Binary op x b) (plug d a) _ (bounded a h.0) (λ x e. (e, wider b h.1)) (bounded_right op a b (plug d b) h.0 h.1 (bounded b h.1))
    bounded (Receive c initial) h = bounded_inside Below Below (λ x. Receive x initial) (plug d c) _ (bounded c h) (λ x e. e) (omega arith)
    bounded (Call f arguments) h = bounded_inside AllBelow Below (Call f) (plug_all d arguments) _ (bounded_all arguments h) (λ x e. e) (omega arith)
    bounded (Len c) h = bounded_inside Below Below Len (plug d c) _ (bounded c h) (λ x e. e) (omega arith)
    bounded (Cap c) h = bounded_inside Below Below Cap (plug d c) _ (bounded c h) (λ x e. e) (omega arith)
    bounded (Make n) h = bounded_inside Below Below Make (plug d n) _ (bounded n h) (λ x e. e) (omega arith)
    bounded (Decided op x b) h = bounded_inside Below Below (Decided op x) (plug d b) None (bounded b h.1) (λ y e. (omega arith, e)) tt

    pub bounded_all : (es : Operands) → AllBelow d es → IsBounded AllBelow d (plug_all d es)
    bounded_all nothing h = tt
    bounded_all (also a others) h =
        bounded_inside Below AllBelow (λ x. also x others) (plug d a) _ (bounded a h.0) (λ x e. (e, wider_all others h.1))
        (bounded_inside AllBelow AllBelow (also a) (plug_all d others) None (bounded_all others h.1) (λ x e. (wider a h.0, e)) tt)
