-- Operands plugged with a temporary, which has the value of the part, are filled to those of the rules past the part.
use Rattle.std.proofs.Common.{◌≡◌, ◌<◌, ℕ, true, false, Option, Some, None, refl, ap, ◌∙◌, arith, eq-eqb, ne_eqb}
use Rattle.std.specs.Prelude.{nat_eq, if◌then◌else◌}
use Rattle.gr_tree.specs.declared.expr.BinaryOp.{BinaryOp}
use Rattle.gr_base.specs.declared.values.Value.{Value}
use Rattle.gr_rules.specs.Operators.{settles}
use Rattle.gr_rules.specs.Operands.{Operand, Done, Variable, Unary, Binary, Decided, Receive, Call, Len, Cap, Make, Operands, nothing, also}
use Rattle.gr_rules.specs.Parts.{Next, Plain, Asks, Decides, within, on_right, is_logical, next, next_of}
use Rattle.gr_code.specs.Filling.{Temporaries, with_value, variable_filled, decided, fill, fill_all}
use Rattle.gr_code.specs.Bounds.{Below, AllBelow}
use Rattle.gr_code.specs.Plugging.{inside, plug_right, plug, plug_all, IsPlugged}

same_number : (d : ℕ) → nat_eq d d ≡ true
same_number d = eq-eqb d d refl

other_number : (x d : ℕ) → x < d → nat_eq x d ≡ false
other_number x d h = ne_eqb x d (λ e. absurd (omega arith))

pub set_it : (ts : Temporaries) (d : ℕ) (v : Value) → with_value ts d v d ≡ Some v
set_it ts d v = ap (λ b. if b then Some v else ts d) (same_number d)

pub set_other : (ts : Temporaries) (x d : ℕ) (v : Value) → x < d → with_value ts d v x ≡ ts x
set_other ts x d v h = ap (λ b. if b then Some v else ts x) (other_number x d h)

module _ (d : ℕ) where
  -- a temporary that does not occur changes nothing
  mutual
    pub unset : (ts : Temporaries) (v : Value) (t : Operand) → Below d t → fill (with_value ts d v) t ≡ fill ts t
    unset ts v (Done u) h = refl
    unset ts v (Variable x) h = ap (variable_filled x) (set_other ts x d v h)
    unset ts v (Unary op a) h = ap (Unary op) (unset ts v a h)
    unset ts v (Binary op a b) h = cc (unset ts v a h.0, unset ts v b h.1)
    unset ts v (Decided op x b) h = cc (set_other ts x d v h.0, unset ts v b h.1)
    unset ts v (Receive c initial) h = ap (λ c. Receive c initial) (unset ts v c h)
    unset ts v (Call f arguments) h = ap (Call f) (unset_all ts v arguments h)
    unset ts v (Len c) h = ap Len (unset ts v c h)
    unset ts v (Cap c) h = ap Cap (unset ts v c h)
    unset ts v (Make n) h = ap Make (unset ts v n h)

    pub unset_all : (ts : Temporaries) (v : Value) (t : Operands) → AllBelow d t → fill_all (with_value ts d v) t ≡ fill_all ts t
    unset_all ts v nothing h = refl
    unset_all ts v (also a rest) h = cc (unset ts v a h.0, unset_all ts v rest h.1)

  plugged_within : {A B : Type 0} → (f : Temporaries → A → A) (g : Temporaries → B → B) (h : A → B) (n : Next A) (o : Option A) (m : Next B) (q : Option B)
      → IsPlugged f d n o
      → ((ts : Temporaries) (v : Value) (a a' : A) → f (with_value ts d v) a ≡ f ts a' → g (with_value ts d v) (h a) ≡ g ts (h a'))
      → IsPlugged g d m q → IsPlugged g d (within h n m) (inside h o q)
  plugged_within f g h Plain None m q e c p = p
  plugged_within f g h (Asks ask k) (Some a) m q e c p = λ ts v. c ts v a (k v) (e ts v)
  plugged_within f g h Plain (Some a) m q e c p = absurd e
  plugged_within f g h (Asks ask k) None m q e c p = absurd e

  plugged_right : (op : BinaryOp) (a b : Operand) (n : Next Operand) (o : Option Operand) → Below d a → Below d b → IsPlugged fill d n o → IsPlugged fill d (on_right op a b n) (plug_right d op a b o)
  plugged_right op a b Plain None l r e = tt
  plugged_right op a b (Asks ask k) (Some c) l r e =
      elim (is_logical op) as (λ s. IsPlugged fill d (if s then Asks (Decides op a) (λ v. if settles op v then Done v else b) else Asks ask (λ v. Binary op a (k v))) (Some (if s then Decided op d b else Binary op a c))) [
        | true ↦ λ ts v. ap (decided op d (fill (with_value ts d v) b)) (set_it ts d v) ∙ ap (λ x. if settles op v then Done v else x) (unset ts v b r)
            ∙ elim (settles op v) as (λ s. (if s then Done v else fill ts b) ≡ fill ts (if s then Done v else b)) [ true ↦ refl | false ↦ refl ]
        | false ↦ λ ts v. cc (unset ts v a l, e ts v)
      ]
  plugged_right op a b Plain (Some c) l r e = absurd e
  plugged_right op a b (Asks ask k) None l r e = absurd e

  -- the temporary alone in place of the part
  last : (ts : Temporaries) (v : Value) → fill (with_value ts d v) (Variable d) ≡ Done v
  last ts v = ap (variable_filled d) (set_it ts d v)

  mutual
    pub plugged : (t : Operand) → Below d t → IsPlugged fill d (next t) (plug d t)
    plugged (Done v) h = tt
    plugged (Variable x) h = tt
    plugged (Unary op a) h = plugged_within fill fill (Unary op) (next a) (plug d a) Plain None (plugged a h) (λ ts v x y e. ap (Unary op) e) tt
    plugged (Binary op a b) h =
        plugged_within fill fill (λ x. Binary op x b) (next a) (plug d a) _ _ (plugged a h.0) (λ ts v x y e. cc (e, unset ts v b h.1))
        (plugged_right op a b (next b) (plug d b) h.0 h.1 (plugged b h.1))
    plugged (Decided op x b) h =
        plugged_within fill fill (Decided op x) (next b) (plug d b) Plain None (plugged b h.1) (λ ts v y z e. cc (set_other ts x d v h.0, e)) tt
    plugged (Receive c initial) h = plugged_within fill fill (λ x. Receive x initial) (next c) (plug d c) _ _ (plugged c h) (λ ts v x y e. ap (λ x. Receive x initial) e) last
    plugged (Call f arguments) h = plugged_within fill_all fill (Call f) (next_of arguments) (plug_all d arguments) _ _ (plugged_all arguments h) (λ ts v x y e. ap (Call f) e) last
    plugged (Len c) h = plugged_within fill fill Len (next c) (plug d c) _ _ (plugged c h) (λ ts v x y e. ap Len e) last
    plugged (Cap c) h = plugged_within fill fill Cap (next c) (plug d c) _ _ (plugged c h) (λ ts v x y e. ap Cap e) last
    plugged (Make n) h = plugged_within fill fill Make (next n) (plug d n) _ _ (plugged n h) (λ ts v x y e. ap Make e) last

    pub plugged_all : (t : Operands) → AllBelow d t → IsPlugged fill_all d (next_of t) (plug_all d t)
    plugged_all nothing h = tt
    plugged_all (also a rest) h =
        plugged_within fill fill_all (λ x. also x rest) (next a) (plug d a) _ _ (plugged a h.0) (λ ts v x y e. cc (e, unset_all ts v rest h.1))
        (plugged_within fill_all fill_all (also a) (next_of rest) (plug_all d rest) Plain None (plugged_all rest h.1) (λ ts v x y e. cc (unset ts v a h.0, e)) tt)
