-- Clear operands are clear again once they are plugged.
use Rattle.std.proofs.Common.{◌≡◌, ℕ, Bool, true, false, Option, Some, None, refl, sym, ap, ◌∙◌, subst, true≢false}
use Rattle.std.specs.Prelude.{if◌then◌else◌}
use Rattle.gr_tree.specs.declared.expr.BinaryOp.{BinaryOp}
use Rattle.gr_base.specs.declared.values.Value.{Value}
use Rattle.gr_rules.specs.Operators.{settles}
use Rattle.gr_rules.specs.Operands.{Operand, Done, Variable, Unary, Binary, Decided, Receive, Call, Len, Cap, Make, Operands, nothing, also}
use Rattle.gr_rules.specs.Parts.{Next, Plain, Asks, Ask, Decides, within, on_right, is_logical, next, next_of}
use Rattle.gr_code.specs.Filling.{Temporaries, with_value, Wanted, Clear, ClearAll}
use Rattle.gr_code.specs.Bounds.{Below, AllBelow}
use Rattle.gr_code.specs.Plugging.{inside, plug_right, plug, plug_all, IsCleared}
use Rattle.gr_code.proofs.Plugs.{set_it, set_other}

abbrev asks : {A : Type 0} → Next A → Bool
asks n = elim n [ Plain ↦ false | Asks ask k ↦ true ]

pub not_plain : {A : Type 0} → (n : Next A) (ask : Ask) (k : Value → A) → n ≡ Asks ask k → n ≡ Plain → ⊥
not_plain n ask k e f = true≢false (sym (ap asks e) ∙ ap asks f)

module _ (d : ℕ) where
  mutual
    pub unset : (ts : Temporaries) (v : Value) (t : Operand) → Below d t → Clear ts t → Clear (with_value ts d v) t
    unset ts v (Done u) h c = tt
    unset ts v (Variable x) h c = tt
    unset ts v (Unary op a) h c = unset ts v a h c
    unset ts v (Binary op a b) h c = (unset ts v a h.0 c.0, unset ts v b h.1 c.1)
    unset ts v (Decided op x b) h c = (subst {_, _} (λ o. Wanted op o b) (sym (set_other ts x d v h.0)) c.0, unset ts v b h.1 c.1)
    unset ts v (Receive c initial) h g = unset ts v c h g
    unset ts v (Call f arguments) h c = unset_all ts v arguments h c
    unset ts v (Len c) h g = unset ts v c h g
    unset ts v (Cap c) h g = unset ts v c h g
    unset ts v (Make n) h c = unset ts v n h c

    pub unset_all : (ts : Temporaries) (v : Value) (t : Operands) → AllBelow d t → ClearAll ts t → ClearAll (with_value ts d v) t
    unset_all ts v nothing h c = tt
    unset_all ts v (also a rest) h c = (unset ts v a h.0 c.0, unset_all ts v rest h.1 c.1)

  cleared_within : {A B : Type 0} → (C : Temporaries → A → Type 0) (D : Temporaries → B → Type 0) (h : A → B) (n : Next A) (o : Option A) (m : Next B) (q : Option B) (whole : A)
      → IsCleared C d n o whole
      → ((ts : Temporaries) (v : Value) (a : A) (ask : Ask) (k : Value → A) → n ≡ Asks ask k → D ts (h whole) → (C ts whole) × (C (with_value ts d v) a → D (with_value ts d v) (h a)))
      → IsCleared D d m q (h whole) → IsCleared D d (within h n m) (inside h o q) (h whole)
  cleared_within C D h Plain None m q whole e c p = p
  cleared_within C D h (Asks ask k) (Some a) m q whole e c p = λ ts v g enters. let both = c ts v a ask k refl g in both.1 (e ts v both.0 enters)
  cleared_within C D h Plain (Some a) m q whole e c p = absurd e
  cleared_within C D h (Asks ask k) None m q whole e c p = absurd e

  cleared_right : (op : BinaryOp) (a b : Operand) (n : Next Operand) (o : Option Operand) → Below d a → Below d b → IsCleared Clear d n o b
      → IsCleared Clear d (on_right op a b n) (plug_right d op a b o) (Binary op a b)
  cleared_right op a b Plain None l r e = tt
  cleared_right op a b (Asks ask k) (Some c) l r e =
      elim (is_logical op) as (λ s. IsCleared Clear d (if s then Asks (Decides op a) (λ v. if settles op v then Done v else b) else Asks ask (λ v. Binary op a (k v))) (Some (if s then Decided op d b else Binary op a c)) (Binary op a b)) [
        | true ↦ λ ts v g enters. (subst {_, _} (λ o. Wanted op o b) (sym (set_it ts d v)) (λ s. absurd (true≢false (sym s ∙ enters))), unset ts v b r g.1)
        | false ↦ λ ts v g enters. (unset ts v a l g.0, e ts v g.1 enters)
      ]
  cleared_right op a b Plain (Some c) l r e = absurd e
  cleared_right op a b (Asks ask k) None l r e = absurd e

  wanted_on : (op : BinaryOp) (o : Option Value) (b c : Operand) → (next b ≡ Plain → ⊥) → Wanted op o b → Wanted op o c
  wanted_on op None b c asked w = tt
  wanted_on op (Some v) b c asked w = λ s. absurd (asked (w s))

  mutual
    pub cleared : (t : Operand) → Below d t → IsCleared Clear d (next t) (plug d t) t
    cleared (Done v) h = tt
    cleared (Variable x) h = tt
    cleared (Unary op a) h = cleared_within Clear Clear (Unary op) (next a) (plug d a) Plain None a (cleared a h) (λ ts v x ask k e g. (g, λ c. c)) tt
    cleared (Binary op a b) h =
        cleared_within Clear Clear (λ x. Binary op x b) (next a) (plug d a) _ _ a (cleared a h.0) (λ ts v x ask k e g. (g.0, λ c. (c, unset ts v b h.1 g.1)))
        (cleared_right op a b (next b) (plug d b) h.0 h.1 (cleared b h.1))
    cleared (Decided op x b) h =
        cleared_within Clear Clear (Decided op x) (next b) (plug d b) Plain None b (cleared b h.1)
        (λ ts v y ask k e g. (g.1, λ c. (subst {_, _} (λ o. Wanted op o y) (sym (set_other ts x d v h.0)) (wanted_on op (ts x) b y (not_plain (next b) ask k e) g.0), c))) tt
    cleared (Receive c initial) h = cleared_within Clear Clear (λ x. Receive x initial) (next c) (plug d c) _ _ c (cleared c h) (λ ts v x ask k e g. (g, λ c. c)) (λ ts v g e. tt)
    cleared (Call f arguments) h = cleared_within ClearAll Clear (Call f) (next_of arguments) (plug_all d arguments) _ _ arguments (cleared_all arguments h) (λ ts v x ask k e g. (g, λ c. c)) (λ ts v g e. tt)
    cleared (Len c) h = cleared_within Clear Clear Len (next c) (plug d c) _ _ c (cleared c h) (λ ts v x ask k e g. (g, λ c. c)) (λ ts v g e. tt)
    cleared (Cap c) h = cleared_within Clear Clear Cap (next c) (plug d c) _ _ c (cleared c h) (λ ts v x ask k e g. (g, λ c. c)) (λ ts v g e. tt)
    cleared (Make n) h = cleared_within Clear Clear Make (next n) (plug d n) _ _ n (cleared n h) (λ ts v x ask k e g. (g, λ c. c)) (λ ts v g e. tt)

    pub cleared_all : (t : Operands) → AllBelow d t → IsCleared ClearAll d (next_of t) (plug_all d t) t
    cleared_all nothing h = tt
    cleared_all (also a rest) h =
        cleared_within Clear ClearAll (λ x. also x rest) (next a) (plug d a) _ _ a (cleared a h.0) (λ ts v x ask k e g. (g.0, λ c. (c, unset_all ts v rest h.1 g.1)))
        (cleared_within ClearAll ClearAll (also a) (next_of rest) (plug_all d rest) Plain None rest (cleared_all rest h.1) (λ ts v x ask k e g. (g.1, λ c. (unset ts v a h.0 g.0, c))) tt)
