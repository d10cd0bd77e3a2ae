-- A decision that settles begins to pass by the parts of its right operand.
use Rattle.std.proofs.Common.{◌≡◌, ℕ, Bool, true, false, Option, Some, None, refl, sym, ap, ◌∙◌, subst, inl, inr, true≢false}
use Rattle.std.proofs.lemmas.Bool.{cases_Bool}
use Rattle.std.specs.Prelude.{if◌then◌else◌}
use Rattle.std.specs.Option.{option_or}
use Rattle.gr_tree.specs.declared.expr.BinaryOp.{BinaryOp}
use Rattle.gr_base.specs.declared.values.Value.{Value}
use Rattle.gr_rules.specs.Operators.{settles}
use Rattle.gr_rules.specs.Operands.{Operand, Done, Variable, Unary, Binary, Receive, Call, Len, Cap, Make, Decided, Operands, nothing, also}
use Rattle.gr_rules.specs.Parts.{Ask, Decides, Next, Plain, Asks, within, on_right, is_logical, next, next_of}
use Rattle.gr_code.specs.Filling.{Temporaries, with_value, Wanted, Clear, ClearAll}
use Rattle.gr_code.specs.Code.{is_decision}
use Rattle.gr_code.specs.Bounds.{Below, AllBelow}
use Rattle.gr_code.specs.Plugging.{inside, plug_right, plug, plug_all}
use Rattle.gr_code.specs.Passing.{parts, IsOneLess, passed_right, passed_by, passed_by_in, Unsettling, Passing, AllPassing, BeginsToPass}
use Rattle.gr_code.proofs.Plugs.{set_it, set_other}
use Rattle.gr_code.proofs.Clearing.{not_plain, unset, unset_all}
use Rattle.gr_code.proofs.Passing.{counted}

none_left : {A : Type 0} → (count : A → ℕ) (n : ℕ) (o : Option A) → IsOneLess count n o → o ≡ None → n ≡ 0
none_left count n None c z = c
none_left count n (Some a) c z = absurd (let e : Some a ≡ None = z in cc)

unsettling : (op : BinaryOp) (o : Option Value) (b : Operand) → Wanted op o b → (next b ≡ Plain → ⊥) → Unsettling op o
unsettling op None b w asks = tt
unsettling op (Some v) b w asks = elim (cases_Bool (settles op v)) [ inl t ↦ absurd (asks (w t)) | inr f ↦ f ]

same_op : (op op' : BinaryOp) (a left : Operand) → Decides op a ≡ Decides op' left → op ≡ op'
same_op op op' a left e = cc

module _ (d : ℕ) where
  begins_within : {A B : Type 0} → (C : Temporaries → A → Type 0) (D : Temporaries → B → Type 0) (P : ℕ → Temporaries → A → Type 0) (Q : ℕ → Temporaries → B → Type 0)
      → (h : A → B) (n : Next A) (o : Option A) (j : Option ℕ) (m : Next B) (q : Option B) (k : Option ℕ) (whole : A)
      → BeginsToPass C P d n o j whole
      → ((ts : Temporaries) (v : Value) (a : A) (i : ℕ) (ask : Ask) (c : Value → A) → n ≡ Asks ask c → D ts (h whole)
      → (C ts whole) × (P i (with_value ts d v) a → Q i (with_value ts d v) (h a)))
      → (o ≡ None → BeginsToPass D Q d m q k (h whole)) → BeginsToPass D Q d (within h n m) (inside h o q) (option_or j k) (h whole)
  begins_within C D P Q h Plain None None m q k whole e c p = p refl
  begins_within C D P Q h (Asks ask f) (Some a) (Some i) m q k whole e c p = λ ts v op left is s clear. let t = c ts v a i ask f refl clear in t.1 (e ts v op left is s t.0)
  begins_within C D P Q h Plain None (Some i) m q k whole e c p = absurd e
  begins_within C D P Q h Plain (Some a) j m q k whole e c p = absurd e
  begins_within C D P Q h (Asks ask f) None j m q k whole e c p = absurd e
  begins_within C D P Q h (Asks ask f) (Some a) None m q k whole e c p = absurd e

  -- a part that is no decision
  begins_not : (ask : Ask) (whole : Operand) → is_decision ask ≡ false → BeginsToPass Clear Passing d (Asks ask Done) (Some (Variable d)) (Some 0) whole
  begins_not ask whole plain = λ ts v op left is s clear. absurd (true≢false (sym (ap is_decision is) ∙ plain))

  begins_right : (op : BinaryOp) (a b : Operand) (n : Next Operand) (o : Option Operand) (j : Option ℕ) → parts a ≡ 0
      → BeginsToPass Clear Passing d n o j b → BeginsToPass Clear Passing d (on_right op a b n) (plug_right d op a b o) (passed_right op (parts b) j) (Binary op a b)
  begins_right op a b Plain None None z e = tt
  begins_right op a b (Asks ask f) (Some c) (Some i) z e = by_logical (is_logical op) refl
    where
      by_logical : (l : Bool) → is_logical op ≡ l
          → BeginsToPass Clear Passing d (if l then Asks (Decides op a) (λ v. if settles op v then Done v else b) else Asks ask (λ v. Binary op a (f v)))
          (Some (if l then Decided op d b else Binary op a c)) (Some (if l then parts b else i)) (Binary op a b)
      by_logical true l = λ ts v op' left is s clear. inl (v, set_it ts d v, ap (λ x. settles x v) (same_op op op' a left is) ∙ s, refl)
      by_logical false l = λ ts v op' left is s clear. inr (z, l, e ts v op' left is s clear.1)
  begins_right op a b Plain None (Some i) z e = absurd e
  begins_right op a b Plain (Some c) j z e = absurd e
  begins_right op a b (Asks ask f) None j z e = absurd e
  begins_right op a b (Asks ask f) (Some c) None z e = absurd e

  mutual
    pub begins : (e : Operand) → Below d e → BeginsToPass Clear Passing d (next e) (plug d e) (passed_by e) e
    begins (Done v) h = tt
    begins (Variable x) h = tt
    begins (Unary op a) h = begins_within Clear Clear Passing Passing (Unary op) (next a) (plug d a) (passed_by a) Plain None None a (begins a h) (λ ts v x i ask f is c. (c, λ p. p)) (λ z. tt)
    begins (Binary op a b) h =
        begins_within Clear Clear Passing Passing (λ x. Binary op x b) (next a) (plug d a) (passed_by a) _ _ _ a (begins a h.0)
        (λ ts v x i ask f is c. (c.0, λ p. inl (p, unset d ts v b h.1 c.1)))
        (λ z. begins_right op a b (next b) (plug d b) (passed_by b) (none_left parts (parts a) (plug d a) (counted d a) z) (begins b h.1))
    begins (Receive c initial) h =
        begins_within Clear Clear Passing Passing (λ x. Receive x initial) (next c) (plug d c) (passed_by c) _ _ _ c (begins c h) (λ ts v x i ask f is c. (c, λ p. p)) (λ z. begins_not _ (Receive c initial) refl)
    begins (Call g arguments) h =
        begins_within ClearAll Clear AllPassing Passing (Call g) (next_of arguments) (plug_all d arguments) (passed_by_in arguments) _ _ _ arguments (begins_all arguments h)
        (λ ts v x i ask f is c. (c, λ p. p)) (λ z. begins_not _ (Call g arguments) refl)
    begins (Len c) h = begins_within Clear Clear Passing Passing Len (next c) (plug d c) (passed_by c) _ _ _ c (begins c h) (λ ts v x i ask f is c. (c, λ p. p)) (λ z. begins_not _ (Len c) refl)
    begins (Cap c) h = begins_within Clear Clear Passing Passing Cap (next c) (plug d c) (passed_by c) _ _ _ c (begins c h) (λ ts v x i ask f is c. (c, λ p. p)) (λ z. begins_not _ (Cap c) refl)
    begins (Make n) h = begins_within Clear Clear Passing Passing Make (next n) (plug d n) (passed_by n) _ _ _ n (begins n h) (λ ts v x i ask f is c. (c, λ p. p)) (λ z. begins_not _ (Make n) refl)
    begins (Decided op x b) h =
        begins_within Clear Clear Passing Passing (Decided op x) (next b) (plug d b) (passed_by b) Plain None None b (begins b h.1)
        (λ ts v y i ask f is c. (c.1, λ p. inr (subst {_, _} (Unsettling op) (sym (set_other ts x d v h.0)) (unsettling op (ts x) b c.0 (not_plain (next b) ask f is)), p))) (λ z. tt)

    pub begins_all : (es : Operands) → AllBelow d es → BeginsToPass ClearAll AllPassing d (next_of es) (plug_all d es) (passed_by_in es) es
    begins_all nothing h = tt
    begins_all (also a others) h =
        begins_within Clear ClearAll Passing AllPassing (λ x. also x others) (next a) (plug d a) (passed_by a) _ _ _ a (begins a h.0)
        (λ ts v x i ask f is c. (c.0, λ p. inl (p, unset_all d ts v others h.1 c.1)))
        (λ z. begins_within ClearAll ClearAll AllPassing AllPassing (also a) (next_of others) (plug_all d others) (passed_by_in others) Plain None None others (begins_all others h.1)
        (λ ts v x i ask f is c. (c.1, λ p. inr (none_left parts (parts a) (plug d a) (counted d a) z, p))) (λ y. tt))
