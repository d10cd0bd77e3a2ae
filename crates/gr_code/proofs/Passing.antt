-- Right operands that are passed by: how many parts they have, and that plugging those changes nothing.
use Rattle.std.proofs.Common.{◌≡◌, ℕ, zero, suc, ◌+◌, Bool, true, false, Option, Some, None, refl, sym, ap, ◌∙◌, arith, inl, inr, true≢false}
use Rattle.std.proofs.lemmas.Bool.{cases_Bool}
use Rattle.std.specs.Prelude.{if◌then◌else◌}
use Rattle.gr_tree.specs.declared.expr.BinaryOp.{BinaryOp}
use Rattle.gr_base.specs.declared.values.Value.{Value}
use Rattle.gr_rules.specs.Operators.{settles}
use Rattle.gr_rules.specs.Operands.{Operand, Done, Variable, Unary, Binary, Receive, Call, Len, Cap, Make, Decided, Operands, nothing, also}
use Rattle.gr_rules.specs.Parts.{Plain, is_logical, next}
use Rattle.gr_code.specs.Filling.{Temporaries, fill, fill_all, decided, Wanted, Clear, ClearAll}
use Rattle.gr_code.specs.Plugging.{inside, plug_right, plug, plug_all}
use Rattle.gr_code.specs.Passing.{with_decision, parts, parts_in, IsOneLess, Unsettling, Passing, AllPassing, KeepsPassing}

none_with : (op : BinaryOp) (n : ℕ) → with_decision op n ≡ 0 → n ≡ 0
none_with op zero e = refl
none_with op (suc n) e = elim (cases_Bool (is_logical op)) [ inl t ↦ let z : suc (suc n) ≡ 0 = rw t at e in absurd (omega arith) | inr f ↦ let z : suc n ≡ 0 = rw f at e in absurd (omega arith) ]

plain_with : (op : BinaryOp) (n : ℕ) → is_logical op ≡ false → with_decision op n ≡ n
plain_with op zero e = refl
plain_with op (suc n) e = rw e refl

logical_with : (op : BinaryOp) (n : ℕ) → is_logical op ≡ true → with_decision op (suc n) ≡ suc (suc n)
logical_with op n e = rw e refl

counted_inside : {A B : Type 0} → (count : A → ℕ) (count' : B → ℕ) (h : A → B) (o : Option A) (whole : A) (q : Option B) (more : ℕ)
    → ((a : A) → count' (h a) ≡ count a + more) → IsOneLess count (count whole) o
    → (count whole ≡ 0 → IsOneLess count' more q) → IsOneLess count' (count' (h whole)) (inside h o q)
counted_inside count count' h (Some a) whole q more e c p = let x = e a in let y = e whole in omega arith
counted_inside count count' h None whole (Some b) more e c p = let x = e whole in let y : more ≡ count' b + 1 = p c in omega arith
counted_inside count count' h None whole None more e c p = let x = e whole in let y : more ≡ 0 = p c in omega arith

module _ (d : ℕ) where
  counted_right : (op : BinaryOp) (a b : Operand) (o : Option Operand) → IsOneLess parts (parts b) o → parts a ≡ 0
      → IsOneLess parts (with_decision op (parts b)) (plug_right d op a b o)
  counted_right op a b None c z = ap (with_decision op) c
  counted_right op a b (Some x) c z = by_logical (is_logical op) refl
    where
      there : parts b ≡ suc (parts x)
      there = omega arith

      by_logical : (l : Bool) → is_logical op ≡ l → with_decision op (parts b) ≡ parts (if l then Decided op d b else Binary op a x) + 1
      by_logical true e = let w = ap (with_decision op) there ∙ logical_with op (parts x) e in omega arith
      by_logical false e = let w = plain_with op (parts b) e in let u = plain_with op (parts x) e in omega arith

  counted_rest : (a : Operand) (n : ℕ) (o : Option Operands) → parts a ≡ 0 → IsOneLess parts_in n o → IsOneLess parts_in n (inside (also a) o None)
  counted_rest a n (Some x) z c = omega arith
  counted_rest a n None z c = c

  mutual
    pub counted : (e : Operand) → IsOneLess parts (parts e) (plug d e)
    counted (Done v) = refl
    counted (Variable x) = refl
    counted (Unary op a) = counted_inside parts parts (Unary op) (plug d a) a None 0 (λ x. omega arith) (counted a) (λ z. refl)
    counted (Binary op a b) = counted_inside parts parts (λ x. Binary op x b) (plug d a) a _ (with_decision op (parts b)) (λ x. refl) (counted a) (counted_right op a b (plug d b) (counted b))
    counted (Receive c initial) = counted_inside parts parts (λ x. Receive x initial) (plug d c) c _ 1 (λ x. refl) (counted c) (λ z. refl)
    counted (Call f arguments) = counted_inside parts_in parts (Call f) (plug_all d arguments) arguments _ 1 (λ x. refl) (counted_all arguments) (λ z. refl)
    counted (Len c) = counted_inside parts parts Len (plug d c) c _ 1 (λ x. refl) (counted c) (λ z. refl)
    counted (Cap c) = counted_inside parts parts Cap (plug d c) c _ 1 (λ x. refl) (counted c) (λ z. refl)
    counted (Make n) = counted_inside parts parts Make (plug d n) n _ 1 (λ x. refl) (counted n) (λ z. refl)
    counted (Decided op x b) = counted_inside parts parts (Decided op x) (plug d b) b None 0 (λ x. omega arith) (counted b) (λ z. refl)

    pub counted_all : (es : Operands) → IsOneLess parts_in (parts_in es) (plug_all d es)
    counted_all nothing = refl
    counted_all (also a others) =
        counted_inside parts parts_in (λ x. also x others) (plug d a) a _ (parts_in others) (λ x. refl) (counted a)
        (λ z. counted_rest a (parts_in others) (plug_all d others) z (counted_all others))

-- where there are no parts, there is no next one, and all is clear
mutual
  pub no_part : (e : Operand) → parts e ≡ 0 → next e ≡ Plain
  no_part (Done v) z = refl
  no_part (Variable x) z = refl
  no_part (Unary op a) z = rw (no_part a z) refl
  no_part (Binary op a b) z = let p : parts a ≡ 0 = omega arith in rw (no_part a p, no_part b (none_with op (parts b) (omega arith))) refl
  no_part (Receive c initial) z = absurd (omega arith)
  no_part (Call f arguments) z = absurd (omega arith)
  no_part (Len c) z = absurd (omega arith)
  no_part (Cap c) z = absurd (omega arith)
  no_part (Make n) z = absurd (omega arith)
  no_part (Decided op x b) z = rw (no_part b z) refl

module _ (ts : Temporaries) where
  wanted_none : (op : BinaryOp) (o : Option Value) (b : Operand) → parts b ≡ 0 → Wanted op o b
  wanted_none op None b z = tt
  wanted_none op (Some v) b z = λ s. no_part b z

  wanted_unsettling : (op : BinaryOp) (o : Option Value) (b : Operand) → Unsettling op o → Wanted op o b
  wanted_unsettling op None b u = tt
  wanted_unsettling op (Some v) b u = λ s. absurd (true≢false (sym s ∙ u))

  clear_none : (e : Operand) → parts e ≡ 0 → Clear ts e
  clear_none (Done v) z = tt
  clear_none (Variable x) z = tt
  clear_none (Unary op a) z = clear_none a z
  clear_none (Binary op a b) z = (clear_none a (omega arith), clear_none b (none_with op (parts b) (omega arith)))
  clear_none (Receive c initial) z = absurd (omega arith)
  clear_none (Call f arguments) z = absurd (omega arith)
  clear_none (Len c) z = absurd (omega arith)
  clear_none (Cap c) z = absurd (omega arith)
  clear_none (Make n) z = absurd (omega arith)
  clear_none (Decided op x b) z = (wanted_none op (ts x) b z, clear_none b z)

  -- past its last part all is clear
  mutual
    pub ends : (e : Operand) → Passing 0 ts e → Clear ts e
    ends (Done v) h = absurd h
    ends (Variable x) h = absurd h
    ends (Unary op a) h = ends a h
    ends (Binary op a b) (inl h) = (ends a h.0, h.1)
    ends (Binary op a b) (inr h) = (clear_none a h.0, ends b h.2)
    ends (Receive c initial) h = ends c h
    ends (Call f arguments) h = ends_all arguments h
    ends (Len c) h = ends c h
    ends (Cap c) h = ends c h
    ends (Make n) h = ends n h
    ends (Decided op x b) (inl h) = (wanted_none op (ts x) b h.3, clear_none b h.3)
    ends (Decided op x b) (inr h) = (wanted_unsettling op (ts x) b h.0, ends b h.1)

    pub ends_all : (es : Operands) → AllPassing 0 ts es → ClearAll ts es
    ends_all nothing h = absurd h
    ends_all (also a others) (inl h) = (ends a h.0, h.1)
    ends_all (also a others) (inr h) = (clear_none a h.0, ends_all others h.1)

-- a part that is passed by is plugged
module _ (d : ℕ) (ts : Temporaries) where
  keeps_inside : {A B : Type 0} → (f : A → A) (g : B → B) (P : ℕ → A → Type 0) (Q : ℕ → B → Type 0) (h : A → B) (n : ℕ) (o : Option A) (whole : A) (q : Option B)
      → KeepsPassing f P n o whole → ((a : A) → f a ≡ f whole → P n a → (g (h a) ≡ g (h whole)) × Q n (h a)) → KeepsPassing g Q n (inside h o q) (h whole)
  keeps_inside f g P Q h n (Some a) whole q e c = c a e.0 e.1
  keeps_inside f g P Q h n None whole q e c = absurd e

  abbrev P : ℕ → Operand → Type 0
  P n e = Passing n ts e

  abbrev Ps : ℕ → Operands → Type 0
  Ps n es = AllPassing n ts es

  not_plugged : {A : Type 0} → (count : A → ℕ) (n : ℕ) (o : Option A) → IsOneLess count n o → n ≡ 0 → o ≡ None
  not_plugged count n None c z = refl
  not_plugged count n (Some a) c z = absurd (omega arith)

  keeps_right : (op : BinaryOp) (a b : Operand) (n : ℕ) (o : Option Operand) → parts a ≡ 0 → is_logical op ≡ false → KeepsPassing (fill ts) P n o b
      → KeepsPassing (fill ts) P n (plug_right d op a b o) (Binary op a b)
  keeps_right op a b n (Some c) z l e = rw l (ap (Binary op (fill ts a)) e.0, inr (z, l, e.1))
  keeps_right op a b n None z l e = absurd e

  keeps_decided : (op : BinaryOp) (x : ℕ) (b : Operand) (v : Value) (n : ℕ) (o : Option Operand) → ts x ≡ Some v → settles op v ≡ true → parts b ≡ suc n → IsOneLess parts (parts b) o
      → KeepsPassing (fill ts) P n (inside (Decided op x) o None) (Decided op x b)
  keeps_decided op x b v n None e s m c = absurd (omega arith)
  keeps_decided op x b v n (Some c) e s m less = (one_way c ∙ sym (one_way b), inl (v, e, s, omega arith))
    where
      one_way : (c : Operand) → decided op x (fill ts c) (ts x) ≡ Done v
      one_way c = ap (decided op x (fill ts c)) e ∙ ap (λ z. if z then Done v else fill ts c) s

  mutual
    pub keeps : (n : ℕ) (e : Operand) → Passing (suc n) ts e → KeepsPassing (fill ts) P n (plug d e) e
    keeps n (Done v) h = absurd h
    keeps n (Variable x) h = absurd h
    keeps n (Unary op a) h = keeps_inside (fill ts) (fill ts) P P (Unary op) n (plug d a) a None (keeps n a h) (λ x e p. (ap (Unary op) e, p))
    keeps n (Binary op a b) (inl h) =
        keeps_inside (fill ts) (fill ts) P P (λ x. Binary op x b) n (plug d a) a _ (keeps n a h.0) (λ x e p. (ap (λ x. Binary op x (fill ts b)) e, inl (p, h.1)))
    keeps n (Binary op a b) (inr h) = rw (not_plugged parts (parts a) (plug d a) (counted d a) h.0) (keeps_right op a b n (plug d b) h.0 h.1 (keeps n b h.2))
    keeps n (Receive c initial) h = keeps_inside (fill ts) (fill ts) P P (λ x. Receive x initial) n (plug d c) c _ (keeps n c h) (λ x e p. (ap (λ x. Receive x initial) e, p))
    keeps n (Call f arguments) h = keeps_inside (fill_all ts) (fill ts) Ps P (Call f) n (plug_all d arguments) arguments _ (keeps_all n arguments h) (λ x e p. (ap (Call f) e, p))
    keeps n (Len c) h = keeps_inside (fill ts) (fill ts) P P Len n (plug d c) c _ (keeps n c h) (λ x e p. (ap Len e, p))
    keeps n (Cap c) h = keeps_inside (fill ts) (fill ts) P P Cap n (plug d c) c _ (keeps n c h) (λ x e p. (ap Cap e, p))
    keeps n (Make a) h = keeps_inside (fill ts) (fill ts) P P Make n (plug d a) a _ (keeps n a h) (λ x e p. (ap Make e, p))
    keeps n (Decided op x b) (inl h) = keeps_decided op x b h.0 n (plug d b) h.1 h.2 h.3 (counted d b)
    keeps n (Decided op x b) (inr h) = keeps_inside (fill ts) (fill ts) P P (Decided op x) n (plug d b) b None (keeps n b h.1) (λ y e p. (ap (λ y. decided op x y (ts x)) e, inr (h.0, p)))

    pub keeps_all : (n : ℕ) (es : Operands) → AllPassing (suc n) ts es → KeepsPassing (fill_all ts) Ps n (plug_all d es) es
    keeps_all n nothing h = absurd h
    keeps_all n (also a others) (inl h) =
        keeps_inside (fill ts) (fill_all ts) P Ps (λ x. also x others) n (plug d a) a _ (keeps n a h.0) (λ x e p. (ap (λ x. also x (fill_all ts others)) e, inl (p, h.1)))
    keeps_all n (also a others) (inr h) =
        rw (not_plugged parts (parts a) (plug d a) (counted d a) h.0) (keeps_inside (fill_all ts) (fill_all ts) Ps Ps (also a) n (plug_all d others) others None (keeps_all n others h.1) (λ x e p. (ap (also (fill ts a)) e, inr (h.0, p))))
