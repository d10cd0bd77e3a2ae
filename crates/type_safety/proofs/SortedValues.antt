-- Values of sorts: among more channels, under operators, and given to variables.
use Rattle.std.proofs.Common.{◌≡◌, ◌<◌, ◌⊎◌, ℕ, zero, suc, ℤ, pos, negsuc, Bool, true, false, if◌then◌else◌, List, [], ◌∷◌, ◌++◌, length, Option, Some, None, refl, sym, ◌∙◌, ap, subst, inl, inr, arith, length-set}
use Rattle.std.specs.Ordering.{int_eq}
use Rattle.gr_const.specs.Bits.{shift_left, shift_right}
use Rattle.std.specs.Prelude.{int_div, int_rem, slice_get, slice_set}
use Rattle.std.proofs.lemmas.Option.{slice_get-get_or, same_Some, none-some}
use Rattle.gr_tree.specs.declared.expr.UnaryOp.{UnaryOp}
use Rattle.gr_tree.specs.declared.expr.BinaryOp.{BinaryOp}
use Rattle.gr_tree.specs.declared.expr.BinaryOp.TheVariants.{Multiply, Divide, Remainder, ShiftLeft, ShiftRight, BitAnd, AndNot, Add, Subtract, BitOr, BitXor, Equal, NotEqual, Less, LessEqual, Greater, GreaterEqual, LogicalAnd, LogicalOr}
use Rattle.gr_base.specs.declared.values.Value.{Value}
use Rattle.gr_base.specs.declared.kinds.Fault.TheVariants.{DivideByZero}
use Rattle.gr_typing.specs.Values.{is_comparison}
use Rattle.gr_rules.specs.Outcomes.{Outcome, faults, ◌>>=◌}
use Rattle.gr_rules.specs.Operands.{Operand, Operands}
use Rattle.gr_rules.specs.Evaluation.{Variables}
use Rattle.gr_program.specs.Programs.{Declared}
use Rattle.gr_causal.proofs.ListLemmas.{In-append_left, In-append_right, In-append_cases}
use Rattle.gr_rules.specs.Operators.{int, divided, shifted, on_ints, compared, on_truths, operate, apply, settles}
use Rattle.gr_rules.specs.Frames.{written, assigned}
use Rattle.gr_rules.specs.Parts.{is_logical}
use Rattle.type_safety.proofs.Sorts.{Sort, IntSort, BoolSort, Made, More, HasSort, has_int, has_truth, has_unit, has_nil, has_channel, HaveSorts, one_value, Yields, yields, faulty, is_arithmetic, is_order, UnarySorts, plus, negate, complement, not, BinarySorts, arithmetic, order, comparison, logical, Setting, SortedOperand, done, variable, unary, binary, receive, call, len, cap, make, SortedOperands, no_operand, one_operand, sort_at, Holding, AreTargets, no_target, blank, target, numbers_of, Sub}
use Rattle.type_safety.proofs.Promises.{OperandsMore, Assigns, assigns, AssignedHolding}

untrue : false ≡ true → ⊥
untrue e = cc

-- Among more channels.
module _ (made after : Made) (m : More made after) where
  pub sort_more : {v : Value} {k : Sort} → HasSort made v k → HasSort after v k
  sort_more has_int = has_int
  sort_more has_truth = has_truth
  sort_more has_unit = has_unit
  sort_more has_nil = has_nil
  sort_more (has_channel {c} {k} e) = has_channel (m c k e)

  module _ (d : Setting) (live : List ℕ) where
    mutual
      pub operand_more : {t : Operand} {k : Sort} → SortedOperand d made live t k → SortedOperand d after live t k
      operand_more (done h) = done (sort_more h)
      operand_more (variable e i) = variable e i
      operand_more (unary o a) = unary o (operand_more a)
      operand_more (binary o a b) = binary o (operand_more a) (operand_more b)
      operand_more (receive c h) = receive (operand_more c) (sort_more h)
      operand_more (call e s) = call e (all_more s)
      operand_more (len c) = len (operand_more c)
      operand_more (cap c) = cap (operand_more c)
      operand_more (make n) = make (operand_more n)

      all_more : {ts : Operands} {ks : List Sort} → SortedOperands d made live ts ks
          → SortedOperands d after live ts ks
      all_more no_operand = no_operand
      all_more (one_operand a rest) = one_operand (operand_more a) (all_more rest)

pub operands_more : OperandsMore
operands_more d made after live ts ks m s = all_more made after m d live s

-- Operators.
module _ {made : Made} where
  int_yields : (z : ℤ) → Yields made (int z) IntSort
  int_yields z = yields has_int

  divided_yields : (divide : ℤ → ℤ → ℤ) (x y : ℤ) → Yields made (divided divide x y) IntSort
  divided_yields divide x y = by_zero (int_eq y (pos 0))
    where
      by_zero : (b : Bool) → Yields made (if b then faults DivideByZero else int (divide x y)) IntSort
      by_zero true = faulty
      by_zero false = int_yields _

  shifted_yields : (shift : ℤ → ℕ → ℤ) (x y : ℤ) → Yields made (shifted shift x y) IntSort
  shifted_yields shift x (pos n) = int_yields _
  shifted_yields shift x (negsuc n) = faulty

  arithmetic_yields : (op : BinaryOp) (x y : ℤ) → is_arithmetic op ≡ true → Yields made (on_ints op x y) IntSort
  arithmetic_yields Multiply x y e = int_yields _
  arithmetic_yields Divide x y e = divided_yields int_div x y
  arithmetic_yields Remainder x y e = divided_yields int_rem x y
  arithmetic_yields ShiftLeft x y e = shifted_yields shift_left x y
  arithmetic_yields ShiftRight x y e = shifted_yields shift_right x y
  arithmetic_yields BitAnd x y e = int_yields _
  arithmetic_yields AndNot x y e = int_yields _
  arithmetic_yields Add x y e = int_yields _
  arithmetic_yields Subtract x y e = int_yields _
  arithmetic_yields BitOr x y e = int_yields _
  arithmetic_yields BitXor x y e = int_yields _
  arithmetic_yields _ x y e = absurd (untrue e)

  order_yields : (op : BinaryOp) (x y : ℤ) → is_order op ≡ true → Yields made (on_ints op x y) BoolSort
  order_yields Less x y e = yields has_truth
  order_yields LessEqual x y e = yields has_truth
  order_yields Greater x y e = yields has_truth
  order_yields GreaterEqual x y e = yields has_truth
  order_yields _ x y e = absurd (untrue e)

  compared_yields : (op : BinaryOp) (b : Bool) → is_comparison op ≡ true → Yields made (compared op b) BoolSort
  compared_yields Equal b e = yields has_truth
  compared_yields NotEqual b e = yields has_truth
  compared_yields _ b e = absurd (untrue e)

  ints_yield : (op : BinaryOp) (x y : ℤ) → is_comparison op ≡ true → Yields made (on_ints op x y) BoolSort
  ints_yield Equal x y e = yields has_truth
  ints_yield NotEqual x y e = yields has_truth
  ints_yield _ x y e = absurd (untrue e)

  truths_yield : (op : BinaryOp) (a b : Bool) → is_comparison op ≡ true → Yields made (on_truths op a b) BoolSort
  truths_yield Equal a b e = yields has_truth
  truths_yield NotEqual a b e = yields has_truth
  truths_yield _ a b e = absurd (untrue e)

  logical_yields : (op : BinaryOp) (a b : Bool) → is_logical op ≡ true → Yields made (on_truths op a b) BoolSort
  logical_yields LogicalAnd a b e = yields has_truth
  logical_yields LogicalOr a b e = yields has_truth
  logical_yields _ a b e = absurd (untrue e)

  comparison_yields : (op : BinaryOp) {x y : Value} {k : Sort} → is_comparison op ≡ true → HasSort made x k
      → HasSort made y k → Yields made (operate op x y) BoolSort
  comparison_yields op e (has_int {n = a}) (has_int {n = b}) = ints_yield op a b e
  comparison_yields op e (has_truth {b = a}) (has_truth {b = b}) = truths_yield op a b e
  comparison_yields op e has_unit has_unit = compared_yields op true e
  comparison_yields op e has_nil has_nil = compared_yields op _ e
  comparison_yields op e has_nil (has_channel g) = compared_yields op _ e
  comparison_yields op e (has_channel g) has_nil = compared_yields op _ e
  comparison_yields op e (has_channel g) (has_channel h) = compared_yields op _ e

  pub operate_yields : (op : BinaryOp) {x y : Value} {k l : Sort} → BinarySorts op k l → HasSort made x k
      → HasSort made y k → Yields made (operate op x y) l
  operate_yields op (arithmetic e) (has_int {n = a}) (has_int {n = b}) = arithmetic_yields op a b e
  operate_yields op (order e) (has_int {n = a}) (has_int {n = b}) = order_yields op a b e
  operate_yields op (comparison e) g h = comparison_yields op e g h
  operate_yields op (logical e) (has_truth {b = a}) (has_truth {b = b}) = logical_yields op a b e

  pub apply_yields : (op : UnaryOp) {x : Value} {k : Sort} → UnarySorts op k → HasSort made x k
      → Yields made (apply op x) k
  apply_yields op plus has_int = int_yields _
  apply_yields op negate has_int = int_yields _
  apply_yields op complement has_int = int_yields _
  apply_yields op not has_truth = yields has_truth

  -- a value that something comes to, and what is made of it
  pub then_yields : {o : Outcome Value} {f : Value → Outcome Value} {k l : Sort}
      → Yields made o k → ((v : Value) → HasSort made v k → Yields made (f v) l) → Yields made (o >>= f) l
  then_yields (yields {v} h) g = g v h
  then_yields faulty g = faulty

-- a logical operator takes truths and gives one
pub logical_sorts : (op : BinaryOp) {k l : Sort} → is_logical op ≡ true → BinarySorts op k l → (k ≡ BoolSort)
    × (l ≡ BoolSort)
logical_sorts op h (arithmetic e) = absurd (no_arithmetic op h e)
  where
    no_arithmetic : (op : BinaryOp) → is_logical op ≡ true → is_arithmetic op ≡ true → ⊥
    no_arithmetic LogicalAnd h e = untrue e
    no_arithmetic LogicalOr h e = untrue e
    no_arithmetic _ h e = untrue h
logical_sorts op h (order e) = absurd (no_order op h e)
  where
    no_order : (op : BinaryOp) → is_logical op ≡ true → is_order op ≡ true → ⊥
    no_order LogicalAnd h e = untrue e
    no_order LogicalOr h e = untrue e
    no_order _ h e = untrue h
logical_sorts op h (comparison e) = absurd (no_comparison op h e)
  where
    no_comparison : (op : BinaryOp) → is_logical op ≡ true → is_comparison op ≡ true → ⊥
    no_comparison LogicalAnd h e = untrue e
    no_comparison LogicalOr h e = untrue e
    no_comparison _ h e = untrue h
logical_sorts op h (logical e) = (refl, refl)

pub settles_logical : (op : BinaryOp) (v : Value) → settles op v ≡ true → is_logical op ≡ true
settles_logical LogicalAnd v e = refl
settles_logical LogicalOr v e = refl
settles_logical _ v e = absurd (untrue e)

-- Values given to variables.
set_here : {X : Type 0} (xs : List X) (i : ℕ) (x : X) → i < length xs → slice_get (slice_set xs i x) i ≡ Some x
set_here [] i x h = absurd (omega arith)
set_here (y ∷ xs) zero x h = refl
set_here (y ∷ xs) (suc i) x h = set_here xs i x (omega arith)

set_else : {X : Type 0} (xs : List X) (i j : ℕ) (x : X) → (j ≡ i → ⊥)
    → slice_get (slice_set xs i x) j ≡ slice_get xs j
set_else [] i j x n = refl
set_else (y ∷ xs) zero zero x n = absurd (n refl)
set_else (y ∷ xs) zero (suc j) x n = refl
set_else (y ∷ xs) (suc i) zero x n = refl
set_else (y ∷ xs) (suc i) (suc j) x n = set_else xs i j x (λ e. n (ap suc e))

-- a variable that has a sort is one of the function's
pub within_length : (ds : List Declared) (x : ℕ) (k : Sort) → sort_at ds x ≡ Some k → x < length ds
within_length [] x k e = absurd (none-some _ e)
within_length (v ∷ ds) zero k e = omega arith
within_length (v ∷ ds) (suc x) k e = let h = within_length ds x k e in omega arith

same_or_not : (x y : ℕ) → (x ≡ y) ⊎ (x ≡ y → ⊥)
same_or_not x y = grind arith

module _ (ds : List Declared) (made : Made) where
  target_holding : (live : List ℕ) (held : Variables) (x : ℕ) (v : Value) (k : Sort)
      → sort_at ds x ≡ Some k → HasSort made v k → Holding ds made live held
      → Holding ds made (x ∷ live) (slice_set held x (Some v))
  target_holding live held x v k e h g =
      let room : x < length held = subst (λ n. x < n) (sym g.sizes) (within_length ds x k e) in
      let here : (y : ℕ) → y ≡ x → slice_get (slice_set held x (Some v)) y ≡ Some (Some v) =
      λ y q. ap (slice_get (slice_set held x (Some v))) q ∙ set_here held x (Some v) room in
      record {
        sizes = length-set held x (Some v) ∙ g.sizes;
        sorts = λ y w at. elim (same_or_not y x) [
          | inl q ↦ (
            k,
            ap (sort_at ds) q ∙ e,
            subst (λ u. HasSort made u k)
                (same_Some _ _ (same_Some _ _ (sym (here y q) ∙ at))) h,
          )
          | inr n ↦ g.sorts y w (sym (set_else held x y (Some v) n) ∙ at)
        ];
        values = λ y i. elim (same_or_not y x) [
          | inl q ↦ (v, here y q)
          | inr n ↦
              let w = g.values y (elim i [ inl q ↦ absurd (n q) | inr j ↦ j ]) in
              (w.0, set_else held x y (Some v) n ∙ w.1)
        ];
      }

  fewer_hold : (live more : List ℕ) (held : Variables) → Sub live more → Holding ds made more held
      → Holding ds made live held
  fewer_hold live more held s g = record { sizes = g.sizes; sorts = g.sorts; values = λ x i. g.values x (s x i) }

  fewer_assigned : (live more : List ℕ) {o : Outcome Variables} → Sub live more → Assigns ds made more o
      → Assigns ds made live o
  fewer_assigned live more s (assigns {held = held} g) = assigns (fewer_hold live more held s g)

  -- a variable with a value, and others with theirs
  first_assigned : (live : List ℕ) (held : Variables) (x : ℕ) (v : Value) (k : Sort) (xs : List (Option ℕ))
      (vs : List Value)
      → sort_at ds x ≡ Some k → Holding ds made live held
      → Assigns ds made (numbers_of xs ++ (x ∷ live)) (assigned xs vs (slice_set held x (Some v)))
      → Assigns ds made (numbers_of (Some x ∷ xs) ++ live) (assigned (Some x ∷ xs) (v ∷ vs) held)
  first_assigned live held x v k xs vs e g rest =
      let at = slice_get-get_or held x None (subst (λ n. x < n) (sym g.sizes) (within_length ds x k e)) in
      subst (λ o. Assigns ds made (x ∷ numbers_of xs ++ live) (written o x v held >>= λ held. assigned xs vs held)) (sym at)
      (fewer_assigned (x ∷ numbers_of xs ++ live) (numbers_of xs ++ (x ∷ live)) (λ y i. elim i [
        | inl q ↦ In-append_right y (numbers_of xs) (x ∷ live) (inl q)
        | inr j ↦
            elim (In-append_cases y (numbers_of xs) live j) [ inl a ↦ In-append_left y (numbers_of xs) (x ∷ live) a | inr b ↦ In-append_right y (numbers_of xs) (x ∷ live) (inr b) ]
      ]) rest)

  all_assigned : (live : List ℕ) (held : Variables) {xs : List (Option ℕ)} {vs : List Value} {ks : List Sort}
      → AreTargets ds xs ks → HaveSorts made vs ks → Holding ds made live held
      → Assigns ds made (numbers_of xs ++ live) (assigned xs vs held)
  all_assigned live held no_target h g = assigns g
  all_assigned live held (blank t) (one_value h rest) g = all_assigned live held t rest g
  all_assigned live held (target {x} {xs} {k} e t) (one_value {v} {vs = vs} h rest) g =
      first_assigned live held x v k xs vs e g (all_assigned (x ∷ live) (slice_set held x (Some v)) t rest (target_holding live held x v k e h g))

pub assigned_holding : AssignedHolding
assigned_holding ds made live held xs vs ks t h g = all_assigned ds made live held t h g
