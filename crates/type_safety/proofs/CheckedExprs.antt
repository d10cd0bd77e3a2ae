-- Expressions that the checker takes: what stands for them in a program has a sort, that of their type.
use Rattle.std.proofs.Common.{◌≡◌, ℕ, Bool, true, false, List, map, Option, Some, None, option_map, refl, sym, ap, subst, inl, inr}
use Rattle.std.proofs.lemmas.Option.{same_Some}
use Rattle.std.specs.Prelude.{◌||◌, if◌then◌else◌}
use Rattle.std.proofs.lemmas.Bool.{and_parts, or_cases}
use Rattle.gr_tree.specs.declared.expr.Direction.TheVariants as directions
use Rattle.gr_tree.specs.declared.expr.UnaryOp.{UnaryOp}
use Rattle.gr_tree.specs.declared.expr.UnaryOp.TheVariants as unaries
use Rattle.gr_tree.specs.declared.expr.BinaryOp.{BinaryOp}
use Rattle.gr_tree.specs.declared.expr.BinaryOp.TheVariants as binaries
use Rattle.gr_tree.specs.Exprs as written
use Rattle.gr_program.specs.Types.{Ty, IntType, BoolType, UnitType, ChanType, same_type}
use Rattle.gr_typing.specs.Types.{assignable}
use Rattle.gr_program.specs.Programs.{zero_of, Expr, Unary, Exprs, Declared}
use Rattle.gr_typing.specs.Scopes.{Scope}
use Rattle.gr_typing.specs.Values as rules
use Rattle.gr_typing.specs.Values.{Value, Known, NilValue, Made, HasType, Fits, unary_type, compared, if_ints, if_truths, binary_type, is_comparison, IsValue, IsCall, AreArguments}
use Rattle.gr_typing.specs.Statements as judged
use Rattle.gr_typing.specs.Communications as communications
use Rattle.gr_typing.specs.Assignments as assignments
use Rattle.gr_typing.specs.Assignments.{HasVariable}
use Rattle.gr_typing.specs.Communications.{IsReceive, IsSend}
use Rattle.gr_typing.specs.Statements.{IsCondition, IsLoopCondition}
use Rattle.gr_causal.specs.Sequences.{In}
use Rattle.gr_rules.specs.Operands.{value_of, operand_of, operands_of}
use Rattle.gr_rules.specs.Parts.{is_logical}
use Rattle.type_safety.proofs.Sorts as sorts
use Rattle.type_safety.proofs.Sorts.{Sort, IntSort, BoolSort, UnitSort, ChanSort, sort_of, result_sort, sort_at, nothing_made, HasSort, UnarySorts, BinarySorts, is_arithmetic, Setting, SortedOperand, SortedOperands}
use Rattle.type_safety.proofs.Promises.{Live, Begins, TypedSorted, FittingSorted}

no_truth : {P : Type 0} → false ≡ true → P
no_truth e = absurd (cc)

none_some : {A P : Type 0} {a : A} → None ≡ Some a → P
none_some e = absurd (cc)

-- types of one sort
pub same_sort : (t u : Ty) → same_type t u ≡ true → sort_of t ≡ sort_of u
same_sort IntType IntType e = refl
same_sort BoolType BoolType e = refl
same_sort UnitType UnitType e = refl
same_sort (ChanType d t) (ChanType g u) e = ap ChanSort (same_sort t u ((and_parts _ _ e).1))
same_sort _ _ e = no_truth e

pub assignable_sort : (t u : Ty) → assignable t u ≡ true → sort_of t ≡ sort_of u
assignable_sort IntType u e = same_sort IntType u e
assignable_sort BoolType u e = same_sort BoolType u e
assignable_sort UnitType u e = same_sort UnitType u e
assignable_sort (ChanType directions.Both t) (ChanType g u) e = ap ChanSort (same_sort t u e)
assignable_sort (ChanType directions.Send t) u e = same_sort (ChanType directions.Send t) u e
assignable_sort (ChanType directions.Receive t) u e = same_sort (ChanType directions.Receive t) u e
assignable_sort (ChanType directions.Both t) IntType e = no_truth e
assignable_sort (ChanType directions.Both t) BoolType e = no_truth e
assignable_sort (ChanType directions.Both t) UnitType e = no_truth e

pub zero_sorted : (made : sorts.Made) (t : Ty) → HasSort made (value_of (zero_of t)) (sort_of t)
zero_sorted made IntType = sorts.has_int
zero_sorted made BoolType = sorts.has_truth
zero_sorted made UnitType = sorts.has_unit
zero_sorted made (ChanType d t) = sorts.has_nil

-- operators
unary_sorts : (op : UnaryOp) (t u : Ty) → unary_type op t ≡ Some u → UnarySorts op (sort_of t)
    × (sort_of t ≡ sort_of u)
unary_sorts unaries.Plus IntType u e = (sorts.plus, ap sort_of (same_Some _ _ e))
unary_sorts unaries.Negate IntType u e = (sorts.negate, ap sort_of (same_Some _ _ e))
unary_sorts unaries.Complement IntType u e = (sorts.complement, ap sort_of (same_Some _ _ e))
unary_sorts unaries.Not BoolType u e = (sorts.not, ap sort_of (same_Some _ _ e))
unary_sorts _ _ u e = none_some e

-- the sorts of two operands and of the value
abbrev Operands : BinaryOp → Ty → Ty → Ty → Type 0
Operands op t w r = BinarySorts op (sort_of t) (sort_of r) × (sort_of w ≡ sort_of t)

compared_sorts : (op : BinaryOp) (t w r : Ty) → is_comparison op ≡ true → compared t w ≡ Some r → Operands op t w r
compared_sorts op t w r c e = by_test (assignable t w || assignable w t) refl e
  where
    by_test : (b : Bool) → (assignable t w || assignable w t) ≡ b → (if b then Some BoolType else None) ≡ Some r
        → Operands op t w r
    by_test true same is = (
      subst (λ r. BinarySorts op (sort_of t) (sort_of r)) (same_Some _ _ is) (sorts.comparison c),
      elim (or_cases (assignable t w) (assignable w t) same) [ inl f ↦ sym (assignable_sort t w f) | inr f ↦ assignable_sort w t f ],
    )
    by_test false same is = none_some is

number_sorts : (op : BinaryOp) (t w r : Ty) → is_arithmetic op ≡ true → if_ints t w IntType ≡ Some r
    → Operands op t w r
number_sorts op IntType IntType r a e =
    (subst (λ r. BinarySorts op IntSort (sort_of r)) (same_Some _ _ e) (sorts.arithmetic a), refl)
number_sorts op _ _ r a e = none_some e

order_sorts : (op : BinaryOp) (t w r : Ty) → sorts.is_order op ≡ true → if_ints t w BoolType ≡ Some r
    → Operands op t w r
order_sorts op IntType IntType r a e =
    (subst (λ r. BinarySorts op IntSort (sort_of r)) (same_Some _ _ e) (sorts.order a), refl)
order_sorts op _ _ r a e = none_some e

logical_sorts : (op : BinaryOp) (t w r : Ty) → is_logical op ≡ true → if_truths t w ≡ Some r → Operands op t w r
logical_sorts op BoolType BoolType r a e =
    (subst (λ r. BinarySorts op BoolSort (sort_of r)) (same_Some _ _ e) (sorts.logical a), refl)
logical_sorts op _ _ r a e = none_some e

binary_sorts : (op : BinaryOp) (t w r : Ty) → binary_type op t w ≡ Some r → Operands op t w r
binary_sorts binaries.Equal t w r e = compared_sorts binaries.Equal t w r refl e
binary_sorts binaries.NotEqual t w r e = compared_sorts binaries.NotEqual t w r refl e
binary_sorts binaries.Less t w r e = order_sorts binaries.Less t w r refl e
binary_sorts binaries.LessEqual t w r e = order_sorts binaries.LessEqual t w r refl e
binary_sorts binaries.Greater t w r e = order_sorts binaries.Greater t w r refl e
binary_sorts binaries.GreaterEqual t w r e = order_sorts binaries.GreaterEqual t w r refl e
binary_sorts binaries.LogicalAnd t w r e = logical_sorts binaries.LogicalAnd t w r refl e
binary_sorts binaries.LogicalOr t w r e = logical_sorts binaries.LogicalOr t w r refl e
binary_sorts binaries.Multiply t w r e = number_sorts binaries.Multiply t w r refl e
binary_sorts binaries.Divide t w r e = number_sorts binaries.Divide t w r refl e
binary_sorts binaries.Remainder t w r e = number_sorts binaries.Remainder t w r refl e
binary_sorts binaries.ShiftLeft t w r e = number_sorts binaries.ShiftLeft t w r refl e
binary_sorts binaries.ShiftRight t w r e = number_sorts binaries.ShiftRight t w r refl e
binary_sorts binaries.BitAnd t w r e = number_sorts binaries.BitAnd t w r refl e
binary_sorts binaries.AndNot t w r e = number_sorts binaries.AndNot t w r refl e
binary_sorts binaries.Add t w r e = number_sorts binaries.Add t w r refl e
binary_sorts binaries.Subtract t w r e = number_sorts binaries.Subtract t w r refl e
binary_sorts binaries.BitOr t w r e = number_sorts binaries.BitOr t w r refl e
binary_sorts binaries.BitXor t w r e = number_sorts binaries.BitXor t w r refl e

-- an operator that gives a number for two numbers
int_bool : {P : Type 0} → Some BoolType ≡ Some IntType → P
int_bool e = absurd (cc)

pub arithmetic_of : (op : BinaryOp) → binary_type op IntType IntType ≡ Some IntType → is_arithmetic op ≡ true
arithmetic_of binaries.Equal e = int_bool e
arithmetic_of binaries.NotEqual e = int_bool e
arithmetic_of binaries.Less e = int_bool e
arithmetic_of binaries.LessEqual e = int_bool e
arithmetic_of binaries.Greater e = int_bool e
arithmetic_of binaries.GreaterEqual e = int_bool e
arithmetic_of binaries.LogicalAnd e = none_some e
arithmetic_of binaries.LogicalOr e = none_some e
arithmetic_of _ e = refl

module _ (d : Setting) (live : List ℕ) (s : Scope) (lives : Live s live) (begins : Begins s d.variables) where
  -- what stands for a value in a program has the sort of the value's type; a constant and nil have no type yet
  abbrev SortedValue : Value → Type 0
  SortedValue (Made t p) = SortedOperand d nothing_made live (operand_of p) (sort_of t)
  SortedValue _ = Unit {0}

  of_type_sorted : {v : Value} {t : Ty} {p : Expr} → SortedValue v → HasType v t p
      → SortedOperand d nothing_made live (operand_of p) (sort_of t)
  of_type_sorted h (rules.has_int is) = sorts.done sorts.has_int
  of_type_sorted h rules.has_truth = sorts.done sorts.has_truth
  of_type_sorted h rules.has_made = h

  fitting : {v : Value} {t : Ty} {p : Expr} → SortedValue v → Fits v t p
      → SortedOperand d nothing_made live (operand_of p) (sort_of t)
  fitting h (rules.of_type {v = v} {t = t} {u = u} {p = p} is may) =
      subst (λ k. SortedOperand d nothing_made live (operand_of p) k) (assignable_sort t u may) (of_type_sorted h is)
  fitting h rules.nil_channel = sorts.done sorts.has_nil

  mutual
    value_sorted : {e : written.Tree} {v : Value} → IsValue d.functions s e v → SortedValue v
    value_sorted (rules.number is) = tt
    value_sorted (rules.variable {x = x} {k = k} {t = t} is of) =
        sorts.variable (ap (option_map sort_of) (begins k t of)) (lives x k is)
    value_sorted (rules.true_name h e) = tt
    value_sorted (rules.false_name h e) = tt
    value_sorted (rules.nil_name h e) = tt
    value_sorted rules.unit = sorts.done sorts.has_unit
    value_sorted (rules.paren h) = value_sorted h
    value_sorted (rules.unary_constant h e) = tt
    value_sorted (rules.unary_made {op = op} {t = t} {u = u} {p = p} h e) =
        let w = unary_sorts op t u e in
        subst (λ k. SortedOperand d nothing_made live (operand_of (Unary op p)) k) w.1 (sorts.unary w.0 (value_sorted h))
    value_sorted (rules.receive {t = t} h may) = sorts.receive (value_sorted h) (zero_sorted nothing_made t)
    value_sorted (rules.binary_constant h g e) = tt
    value_sorted (rules.binary_made {op = op} {t = t} {w = w} {r = r} {q = q} h g other left right e may) =
        let o = binary_sorts op t w r e in
        sorts.binary o.0 (of_type_sorted (value_sorted h) left) (subst (λ k. SortedOperand d nothing_made live (operand_of q) k) o.1 (of_type_sorted (value_sorted g) right))
    value_sorted (rules.left_nil c h g) =
        sorts.binary (sorts.comparison c) (sorts.done sorts.has_nil) (value_sorted g)
    value_sorted (rules.right_nil c h g) =
        sorts.binary (sorts.comparison c) (value_sorted h) (sorts.done sorts.has_nil)
    value_sorted (rules.length h e g) = sorts.len (value_sorted g)
    value_sorted (rules.capacity h e g) = sorts.cap (value_sorted g)
    value_sorted (rules.call h) = call_sorted h
    value_sorted (rules.make e) = sorts.make (sorts.done sorts.has_int)
    value_sorted (rules.make_sized e h is may) = sorts.make (of_type_sorted (value_sorted h) is)

    pub call_sorted : {x : List ℕ} {es : written.Trees} {r : Option Ty} {p : Expr} → IsCall d.functions s x es r p
        → SortedOperand d nothing_made live (operand_of p) (result_sort r)
    call_sorted (rules.calls free at is h) = sorts.call is (arguments_sorted h)

    pub arguments_sorted : {es : written.Trees} {ts : List Ty} {ps : Exprs} → AreArguments d.functions s es ts ps
        → SortedOperands d nothing_made live (operands_of ps) (map sort_of ts)
    arguments_sorted rules.no_argument = sorts.no_operand
    arguments_sorted (rules.argument h may rest) =
        sorts.one_operand (fitting (value_sorted h) may) (arguments_sorted rest)

pub typed_sorted : TypedSorted
typed_sorted d live s e v t p lives begins h is =
    of_type_sorted d live s lives begins (value_sorted d live s lives begins h) is

pub fitting_sorted : FittingSorted
fitting_sorted d live s e v t p lives begins h may =
    fitting d live s lives begins (value_sorted d live s lives begins h) may

-- conditions, receives and sends
pub condition_sorted : (d : Setting) (live : List ℕ) (s : Scope) (e : written.Tree) (p : Expr)
    → Live s live → Begins s d.variables → IsCondition d.functions s e p
    → SortedOperand d nothing_made live (operand_of p) BoolSort
condition_sorted d live s e p lives begins (judged.condition {v = v} h is) =
    typed_sorted d live s e v BoolType p lives begins h is

pub receive_sorted : (d : Setting) (live : List ℕ) (s : Scope) (e : written.Tree) (t : Ty) (p : Expr)
    → Live s live → Begins s d.variables → IsReceive d.functions s e t p
    → SortedOperand d nothing_made live (operand_of p) (ChanSort (sort_of t))
receive_sorted d live s e t p lives begins (communications.receive h may) = value_sorted d live s lives begins h
receive_sorted d live s e t p lives begins (communications.receive_paren {e = inner} h) =
    receive_sorted d live s inner t p lives begins h

pub send_sorted : (d : Setting) (live : List ℕ) (s : Scope) (c e : written.Tree) (p q : Expr)
    → Live s live → Begins s d.variables → IsSend d.functions s c e p q
    → (k : Sort) × SortedOperand d nothing_made live (operand_of p) (ChanSort k)
    × SortedOperand d nothing_made live (operand_of q) k
send_sorted d live s c e p q lives begins (communications.sends {t = t} {v = v} h may g fits) =
    (sort_of t, value_sorted d live s lives begins h, fitting_sorted d live s e v t q lives begins g fits)

-- the variable that a name stands for
pub variable_sorted : (ds : List Declared) (s : Scope) (x : List ℕ) (k : ℕ) (t : Ty) → Begins s ds
    → HasVariable s x k t → sort_at ds k ≡ Some (sort_of t)
variable_sorted ds s x k t begins (assignments.has b is of) = ap (option_map sort_of) (begins k t of)

pub variable_live : (live : List ℕ) (s : Scope) (x : List ℕ) (k : ℕ) (t : Ty) → Live s live → HasVariable s x k t
    → In k live
variable_live live s x k t lives (assignments.has b is of) = lives x k is
