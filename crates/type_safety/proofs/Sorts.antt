-- Sorts: the types of values without the directions of channels, as a running program keeps them; and operands of a sort.
use Rattle.std.proofs.Common.{◌≡◌, ℕ, ℤ, Bool, true, false, List, [], ◌∷◌, map, Option, Some, None, option_map}
use Rattle.gr_tree.specs.declared.expr.UnaryOp.{UnaryOp}
use Rattle.gr_tree.specs.declared.expr.UnaryOp.TheVariants as unaries
use Rattle.gr_tree.specs.declared.expr.BinaryOp.{BinaryOp}
use Rattle.gr_tree.specs.declared.expr.BinaryOp.TheVariants as binaries
use Rattle.gr_base.specs.declared.names.ChName.{ChName}
use Rattle.gr_base.specs.declared.values.Value.{Value}
use Rattle.gr_base.specs.declared.values.Value.TheVariants as values
use Rattle.gr_base.specs.declared.kinds.Fault.{Fault}
use Rattle.gr_causal.specs.Sequences.{In}
use Rattle.gr_program.specs.Types.{Ty, IntType, BoolType, UnitType, ChanType}
use Rattle.gr_program.specs.Programs.{Declared}
use Rattle.gr_typing.specs.Scopes.{Signature, Sign, signature, numbered, type_of}
use Rattle.gr_typing.specs.Values.{is_comparison}
use Rattle.gr_rules.specs.Outcomes.{Outcome, gives, faults}
use Rattle.gr_rules.specs.Operands.{Operand, Done, Variable, Unary, Binary, Receive, Call, Len, Cap, Make, Operands, nothing, also}
use Rattle.gr_rules.specs.Evaluation.{Variables}
use Rattle.gr_rules.specs.Parts.{is_logical}
use Rattle.std.specs.Prelude.{slice_get, length}

pub data Sort : Type 0 where
  IntSort : Sort
  BoolSort : Sort
  UnitSort : Sort
  ChanSort : (element : Sort) → Sort

abbrev pub sort_of : Ty → Sort
sort_of IntType = IntSort
sort_of BoolType = BoolSort
sort_of UnitType = UnitSort
sort_of (ChanType direction element) = ChanSort (sort_of element)

-- what a call leaves; a function without a result leaves the empty value
abbrev pub result_sort : Option Ty → Sort
result_sort None = UnitSort
result_sort (Some t) = sort_of t

-- the sort of the variable with a number
abbrev pub sort_at : List Declared → ℕ → Option Sort
sort_at ds x = option_map sort_of (type_of (numbered ds x))

-- the sort of the elements of each channel that was made
abbrev pub Made : Type 0
Made = ChName → Option Sort

abbrev pub nothing_made : Made
nothing_made c = None

abbrev pub More : Made → Made → Type 0
More before after = (c : ChName) (k : Sort) → before c ≡ Some k → after c ≡ Some k

pub data HasSort (made : Made) : Value → Sort → Type 0 where
  has_int : {n : ℤ} → HasSort made (values.Int n) IntSort
  has_truth : {b : Bool} → HasSort made (values.Bool b) BoolSort
  has_unit : HasSort made values.Unit UnitSort
  has_nil : {k : Sort} → HasSort made (values.Chan None) (ChanSort k)
  has_channel : {c : ChName} {k : Sort} → made c ≡ Some k → HasSort made (values.Chan (Some c)) (ChanSort k)

pub data HaveSorts (made : Made) : List Value → List Sort → Type 0 where
  no_value : HaveSorts made [] []
  one_value : {v : Value} {vs : List Value} {k : Sort} {ks : List Sort} → HasSort made v k → HaveSorts made vs ks
      → HaveSorts made (v ∷ vs) (k ∷ ks)

-- it gives a value of the sort, or a fault
pub data Yields (made : Made) : Outcome Value → Sort → Type 0 where
  yields : {v : Value} {k : Sort} → HasSort made v k → Yields made (gives v) k
  faulty : {e : Fault} {k : Sort} → Yields made (faults e) k

-- operators that take two numbers, and give a number or a truth
abbrev pub is_arithmetic : BinaryOp → Bool
is_arithmetic binaries.Multiply = true
is_arithmetic binaries.Divide = true
is_arithmetic binaries.Remainder = true
is_arithmetic binaries.ShiftLeft = true
is_arithmetic binaries.ShiftRight = true
is_arithmetic binaries.BitAnd = true
is_arithmetic binaries.AndNot = true
is_arithmetic binaries.Add = true
is_arithmetic binaries.Subtract = true
is_arithmetic binaries.BitOr = true
is_arithmetic binaries.BitXor = true
is_arithmetic _ = false

abbrev pub is_order : BinaryOp → Bool
is_order binaries.Less = true
is_order binaries.LessEqual = true
is_order binaries.Greater = true
is_order binaries.GreaterEqual = true
is_order _ = false

pub data UnarySorts : UnaryOp → Sort → Type 0 where
  plus : UnarySorts unaries.Plus IntSort
  negate : UnarySorts unaries.Negate IntSort
  complement : UnarySorts unaries.Complement IntSort
  not : UnarySorts unaries.Not BoolSort

pub data BinarySorts (op : BinaryOp) : Sort → Sort → Type 0 where
  arithmetic : is_arithmetic op ≡ true → BinarySorts op IntSort IntSort
  order : is_order op ≡ true → BinarySorts op IntSort BoolSort
  comparison : {k : Sort} → is_comparison op ≡ true → BinarySorts op k BoolSort
  logical : is_logical op ≡ true → BinarySorts op BoolSort BoolSort

-- what the body of a function may rely on
pub record Setting : Type 0 where
  pub functions : List Signature
  pub variables : List Declared
  pub result : Option Ty

-- operands of a sort, where the variables with these numbers hold values
mutual
  pub data SortedOperand (d : Setting) (made : Made) (live : List ℕ) : Operand → Sort → Type 0 where
    done : {v : Value} {k : Sort} → HasSort made v k → SortedOperand d made live (Done v) k
    variable : {x : ℕ} {k : Sort} → sort_at d.variables x ≡ Some k → In x live
        → SortedOperand d made live (Variable x) k
    unary : {op : UnaryOp} {a : Operand} {k : Sort} → UnarySorts op k → SortedOperand d made live a k
        → SortedOperand d made live (Unary op a) k
    binary : {op : BinaryOp} {a b : Operand} {k l : Sort} → BinarySorts op k l → SortedOperand d made live a k
        → SortedOperand d made live b k → SortedOperand d made live (Binary op a b) l
    receive : {c : Operand} {zero : Value} {k : Sort} → SortedOperand d made live c (ChanSort k)
        → HasSort made zero k → SortedOperand d made live (Receive c zero) k
    call : {n : ℕ} {arguments : Operands} {name : List ℕ} {ts : List Ty} {r : Option Ty}
        → signature d.functions n ≡ Some (Sign name ts r)
        → SortedOperands d made live arguments (map sort_of ts)
        → SortedOperand d made live (Call n arguments) (result_sort r)
    len : {c : Operand} {k : Sort} → SortedOperand d made live c (ChanSort k)
        → SortedOperand d made live (Len c) IntSort
    cap : {c : Operand} {k : Sort} → SortedOperand d made live c (ChanSort k)
        → SortedOperand d made live (Cap c) IntSort
    make : {n : Operand} {k : Sort} → SortedOperand d made live n IntSort
        → SortedOperand d made live (Make n) (ChanSort k)

  pub data SortedOperands (d : Setting) (made : Made) (live : List ℕ) : Operands → List Sort → Type 0 where
    no_operand : SortedOperands d made live nothing []
    one_operand : {a : Operand} {rest : Operands} {k : Sort} {ks : List Sort}
        → SortedOperand d made live a k → SortedOperands d made live rest ks
        → SortedOperands d made live (also a rest) (k ∷ ks)

-- variables of a function hold values of their sorts, those with these numbers among them
pub record Holding (ds : List Declared) (made : Made) (live : List ℕ) (held : Variables) : Type 0 where
  pub sizes : length held ≡ length ds
  pub sorts : (x : ℕ) (v : Value) → slice_get held x ≡ Some (Some v) → (k : Sort) × (sort_at ds x ≡ Some k)
      × HasSort made v k
  pub values : (x : ℕ) → In x live → (v : Value) × (slice_get held x ≡ Some (Some v))

-- variables that values of these sorts are given to; the blank identifier takes any, and there may be more values
pub data AreTargets (ds : List Declared) : List (Option ℕ) → List Sort → Type 0 where
  no_target : {ks : List Sort} → AreTargets ds [] ks
  blank : {xs : List (Option ℕ)} {k : Sort} {ks : List Sort} → AreTargets ds xs ks
      → AreTargets ds (None ∷ xs) (k ∷ ks)
  target : {x : ℕ} {xs : List (Option ℕ)} {k : Sort} {ks : List Sort}
      → sort_at ds x ≡ Some k → AreTargets ds xs ks → AreTargets ds (Some x ∷ xs) (k ∷ ks)

-- the numbers of these variables
abbrev pub numbers_of : List (Option ℕ) → List ℕ
numbers_of [] = []
numbers_of (None ∷ xs) = numbers_of xs
numbers_of (Some x ∷ xs) = x ∷ numbers_of xs

-- all of the first are among the second
abbrev pub Sub : List ℕ → List ℕ → Type 0
Sub xs ys = (x : ℕ) → In x xs → In x ys
