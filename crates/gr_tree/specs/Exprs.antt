-- Types and expressions, without where they lie in memory.
use Rattle.std.specs.Prelude.{ℕ, ◌+◌, max, List, [], ◌∷◌, Vec}
use Rattle.std.proofs.Common.{Global}
use Rattle.gr_tree.specs.declared.expr.UnaryOp.{UnaryOp}
use Rattle.gr_tree.specs.declared.expr.BinaryOp.{BinaryOp}
use Rattle.gr_tree.specs.declared.expr.Direction.{Direction}
use Rattle.gr_tree.specs.declared.expr.TypeTree as code_type
use Rattle.gr_tree.specs.declared.expr.TypeTree.TheVariants as types
use Rattle.gr_tree.specs.declared.expr.Expr.{Expr, Row_of-Expr, end_of-Expr, more_of-Expr}
use Rattle.gr_tree.specs.declared.expr.Expr.TheVariants as exprs

-- a type as it is written
pub data WrittenType : Type 0 where
  TypeName : (name : List ℕ) → WrittenType
  UnitType : WrittenType
  Chan : (direction : Direction) (element : WrittenType) → WrittenType
  ParenType : (inner : WrittenType) → WrittenType

-- an expression, and expressions one after another
mutual
  pub data Tree : Type 0 where
    Number : (n : ℕ) → Tree
    Text : (bytes : List ℕ) → Tree
    Name : (name : List ℕ) → Tree
    UnitValue : Tree
    Paren : (inner : Tree) → Tree
    Call : (function : List ℕ) (arguments : Trees) → Tree
    Make : (type : WrittenType) → Tree
    MakeSized : (type : WrittenType) (size : Tree) → Tree
    Unary : (op : UnaryOp) (operand : Tree) → Tree
    Binary : (op : BinaryOp) (left right : Tree) → Tree

  pub data Trees : Type 0 where
    none : Trees
    more : (first : Tree) (others : Trees) → Trees

-- how many levels a type has: a leaf has one, and a pair of parentheses is a level
abbrev pub type_height : WrittenType → ℕ
type_height (TypeName name) = 1
type_height UnitType = 1
type_height (Chan direction element) = type_height element + 1
type_height (ParenType inner) = type_height inner + 1

-- how many levels an expression has, and the highest of several
abbrev mutual
  pub height : Tree → ℕ
  height (Number n) = 1
  height (Text bytes) = 1
  height (Name name) = 1
  height UnitValue = 1
  height (Paren inner) = height inner + 1
  height (Call function arguments) = heights arguments + 1
  height (Make type) = type_height type + 1
  height (MakeSized type size) = max (type_height type) (height size) + 1
  height (Unary op operand) = height operand + 1
  height (Binary op left right) = max (height left) (height right) + 1

  pub heights : Trees → ℕ
  heights none = 0
  heights (more first others) = max (height first) (heights others)

-- The pure trees of the code's.
abbrev pub type_of : code_type.TypeTree → WrittenType
type_of (types.Name name) = TypeName name.items
type_of types.Unit = UnitType
type_of (types.Chan' direction p element) = Chan direction (type_of element)
type_of (types.Paren' p inner) = ParenType (type_of inner)

abbrev mutual
  pub tree_of : Expr → Tree
  tree_of (exprs.Number n) = Number n
  tree_of (exprs.Text bytes) = Text bytes.items
  tree_of (exprs.Name name) = Name name.items
  tree_of exprs.Unit = UnitValue
  tree_of (exprs.Paren' p inner) = Paren (tree_of inner)
  tree_of (exprs.Call' function shape all) = Call function.value.items (row_trees all)
  tree_of (exprs.Make type) = Make (type_of type)
  tree_of (exprs.MakeSized' type p size) = MakeSized (type_of type.value) (tree_of size)
  tree_of (exprs.Unary' op p operand) = Unary op (tree_of operand)
  tree_of (exprs.Binary' op p left q right) = Binary op (tree_of left) (tree_of right)

  pub row_trees : {m : _} → Row_of-Expr m → Trees
  row_trees end_of-Expr = none
  row_trees (more_of-Expr e rest) = more (tree_of e) (row_trees rest)

abbrev pub trees_of : List Expr → Trees
trees_of [] = none
trees_of (e ∷ es) = more (tree_of e) (trees_of es)

abbrev pub names_of : List (Vec ℕ Global) → List (List ℕ)
names_of [] = []
names_of (name ∷ names) = name.items ∷ names_of names
