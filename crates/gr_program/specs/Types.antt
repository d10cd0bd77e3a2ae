-- Types (Go: Types, Channel types, Type identity).
use Rattle.std.specs.Prelude.{Bool, true, false, ◌&&◌}
use Rattle.gr_tree.specs.declared.expr.Direction.{Direction}
use Rattle.gr_tree.specs.declared.expr.Direction.TheVariants.{Both, Send, Receive}

pub data Ty : Type 0 where
  IntType : Ty
  BoolType : Ty
  UnitType : Ty
  ChanType : (direction : Direction) (element : Ty) → Ty

abbrev pub same_direction : Direction → Direction → Bool
same_direction Both Both = true
same_direction Send Send = true
same_direction Receive Receive = true
same_direction _ _ = false

-- types are identical where they are written alike
abbrev pub same_type : Ty → Ty → Bool
same_type IntType IntType = true
same_type BoolType BoolType = true
same_type UnitType UnitType = true
same_type (ChanType d t) (ChanType e u) = same_direction d e && same_type t u
same_type _ _ = false
