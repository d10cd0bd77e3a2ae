-- Types (Go: Types, Channel types, Type identity, Assignability, The zero value).
use Rattle.std.specs.Prelude.{Bool, true, false, Option, Some, None, if◌then◌else◌, nat_eq, codes}
use Rattle.std.specs.Cmp.Lexicographic.{pointwise}
use Rattle.gr_tree.specs.declared.expr.Direction.{Direction}
use Rattle.gr_tree.specs.declared.expr.Direction.TheVariants.{Both, Send, Receive}
use Rattle.gr_program.specs.Types.{Ty, IntType, BoolType, UnitType, ChanType, same_type}
use Rattle.gr_tree.specs.Exprs as written
use Rattle.gr_tree.specs.Exprs.{WrittenType}

abbrev pub chan_of : Direction → Option Ty → Option Ty
chan_of direction (Some element) = Some (ChanType direction element)
chan_of direction None = None

-- the type that is written; no other names are types
abbrev pub type_written : WrittenType → Option Ty
type_written (written.TypeName x) =
    if pointwise nat_eq x (codes "int") then Some IntType else (if pointwise nat_eq x (codes "bool") then Some BoolType else None)
type_written written.UnitType = Some UnitType
type_written (written.Chan direction element) = chan_of direction (type_written element)
type_written (written.ParenType inner) = type_written inner

-- A value of the first type may be given to a place of the second. The types are identical, or a channel that sends and
-- receives is given to one with the same elements.
abbrev pub assignable : Ty → Ty → Bool
assignable (ChanType Both t) (ChanType e u) = same_type t u
assignable t u = same_type t u

abbrev pub may_send : Direction → Bool
may_send Receive = false
may_send _ = true

abbrev pub may_receive : Direction → Bool
may_receive Send = false
may_receive _ = true
