-- Types, literals and variables of the code, without where they lie in memory.
use Rattle.std.specs.Prelude.{List, [], ◌∷◌}
use Rattle.gr_program.specs.declared.types.Type as code_type
use Rattle.gr_program.specs.declared.types.Type.TheVariants as types
use Rattle.gr_program.specs.declared.program.Literal as code_literal
use Rattle.gr_program.specs.declared.program.Literal.TheVariants as literals
use Rattle.gr_program.specs.declared.program.Variable as code_variable
use Rattle.gr_program.specs.Types.{Ty, IntType, BoolType, UnitType, ChanType}
use Rattle.gr_program.specs.Programs.{Literal, Number, Truth, Empty, Nil, Declared, Named}

abbrev pub ty_of : code_type.Type → Ty
ty_of types.Int = IntType
ty_of types.Bool = BoolType
ty_of types.Unit = UnitType
ty_of (types.Chan' direction p element) = ChanType direction (ty_of element)

abbrev pub types_of : List code_type.Type → List Ty
types_of [] = []
types_of (t ∷ ts) = ty_of t ∷ types_of ts

abbrev pub literal_of : code_literal.Literal → Literal
literal_of (literals.Number n) = Number n
literal_of (literals.Truth b) = Truth b
literal_of literals.Empty = Empty
literal_of literals.Nil = Nil

abbrev pub variable_of : code_variable.Variable → Declared
variable_of v = Named v.name.items (ty_of v.value_type)

abbrev pub declared_of : List code_variable.Variable → List Declared
declared_of [] = []
declared_of (v ∷ vs) = variable_of v ∷ declared_of vs
