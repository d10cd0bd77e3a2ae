-- Codes of names and values.
use Rattle.std.specs.Prelude.{ℕ, List, [], ◌∷◌, ◌++◌, Option}
use Rattle.gr_base.specs.declared.names.ChName.{ChName}
use Rattle.gr_base.specs.declared.values.Value.{Value}
use Rattle.gr_base.specs.declared.values.Value.TheVariants as values
use Rattle.gr_keys.specs.Codes.{number_code, bit_code, integer_code, option_code, list_code}

abbrev pub name_code : List ℕ → List ℕ
name_code counts = list_code number_code counts

abbrev pub channel_name_code : ChName → List ℕ
channel_name_code c = name_code c.go ++ number_code c.n

abbrev pub value_code : Value → List ℕ
value_code (values.Int i) = 0 ∷ integer_code i
value_code (values.Bool b) = 1 ∷ bit_code b
value_code values.Unit = 2 ∷ []
value_code (values.Chan c) = 3 ∷ option_code channel_name_code c

-- what a variable or a temporary holds
abbrev pub cell_code : Option Value → List ℕ
cell_code o = option_code value_code o
