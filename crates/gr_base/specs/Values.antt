-- What values are printed as, and which of them have a name.
use Rattle.std.specs.Prelude.{◌≡◌, ℕ, List, Some, None, true, false, codes}
use Rattle.std.specs.Fmt.{signed_decimal}
use Rattle.gr_base.specs.Names.{ch_text}
use Rattle.gr_base.specs.declared.names.ChName.{ChName}
use Rattle.gr_base.specs.declared.values.Value.{Value}
use Rattle.gr_base.specs.declared.values.Value.TheVariants.{Int, Bool, Unit, Chan}

-- a number in decimal, `true` or `false`, `{}` for the empty struct, `nil` or the channel's name
abbrev pub value_text : Value → List ℕ
value_text (Int n) = signed_decimal n
value_text (Bool true) = codes "true"
value_text (Bool false) = codes "false"
value_text Unit = codes "{}"
value_text (Chan None) = codes "nil"
value_text (Chan (Some name)) = ch_text name

-- the value is a channel other than nil, and so has a name
abbrev pub IsNamed : Value → Type 0
IsNamed v = (name : ChName) × (v ≡ Chan (Some name))
