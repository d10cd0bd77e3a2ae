-- Values of constants, exact and as a running program has them.
use Rattle.gr_base.specs.declared.values.Value.{Value}
use Rattle.gr_base.specs.declared.values.Value.TheVariants.{Int, Bool}
use Rattle.gr_const.specs.declared.constant.Constant.{Constant}
use Rattle.gr_const.specs.declared.constant.Constant.TheVariants.{Whole, Truth}
use Rattle.gr_rules.specs.Operators.{wrapped}

-- a constant as a value
abbrev pub as_value : Constant → Value
as_value (Whole x) = Int x
as_value (Truth b) = Bool b

-- what is left of it in an `int` (Go: Integer overflow)
abbrev pub wrapped_value : Constant → Value
wrapped_value (Whole x) = Int (wrapped x)
wrapped_value (Truth b) = Bool b
