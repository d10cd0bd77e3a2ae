-- What is answered where there is no value.
use Rattle.std.specs.Prelude.{Option, Some, None, Result, Ok, Err}
use Rattle.gr_const.specs.declared.constant.Constant.{Constant}
use Rattle.gr_const.specs.declared.constant.ConstError.{ConstError}
use Rattle.gr_const.specs.declared.constant.ConstError.TheVariants.{Range}

-- the value, or that there is none for its range
abbrev pub in_range : Option Constant → Result Constant ConstError
in_range (Some c) = Ok c
in_range None = Err Range
