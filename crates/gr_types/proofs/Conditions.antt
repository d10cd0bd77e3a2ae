-- Conditions.
use Rattle.std.proofs.Common.{◌≡◌, refl}
use Rattle.std.specs.Prelude.{ℤ, Option, Some, None}
use Rattle.gr_const.specs.declared.constant.Constant.TheVariants as constants
use Rattle.gr_const.specs.Constants as constant
use Rattle.gr_program.specs.Types.{BoolType}
use Rattle.gr_typing.specs.Values.{Known}
use Rattle.gr_exprs.specs.Finding.{◌>>=◌, int_typed, if_same, typed, of_kind}

no_int : (o : Option ℤ) → ((o >>= λ m. Some (int_typed m)) >>= λ w. if_same BoolType w.0 w.1) ≡ None
no_int (Some m) = refl
no_int None = refl

-- a whole constant is no truth value, whether or not it is in range
pub no_truth : (n : ℤ) → of_kind BoolType (Known (constants.Whole n)) ≡ None
unfolding typed
no_truth n = no_int (constant.whole (constants.Whole n))
