-- The code of a broken rule, where one value, name or type is looked at.
use Rattle.std.specs.Prelude.{◌≡◌, ℕ, ◌||◌, ◌&&◌, List, Option, Some, None, Result, Ok, Err, if◌then◌else◌, is_some, is_none, nat_eq}
use Rattle.std.specs.Prelude as prelude
use Rattle.std.specs.Cmp.Lexicographic.{pointwise}
use Rattle.gr_tree.specs.Exprs.{WrittenType, TypeName, UnitType, Chan, ParenType}
use Rattle.gr_const.specs.declared.constant.ConstError.{ConstError}
use Rattle.gr_const.specs.declared.constant.ConstError.TheVariants as errors
use Rattle.gr_typing.specs.Names.{predeclared, among}
use Rattle.gr_typing.specs.Scopes.{Scope, variable_named, Signature, function_in}
use Rattle.gr_typing.specs.Values.{Value, Known, NilValue, Made}
use Rattle.gr_exprs.specs.declared.refusal.RefusalCode.{RefusalCode}
use Rattle.gr_exprs.specs.declared.refusal.RefusalCode.TheVariants as codes
use Rattle.gr_exprs.specs.declared.refusal.RuleError.{RuleError}
use Rattle.gr_exprs.specs.declared.refusal.RuleError.TheVariants as faults
use Rattle.gr_exprs.specs.Finding.{Typed}

-- a broken rule has this code
abbrev pub Tells : {A : Type 0} → Result A RuleError → RefusalCode → Type 0
Tells (Ok a) code = Unit {0}
Tells (Err (faults.Broken told)) code = told ≡ code
Tells (Err faults.Memory) code = Unit {0}

-- a constant expression without a value
abbrev pub constant_code : ConstError → RefusalCode
constant_code errors.Form = codes.WrongForm
constant_code errors.Range = codes.Constant

-- a value that fits no place of some type: a constant out of range, or a value of another type
abbrev pub value_code : Value → Option Typed → RefusalCode
value_code (Known c) None = codes.Constant
value_code (Known c) (Some t) = codes.WrongForm
value_code NilValue t = codes.WrongForm
value_code (Made t p) u = codes.WrongForm

-- a name that stands for nothing which may stand there: what is not declared is unknown
abbrev pub name_code : List Signature → Scope → List ℕ → RefusalCode
name_code fs s x =
    if among predeclared x || (is_some (variable_named s x) || is_some (function_in fs x)) then codes.WrongForm else codes.UnknownName

-- a name that is called for a value: `close` and `println` give none
abbrev pub callee_code : List Signature → Scope → List ℕ → RefusalCode
callee_code fs s x =
    if (pointwise nat_eq x (prelude.codes "close") || pointwise nat_eq x (prelude.codes "println")) && is_none (variable_named s x)
    then codes.WrongCount else name_code fs s x

-- what is written for a type within a function, and in the heading of one of these functions
abbrev pub type_code : List Signature → Scope → WrittenType → RefusalCode
type_code fs s (TypeName x) = name_code fs s x
type_code fs s UnitType = codes.WrongForm
type_code fs s (Chan direction element) = type_code fs s element
type_code fs s (ParenType inner) = type_code fs s inner
