-- The codes of broken rules of statements, headings, labels and functions.
use Rattle.std.specs.Prelude.{◌≡◌, ℕ, Bool, false, ◌||◌, List, [], ◌∷◌, Option, Some, None, Result, Ok, Err, if◌then◌else◌, is_some, nat_eq, nat_lt}
use Rattle.std.specs.Cmp.Lexicographic.{pointwise}
use Rattle.gr_scan.specs.declared.token.Place.{Place}
use Rattle.gr_tree.specs.Exprs.{WrittenType, TypeName, UnitType, Chan, ParenType}
use Rattle.gr_tree.specs.Files as files
use Rattle.gr_typing.specs.Names.{predeclared, among, is_blank}
use Rattle.gr_typing.specs.Scopes.{Scope, number_of, Signature, may_name}
use Rattle.gr_typing.specs.Contexts.{Within}
use Rattle.gr_typing.specs.FileChecks.{ends_well}
use Rattle.gr_exprs.specs.declared.refusal.RefusalCode.{RefusalCode}
use Rattle.gr_exprs.specs.declared.refusal.RefusalCode.TheVariants as codes
use Rattle.gr_types.specs.declared.refusal.CheckError.{CheckError}
use Rattle.gr_types.specs.declared.refusal.CheckError.TheVariants as refusals
use Rattle.gr_types.specs.declared.labels.LabelError.{LabelError}
use Rattle.gr_types.specs.declared.labels.LabelError.TheVariants as label_faults
use Rattle.gr_types.specs.declared.labels.UnfitLabel.{UnfitLabel}
use Rattle.gr_types.specs.FindingStatements.{Checked}
use Rattle.gr_types.specs.Outlines.{Outline, OutlineOf, labeled_in}
use Rattle.gr_exprs.specs.Codes.{name_code}

-- a name that is to be a variable of the type `int`
abbrev pub variable_code : List Signature → Scope → List ℕ → RefusalCode
variable_code fs s x = if is_some (number_of s x) then codes.WrongForm else name_code fs s x

abbrev pub is_function : List files.Function → List ℕ → Bool
is_function [] x = false
is_function (files.FunctionOf place name groups w body closing ∷ others) x = pointwise nat_eq name x || is_function others x

abbrev pub heading_type_code : List files.Function → WrittenType → RefusalCode
heading_type_code fs (TypeName x) =
    if is_blank x then codes.UnknownName else (if among predeclared x || is_function fs x then codes.WrongForm else codes.UnknownName)
heading_type_code fs UnitType = codes.WrongForm
heading_type_code fs (Chan direction element) = heading_type_code fs element
heading_type_code fs (ParenType inner) = heading_type_code fs inner

-- names on the left of `:=` that may not stand there
abbrev pub define_code : List (List ℕ) → RefusalCode
define_code names = if may_name names then codes.NoNewVariable else codes.DeclaredTwice

abbrev pub label_code : LabelError → RefusalCode
label_code label_faults.Blank = codes.WrongLabel
label_code label_faults.DeclaredTwice = codes.DeclaredTwice
label_code label_faults.Unused = codes.WrongLabel

-- the first in the text of two faults: a rule that is broken at an offset, and a label that does not fit
abbrev pub earlier_of : RefusalCode → ℕ → Option UnfitLabel → RefusalCode × ℕ
earlier_of code at None = (code, at)
earlier_of code at (Some label) = if nat_lt label.place.start at then (label_code label.fault, label.place.start) else (code, at)

-- a missing return is refused at the closing brace
abbrev pub IsMissingReturn : {A : Type 0} → Place → Result A CheckError → Type 0
IsMissingReturn closing (Ok a) = ⊥
IsMissingReturn closing (Err (refusals.Refused code at)) = (code ≡ codes.MissingReturn) × (at ≡ closing.start)
IsMissingReturn closing (Err refusals.Memory) = Unit {0}

-- where all statements and labels of a function fit and it does not end well, the missing return is refused
abbrev pub TellsMissingReturn : {A : Type 0} → List Signature → Outline → Result A CheckError → Type 0
TellsMissingReturn fs (OutlineOf (files.FunctionOf place name groups w body closing) parameters wanted s) result =
    (b : Checked) → labeled_in (Within fs wanted []) s body ≡ Some b → ends_well wanted body ≡ false → IsMissingReturn closing result
