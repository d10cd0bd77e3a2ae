-- What the code's answers say of tests, statements and files.
use Rattle.std.specs.Prelude.{◌≡◌, Bool, true, false, Option, Some, None, Result, Ok, Err}
use Rattle.gr_exprs.specs.declared.refusal.RuleError.{RuleError}
use Rattle.gr_exprs.specs.declared.refusal.RuleError.TheVariants as faults
use Rattle.gr_scan.specs.declared.token.Place.{Place}
use Rattle.gr_types.specs.declared.refusal.CheckError.{CheckError}
use Rattle.gr_types.specs.declared.refusal.CheckError.TheVariants as errors

-- a test: a fault says that it fails
abbrev pub Holds : {A : Type 0} → Result A RuleError → Bool → Type 0
Holds (Ok u) b = b ≡ true
Holds (Err (faults.Broken code)) b = b ≡ false
Holds (Err faults.Memory) b = Unit {0}

-- the fault of what begins at a place
abbrev pub refused_at : Place → RuleError → CheckError
refused_at place (faults.Broken code) = errors.Refused code place.start
refused_at place faults.Memory = errors.Memory

abbrev pub Denies : {B : Type 0} → CheckError → Option B → Type 0
Denies (errors.Refused code at) o = o ≡ None
Denies errors.Memory o = Unit {0}

-- a result of statements beside what it should be
abbrev pub Settles : {A B : Type 0} → (A → B) → Result A CheckError → Option B → Type 0
Settles view (Ok a) o = o ≡ Some (view a)
Settles view (Err error) o = Denies error o
