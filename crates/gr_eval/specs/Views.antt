-- What is looked at, and what is given, as values and outcomes of the rules.
use Rattle.std.specs.Prelude.{Some, None, Result, Ok, Err}
use Rattle.gr_base.specs.declared.kinds.Fault.{Fault}
use Rattle.gr_base.specs.declared.values.Value.{Value}
use Rattle.gr_base.specs.declared.values.Value.TheVariants as values
use Rattle.gr_rules.specs.Outcomes.{Outcome, gives, faults}
use Rattle.gr_eval.specs.declared.seen.Scalar.{Scalar}
use Rattle.gr_eval.specs.declared.seen.Scalar.TheVariants as scalars
use Rattle.gr_eval.specs.declared.seen.Seen.{Seen}
use Rattle.gr_eval.specs.declared.seen.Seen.TheVariants as seen

-- a number or a truth value
abbrev pub scalar_value : Scalar → Value
scalar_value (scalars.Int n) = values.Int n
scalar_value (scalars.Bool b) = values.Bool b

-- a value with its name where that lies
abbrev pub value_of : Seen → Value
value_of (seen.Int n) = values.Int n
value_of (seen.Bool b) = values.Bool b
value_of seen.Unit = values.Unit
value_of seen.Nil = values.Chan None
value_of (seen.Channel name) = values.Chan (Some name.now)

-- a value of the kind, or a fault
abbrev pub scalar_outcome : Result Scalar Fault → Outcome Value
scalar_outcome (Ok s) = gives (scalar_value s)
scalar_outcome (Err e) = faults e

abbrev pub seen_outcome : Result Seen Fault → Outcome Value
seen_outcome (Ok s) = gives (value_of s)
seen_outcome (Err e) = faults e
