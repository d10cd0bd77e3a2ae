-- Why an evaluation gave no value.
use Rattle.std.specs.Prelude.{◌≡◌, Bool, true, false}
use Rattle.gr_tree.specs.declared.expr.BinaryOp.{BinaryOp}
use Rattle.gr_base.specs.Values.{IsNamed}
use Rattle.gr_base.specs.declared.values.Value.{Value}
use Rattle.gr_rules.specs.Outcomes.{Outcome, gives, faults, wrong, ◌>>=◌}
use Rattle.gr_rules.specs.Operators.{operate}
use Rattle.gr_eval.specs.declared.stop.Stop.{Stop}
use Rattle.gr_eval.specs.declared.stop.Stop.TheVariants.{Fault, NoMemory}

-- the fault is that of the rules
abbrev pub Stops : {A : Type 0} → Stop → Outcome A → Type 0
Stops (Fault f) o = o ≡ faults f
Stops NoMemory o = Unit {0}

-- out of memory comes of the name of a channel alone
abbrev pub WantsName : Stop → Outcome Value → Type 0
WantsName (Fault f) o = Unit {0}
WantsName NoMemory o = (v : Value) × (o ≡ gives v) × IsNamed v

-- whether it stops the program
abbrev pub is_fault : {A : Type 0} → Outcome A → Bool
is_fault (gives x) = false
is_fault (faults f) = true
is_fault wrong = false

-- an operator on the value of the right operand, which comes first, and that of the left one
abbrev pub updated : BinaryOp → Outcome Value → Outcome Value → Outcome Value
updated op right left = right >>= λ v. left >>= λ u. operate op u v
