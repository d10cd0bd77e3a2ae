use Rattle.std.proofs.Common.{refl}
use Rattle.std.specs.Fmt.{digits}
use Rattle.litmus.proofs.law_of_consoles.Goals as goal

pub returns-clause-hand_over : goal.returns-clause-hand_over
unfolding digits
returns-clause-hand_over c = refl

pub returns-clause-pairs : goal.returns-clause-pairs
unfolding digits
returns-clause-pairs c = refl

pub returns-clause-range : goal.returns-clause-range
unfolding digits
returns-clause-range c = refl

pub returns-clause-calls : goal.returns-clause-calls
unfolding digits
returns-clause-calls c = refl

pub returns-clause-division : goal.returns-clause-division
unfolding digits
returns-clause-division c = refl

pub returns-clause-order : goal.returns-clause-order
unfolding digits
returns-clause-order c = refl
