use Rattle.std.proofs.Common.{refl}
use Rattle.std.specs.Fmt.{digits}
use Rattle.gr_command.proofs.laws.examples_of_replies.Goals as goal

pub returns-clause-lines : goal.returns-clause-lines
unfolding digits
returns-clause-lines c = refl

pub returns-clause-goroutines : goal.returns-clause-goroutines
unfolding digits
returns-clause-goroutines c = refl

pub returns-clause-channels : goal.returns-clause-channels
unfolding digits
returns-clause-channels c = refl

pub returns-clause-rows : goal.returns-clause-rows
unfolding digits
returns-clause-rows c = refl

pub returns-clause-steps : goal.returns-clause-steps
unfolding digits
returns-clause-steps c = refl
