use Rattle.std.specs.Prelude.{option_copied}
use Rattle.gr_rollback.proofs.LendingLemmas.{lent_first}
use Rattle.gr_rollback.proofs.machine.Machine.first_alone.Goals as goal

pub returns : goal.returns
returns c = λ p w s. lent_first p w c.args.self.now s (option_copied c.nth_alone.result) c.nth_alone.ensures.ordered c.nth_alone.ensures.which
