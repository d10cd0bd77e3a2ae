use Rattle.gr_command.proofs.Naming.{later_named, err_then}
use Rattle.gr_command.proofs.back.read_target.Goals as goal

pub returns-in-Some-next_word-clause-needed : goal.returns-in-Some-next_word-clause-needed
returns-in-Some-next_word-clause-needed c = err_then c.by_way.result (later_named _ _ _ c.in-Some.ensures) c.by_way.ensures.needed
