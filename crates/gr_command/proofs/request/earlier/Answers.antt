use Rattle.gr_command.proofs.Errors.{on_err}
use Rattle.gr_command.proofs.Naming.{later_named}
use Rattle.gr_command.proofs.request.earlier.Goals as goal

pub returns-in_err-viewed-clause-needed : goal.returns-in_err-viewed-clause-needed
returns-in_err-viewed-clause-needed c =
    on_err c.from_residual.result (later_named _ _ _ c.in-Some.ensures (later_named _ _ _ c.in-Some-next_word.ensures c.in_err-viewed.ensures.needed))
