use Rattle.std.proofs.Common.{◌≡◌, length, ap, ◌∙◌}
use Rattle.gr_rollback.specs.Logs.{records_of}
use Rattle.gr_rollback.specs.declared.TheConstants.{LOG_LIMIT}
use Rattle.gr_session.specs.Debuggees.{log_in}
use Rattle.gr_session.proofs.DebuggeeLemmas.{log_length}
use Rattle.gr_session.proofs.GrantLemmas.{within, rest_of}
use Rattle.gr_session.proofs.granting.room.Goals as goal

pub returns : goal.returns
returns c = λ p w s.
    let counted : c.len.result ≡ length (records_of (log_in c.args.debuggee.now)) = c.len.ensures ∙ ap (λ l. length (records_of l)) c.log.ensures in
    rest_of LOG_LIMIT c.len.result (length w.log) (counted ∙ log_length p w c.args.debuggee.now s)
    (within LOG_LIMIT c.len.result (length (records_of (log_in c.args.debuggee.now))) (length w.again) counted s.machine.short)
