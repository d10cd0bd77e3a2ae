use Rattle.std.proofs.Common.{◌≡◌, ◌<◌, ◌≤◌, length, ap, ◌∙◌, arith}
use Rattle.gr_rollback.specs.Logs.{records_of}
use Rattle.gr_rollback.specs.declared.TheConstants.{LOG_LIMIT}
use Rattle.gr_session.specs.Debuggees.{log_in}
use Rattle.gr_session.proofs.StepLemmas.{no_room, no_memory}
use Rattle.gr_session.proofs.refusing.unkept.Goals as goal

pub returns-then-len-ge-LOG_LIMIT : goal.returns-then-len-ge-LOG_LIMIT
returns-then-len-ge-LOG_LIMIT c =
    let counted : c.len.result ≡ length (records_of (log_in c.args.debuggee.now)) = c.len.ensures ∙ ap (λ l. length (records_of l)) c.log.ensures in
    let full : LOG_LIMIT ≤ length (records_of (log_in c.args.debuggee.now)) = omega (arith, counted) in
    λ p w e s allowed. no_room p w c.args.debuggee.now e s allowed full

pub returns : goal.returns
returns c =
    let counted : c.len.result ≡ length (records_of (log_in c.args.debuggee.now)) = c.len.ensures ∙ ap (λ l. length (records_of l)) c.log.ensures in
    let room : length (records_of (log_in c.args.debuggee.now)) < LOG_LIMIT = omega (arith, counted) in
    λ p w e s allowed. no_memory p w c.args.debuggee.now e s allowed room
