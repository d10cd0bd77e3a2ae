use Rattle.std.proofs.Common.{ap, ◌∙◌}
use Rattle.std.specs.Prelude.{option_copied}
use Rattle.gr_code.specs.CodeViews.{program_code_of}
use Rattle.gr_rollback.specs.Stores.{program_at}
use Rattle.gr_session.proofs.TargetLemmas.{kept_here, assigner_here}
use Rattle.gr_session.proofs.targets.step_asked_for.Goals as goal

pub returns-in-Start : goal.returns-in-Start
returns-in-Start c = λ p w s.
    let kept = kept_here p w c.args.debuggee.now s c.log-log.result.now c.log-log.ensures in
    rw c.in-Start.is (c.started.ensures ∙ c.law_of_history.ensures.started p _ _ _ w.log _ kept)

pub returns-in-Send : goal.returns-in-Send
returns-in-Send c = λ p w s.
    let kept = kept_here p w c.args.debuggee.now s c.log-log.result.now c.log-log.ensures in
    let sent = c.sent.ensures ∙ c.law_of_history.ensures.sent p _ _ _ w.log _ _ kept in
    rw c.in-Send.is (rw c.from.ensures at sent)

pub returns-in-Receive : goal.returns-in-Receive
returns-in-Receive c = λ p w s.
    let kept = kept_here p w c.args.debuggee.now s c.log-log.result.now c.log-log.ensures in
    let received = c.received.ensures ∙ c.law_of_history.ensures.received p _ _ _ w.log _ _ kept in
    rw c.in-Receive.is (rw c.from-in-Receive.ensures at received)

pub returns-in-Variable : goal.returns-in-Variable
returns-in-Variable c = λ p w s.
    let kept = kept_here p w c.args.debuggee.now s c.log-log.result.now c.log-log.ensures in
    let assigned = assigner_here p w c.args.debuggee.now s c.log-log.result.now c.log-log.ensures _ _ _ _ (option_copied c.assigned.result)
    (λ t. c.law_of_assignments.ensures.last p _ _ _ w.log _ _ t kept)
    (c.program.ensures ∙ ap program_at c.store-store.ensures)
    (c.code.ensures ∙ ap (λ q. program_code_of q.listing.code.value) c.store-store.ensures ∙ c.requires.stands.machine.holds.run.coded)
    c.assigned.ensures in
    rw c.in-Variable.is (rw c.as_slice.ensures.value at assigned)
