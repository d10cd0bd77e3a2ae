use Rattle.std.proofs.Common.{ap, ◌∙◌}
use Rattle.gr_rollback.specs.Logs.{records_of}
use Rattle.gr_session.proofs.QueryLemmas.{show_leads, chan_told, text_leads, console_told, log_told}
use Rattle.gr_session.proofs.carry.carry_out.Goals as goal

pub returns-in_ok-show-in-Show-clause-leads : goal.returns-in_ok-show-in-Show-clause-leads
returns-in_ok-show-in-Show-clause-leads c = λ p w s.
    rw c.in-Show.is (show_leads p w c.args.debuggee.now s _ _ (rw c.store.ensures at c.in_ok-show-in-Show.ensures))

pub returns-in_ok-chan-in-Chan-clause-leads : goal.returns-in_ok-chan-in-Chan-clause-leads
returns-in_ok-chan-in-Chan-clause-leads c = λ p w s.
    rw c.in-Chan.is (chan_told p w c.args.debuggee.now s c.store-in-Chan.result.now _ _ c.store-in-Chan.ensures c.in_ok-chan-in-Chan.ensures)

pub returns-in_ok-text-in-Text-clause-leads : goal.returns-in_ok-text-in-Text-clause-leads
returns-in_ok-text-in-Text-clause-leads c = λ p w s.
    rw c.in-Text.is (text_leads p w c.args.debuggee.now s _ _ (rw c.store-in-Text.ensures at c.in_ok-text-in-Text.ensures))

pub returns-in_ok-console-in-Console-clause-leads : goal.returns-in_ok-console-in-Console-clause-leads
returns-in_ok-console-in-Console-clause-leads c = λ p w s.
    rw c.in-Console.is
    (console_told p w c.args.debuggee.now s c.store-in-Console.result.now c.as_slice-steps.result.now _ c.store-in-Console.ensures
    (c.as_slice-steps.ensures ∙ ap records_of c.log.ensures) c.in_ok-console-in-Console.ensures)

pub returns-in_ok-log-in-Log-clause-leads : goal.returns-in_ok-log-in-Log-clause-leads
returns-in_ok-log-in-Log-clause-leads c = λ p w s.
    rw c.in-Log.is
    (log_told p w c.args.debuggee.now s c.as_slice-in-Log.result.now _ (c.as_slice-in-Log.ensures ∙ ap records_of c.log-in-Log.ensures)
    c.in_ok-log-in-Log.ensures.kept)
