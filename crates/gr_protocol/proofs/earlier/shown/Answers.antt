use Rattle.std.proofs.Common.{◌∙◌, ap}
use Rattle.std.proofs.lemmas.Result.{IfOk-weaker}
use Rattle.gr_depend.specs.Logs.{records_of}
use Rattle.gr_protocol.proofs.Showing.{goroutine_shown, channel_told, text_shown, console_told}
use Rattle.gr_protocol.proofs.earlier.shown.Goals as goal

pub returns-in-Goroutine : goal.returns-in-Goroutine
returns-in-Goroutine c = IfOk-weaker c.show.result _ _
    (λ reply is p w s. rw c.in-Goroutine.is (goroutine_shown p w c.args.machine.now s _ _ is)) (rw c.store.ensures at c.show.ensures)

pub returns-in-Channel : goal.returns-in-Channel
returns-in-Channel c = IfOk-weaker c.chan.result _ _
    (λ reply is p w s. rw c.in-Channel.is (channel_told p w c.args.machine.now s c.store-in-Channel.result.now _ _ c.store-in-Channel.ensures is)) c.chan.ensures

pub returns-in-Text : goal.returns-in-Text
returns-in-Text c = IfOk-weaker c.text.result _ _
    (λ reply is p w s. rw c.in-Text.is (text_shown p w c.args.machine.now s _ _ is)) (rw c.store-in-Text.ensures at c.text.ensures)

pub returns-in-Console : goal.returns-in-Console
returns-in-Console c = IfOk-weaker c.console.result _ _
    (λ reply each p w s. rw c.in-Console.is
    (console_told p w c.args.machine.now s c.store-in-Console.result.now c.as_slice.result.now _ c.store-in-Console.ensures
    (c.as_slice.ensures ∙ ap records_of c.log.ensures) each)) c.console.ensures
