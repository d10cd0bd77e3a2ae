use Rattle.std.proofs.Common.{Err, inr}
use Rattle.std.proofs.lemmas.Result.{IfOk-weaker}
use Rattle.gr_command.proofs.Errors.{on_err}
use Rattle.gr_command.specs.Replies.{said_of}
use Rattle.gr_serve.specs.Replies.{Replied, answer_of}
use Rattle.gr_serve.proofs.Answers.{entered}
use Rattle.gr_serve.proofs.Asking.{refused}
use Rattle.gr_protocol.proofs.Replying.{command_replied}
use Rattle.gr_protocol.proofs.answering.ask.Goals as goal

pub returns-in-Ok-clause-ok : goal.returns-in-Ok-clause-ok
returns-in-Ok-clause-ok c =
    IfOk-weaker c.put_reply.result _ _
    (λ _ is. command_replied _ _ _ _ _ (Replied (said_of c.in-Ok.receipt.reply)) _ _ (entered _ _ _ _ _ _ _ c.in-Ok.ensures.entry) c.requires.empty is)
    c.put_reply.ensures

pub returns-in-Ok-clause-err : goal.returns-in-Ok-clause-err
returns-in-Ok-clause-err c = on_err c.put_reply.result (inr (Replied (said_of c.in-Ok.receipt.reply), entered _ _ _ _ _ _ _ c.in-Ok.ensures.entry))

pub returns-in-Err-clause-ok : goal.returns-in-Err-clause-ok
returns-in-Err-clause-ok c =
    IfOk-weaker c.put_reply-in-Err.result _ _
    (λ _ is. command_replied _ _ _ _ _ (answer_of (Err c.in-Err.why)) _ _ (refused _ _ _ _ _ _ c.in-Err.ensures.full c.in-Err.ensures.memory c.in-Err.ensures.err) c.requires.empty is)
    c.put_reply-in-Err.ensures

pub returns-in-Err-clause-err : goal.returns-in-Err-clause-err
returns-in-Err-clause-err c =
    on_err c.put_reply-in-Err.result (inr (answer_of (Err c.in-Err.why), refused _ _ _ _ _ _ c.in-Err.ensures.full c.in-Err.ensures.memory c.in-Err.ensures.err))
