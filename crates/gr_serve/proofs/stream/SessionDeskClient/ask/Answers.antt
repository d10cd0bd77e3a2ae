use Rattle.std.proofs.Common.{Err}
use Rattle.gr_command.specs.Replies.{said_of}
use Rattle.gr_serve.specs.Replies.{Replied, answer_of}
use Rattle.gr_serve.proofs.Answers.{told, entered}
use Rattle.gr_serve.proofs.Asking.{refused}
use Rattle.gr_serve.proofs.stream.SessionDeskClient.ask.Goals as goal

pub returns-in-Ok-clause-answered : goal.returns-in-Ok-clause-answered
returns-in-Ok-clause-answered c = told _ _ _ _ _ _ c.put_answer.result (Replied (said_of c.in-Ok.receipt.reply)) (entered _ _ _ _ _ _ _ c.in-Ok.ensures.entry) c.requires.empty c.put_answer.ensures.ok

pub returns-in-Err-clause-answered : goal.returns-in-Err-clause-answered
returns-in-Err-clause-answered c =
    told _ _ _ _ _ _ c.put_answer-in-Err.result (answer_of (Err c.in-Err.why)) (refused _ _ _ _ _ _ c.in-Err.ensures.full c.in-Err.ensures.memory c.in-Err.ensures.err) c.requires.empty c.put_answer-in-Err.ensures.ok
