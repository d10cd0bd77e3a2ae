use Rattle.std.proofs.Common.{refl, inr}
use Rattle.gr_command.specs.Commands.{meaning}
use Rattle.gr_serve.specs.Stream.{AnsweredLine}
use Rattle.gr_serve.proofs.Answers.{begun_none}
use Rattle.gr_serve.proofs.client.serve_line.Goals as goal

pub returns-in-Err-answer-clause-ends : goal.returns-in-Err-answer-clause-ends
returns-in-Err-answer-clause-ends g c =
    let answered : AnsweredLine (g.C.Client.gets (g.C.Client.fixed c.args.client.now)) (meaning c.args.line.now) (g.C.Client.state c.args.client.now) (g.C.Client.state c.answer.new.client) = rw (← c.in-Ok.ensures.ok) c.in-Err-answer.ensures.answered in
    (inr (begun_none _ _ _ _ _ answered), refl)
