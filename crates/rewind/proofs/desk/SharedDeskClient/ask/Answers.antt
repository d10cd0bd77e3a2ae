use Rattle.gr_serve.proofs.Answers.{told}
use Rattle.rewind.proofs.Asking.{asked}
use Rattle.rewind.proofs.desk.SharedDeskClient.ask.Goals as goal

pub returns-clause-answered : goal.returns-clause-answered
returns-clause-answered g c = told _ _ _ _ _ _ c.put_answer.result _ (asked _ _ _ c.ask.result c.ask.follows.holds-at-none) c.requires.empty c.put_answer.ensures.ok
