use Rattle.std.proofs.Common.{Some, ap, ◌∙◌}
use Rattle.gr_session.proofs.targets.find.Goals as goal

pub returns-in_ok-copy-in-Some : goal.returns-in_ok-copy-in-Some
returns-in_ok-copy-in-Some c = λ p w s. ap Some c.in_ok-copy-in-Some.ensures ∙ c.in-Some.ensures p w s

pub returns-in-None : goal.returns-in-None
returns-in-None c = λ p w s. c.in-None.ensures p w s
