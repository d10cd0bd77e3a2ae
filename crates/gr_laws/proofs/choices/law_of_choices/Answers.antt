use Rattle.gr_laws.proofs.UsualLemmas.{step_is_usual}
use Rattle.gr_laws.proofs.choices.law_of_choices.Goals as goal

pub returns : goal.returns
returns c p s t e n = step_is_usual p s t e n
