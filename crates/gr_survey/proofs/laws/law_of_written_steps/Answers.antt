use Rattle.gr_survey.proofs.WrittenLemmas.{asks_for_it}
use Rattle.gr_survey.proofs.laws.law_of_written_steps.Goals as goal

pub returns : goal.returns
returns c = λ p s t e checked reached goes. asks_for_it p s e (c.law_of_events.ensures p s t e checked reached goes).1
