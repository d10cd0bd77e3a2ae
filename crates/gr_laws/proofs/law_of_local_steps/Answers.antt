use Rattle.gr_laws.proofs.LocalLemmas.{local_step}
use Rattle.gr_laws.proofs.law_of_local_steps.Goals as goal

pub returns-clause-writes : goal.returns-clause-writes
returns-clause-writes c p s t g n l h = (local_step p s g t n l h).1

pub returns-clause-touches : goal.returns-clause-touches
returns-clause-touches c p s t g n l h = (local_step p s g t n l h).0
