use Rattle.gr_schedules.proofs.KeyLemmas.{one_matter}
use Rattle.gr_schedules.proofs.law_of_keys.Goals as goal

pub returns : goal.returns
returns c = one_matter
