use Rattle.gr_record.proofs.KeptLemmas.{last_goes_back}
use Rattle.gr_record.proofs.laws.law_of_undoing.Goals as goal

pub returns : goal.returns
returns c = last_goes_back
