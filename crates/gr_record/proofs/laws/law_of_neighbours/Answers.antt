use Rattle.gr_record.proofs.SwapLemmas.{neighbours}
use Rattle.gr_record.proofs.laws.law_of_neighbours.Goals as goal

pub returns : goal.returns
returns c p s m t a b k l running first second none = neighbours p s m t a b k l running.stand first second none
