use Rattle.gr_laws.proofs.CompletedLemmas.{counted_within}
use Rattle.gr_laws.proofs.memory_model.law_of_the_kth_receive.Goals as goal

pub returns : goal.returns
returns c p t log ch places k i a b l at receive send = counted_within p ch t log l places k a b receive send i at
