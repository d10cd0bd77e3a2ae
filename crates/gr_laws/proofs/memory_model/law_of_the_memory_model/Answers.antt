use Rattle.gr_laws.proofs.MemoryLemmas.{ordered_clash, happens_within}
use Rattle.gr_laws.proofs.memory_model.law_of_the_memory_model.Goals as goal

pub returns-clause-edges : goal.returns-clause-edges
returns-clause-edges c p s u t v a b = ordered_clash p s u t v a b

pub returns-clause-runs : goal.returns-clause-runs
returns-clause-runs c p t log a b i = happens_within p log t a b i
