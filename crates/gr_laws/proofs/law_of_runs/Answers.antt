use Rattle.gr_causal.proofs.RollbackLemmas.{rolled_back}
use Rattle.gr_causal.proofs.SwapLemmas.{reordered, last_undone}
use Rattle.gr_rules.specs.States.{start}
use Rattle.gr_rules.specs.Steps.{machine}
use Rattle.gr_laws.proofs.CellLemmas.{machine_laws}
use Rattle.gr_laws.proofs.RunLemmas.{distinct_steps, distinct_log}
use Rattle.gr_laws.proofs.law_of_runs.Goals as goal

pub returns-clause-names : goal.returns-clause-names
returns-clause-names c p t log = distinct_steps p log t

pub returns-clause-last : goal.returns-clause-last
returns-clause-last c p t log r = last_undone (machine p) (machine_laws p) (start p) t log r

pub returns-clause-back : goal.returns-clause-back
returns-clause-back c p t log i = rolled_back (machine p) (machine_laws p) (start p) log t i

pub returns-clause-orders : goal.returns-clause-orders
returns-clause-orders c p t old new l o = reordered (machine p) (machine_laws p) (start p) old new t l (distinct_log p old t l) o
