use Rattle.gr_rollback.proofs.RedoLemmas.{same_state, moved_behind, same_names, is_order}
use Rattle.gr_rollback.proofs.laws.law_of_redo.Goals as goal

pub returns-clause-state : goal.returns-clause-state
returns-clause-state c = same_state

pub returns-clause-log : goal.returns-clause-log
returns-clause-log c = moved_behind

pub returns-clause-names : goal.returns-clause-names
returns-clause-names c = same_names

pub returns-clause-order : goal.returns-clause-order
returns-clause-order c = is_order
