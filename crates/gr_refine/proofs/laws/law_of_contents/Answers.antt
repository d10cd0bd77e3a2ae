use Rattle.gr_refine.proofs.ChangeLemmas.{run_is_written, goroutine_is_written, gone_is_written, writes_in_turn}
use Rattle.gr_refine.proofs.laws.law_of_contents.Goals as goal

pub returns-clause-run : goal.returns-clause-run
returns-clause-run c = run_is_written

pub returns-clause-goroutine : goal.returns-clause-goroutine
returns-clause-goroutine c = goroutine_is_written

pub returns-clause-gone : goal.returns-clause-gone
returns-clause-gone c = gone_is_written

pub returns-clause-in_turn : goal.returns-clause-in_turn
returns-clause-in_turn c = writes_in_turn
