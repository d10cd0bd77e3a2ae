use Rattle.gr_may.proofs.LeakLemmas.{main_may_not, reader_is_dead}
use Rattle.gr_may.proofs.example_of_the_dead.Goals as goal

pub returns-clause-left_out : goal.returns-clause-left_out
returns-clause-left_out c = main_may_not

pub returns-clause-dead : goal.returns-clause-dead
returns-clause-dead c = reader_is_dead
