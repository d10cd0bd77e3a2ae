use Rattle.gr_refine.proofs.LookLemmas.{attempt_is_of_the_frame, over_is_refused, unknown_is_refused, done_is_refused, waiting_is_refused}
use Rattle.gr_refine.proofs.laws.law_of_attempts.Goals as goal

pub returns-clause-frame : goal.returns-clause-frame
returns-clause-frame c = attempt_is_of_the_frame

pub returns-clause-over : goal.returns-clause-over
returns-clause-over c = over_is_refused

pub returns-clause-unknown : goal.returns-clause-unknown
returns-clause-unknown c = unknown_is_refused

pub returns-clause-done : goal.returns-clause-done
returns-clause-done c = done_is_refused

pub returns-clause-waiting : goal.returns-clause-waiting
returns-clause-waiting c = waiting_is_refused
