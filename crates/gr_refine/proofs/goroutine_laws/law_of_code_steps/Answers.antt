use Rattle.gr_refine.proofs.CodeStepLemmas.{make_of_code, make_can_arrive, go_of_code, go_is_new, len_of_code, cap_of_code, close_of_code}
use Rattle.gr_refine.proofs.CodeStepLemmas.{close_finds_waiters, finish_of_code, exit_of_code}
use Rattle.gr_refine.proofs.goroutine_laws.law_of_code_steps.Goals as goal

pub returns-clause-makes : goal.returns-clause-makes
returns-clause-makes c = make_of_code

pub returns-clause-makes_on : goal.returns-clause-makes_on
returns-clause-makes_on c = make_can_arrive

pub returns-clause-starts : goal.returns-clause-starts
returns-clause-starts c = go_of_code

pub returns-clause-starts_on : goal.returns-clause-starts_on
returns-clause-starts_on c = go_is_new

pub returns-clause-items : goal.returns-clause-items
returns-clause-items c = len_of_code

pub returns-clause-places : goal.returns-clause-places
returns-clause-places c = cap_of_code

pub returns-clause-closes : goal.returns-clause-closes
returns-clause-closes c = close_of_code

pub returns-clause-closes_on : goal.returns-clause-closes_on
returns-clause-closes_on c = close_finds_waiters

pub returns-clause-finishes : goal.returns-clause-finishes
returns-clause-finishes c = finish_of_code

pub returns-clause-exits : goal.returns-clause-exits
returns-clause-exits c = exit_of_code
