use Rattle.gr_refine.proofs.CloseLemmas.{closing_of_nil_faults, closing_of_closed_faults, closing_wakes, closing_finds_waiters}
use Rattle.gr_refine.proofs.rule_laws.law_of_closes.Goals as goal

pub returns-clause-of_nil : goal.returns-clause-of_nil
returns-clause-of_nil c = closing_of_nil_faults

pub returns-clause-of_closed : goal.returns-clause-of_closed
returns-clause-of_closed c = closing_of_closed_faults

pub returns-clause-wakes : goal.returns-clause-wakes
returns-clause-wakes c = closing_wakes

pub returns-clause-finds : goal.returns-clause-finds
returns-clause-finds c = closing_finds_waiters
