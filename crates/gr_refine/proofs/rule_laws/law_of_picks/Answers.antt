use Rattle.gr_refine.proofs.SelectLemmas.{picking_communicates, picking_of_none, picking_faults, picking_cannot, picking_has_values}
use Rattle.gr_refine.proofs.rule_laws.law_of_picks.Goals as goal

pub returns-clause-communicates : goal.returns-clause-communicates
returns-clause-communicates c = picking_communicates

pub returns-clause-of_none : goal.returns-clause-of_none
returns-clause-of_none c = picking_of_none

pub returns-clause-faults : goal.returns-clause-faults
returns-clause-faults c = picking_faults

pub returns-clause-cannot : goal.returns-clause-cannot
returns-clause-cannot c = picking_cannot

pub returns-clause-has_values : goal.returns-clause-has_values
returns-clause-has_values c = picking_has_values
