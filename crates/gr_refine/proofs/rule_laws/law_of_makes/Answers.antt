use Rattle.gr_refine.proofs.MakeLemmas.{making_makes, making_of_negative_faults, making_of_great_faults, making_too_many_faults, making_goes_on}
use Rattle.gr_refine.proofs.rule_laws.law_of_makes.Goals as goal

pub returns-clause-makes : goal.returns-clause-makes
returns-clause-makes c = making_makes

pub returns-clause-negative : goal.returns-clause-negative
returns-clause-negative c = making_of_negative_faults

pub returns-clause-great : goal.returns-clause-great
returns-clause-great c = making_of_great_faults

pub returns-clause-too_many : goal.returns-clause-too_many
returns-clause-too_many c = making_too_many_faults

pub returns-clause-goes_on : goal.returns-clause-goes_on
returns-clause-goes_on c = making_goes_on
