use Rattle.gr_refine.proofs.MakeLemmas.{starting_starts, starting_too_deep_faults, starting_too_many_faults, starting_is_new}
use Rattle.gr_refine.proofs.rule_laws.law_of_starts.Goals as goal

pub returns-clause-starts : goal.returns-clause-starts
returns-clause-starts c = starting_starts

pub returns-clause-too_deep : goal.returns-clause-too_deep
returns-clause-too_deep c = starting_too_deep_faults

pub returns-clause-too_many : goal.returns-clause-too_many
returns-clause-too_many c = starting_too_many_faults

pub returns-clause-is_new : goal.returns-clause-is_new
returns-clause-is_new c = starting_is_new
