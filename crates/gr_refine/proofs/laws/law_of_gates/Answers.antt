use Rattle.gr_refine.proofs.GateLemmas.{gates_are_written, withdrawing_is_written, enqueuing_is_written, gates_go_in_turn, waits_name_channels_once}
use Rattle.gr_refine.proofs.laws.law_of_gates.Goals as goal

pub returns-clause-gates : goal.returns-clause-gates
returns-clause-gates c = gates_are_written

pub returns-clause-withdrawing : goal.returns-clause-withdrawing
returns-clause-withdrawing c = withdrawing_is_written

pub returns-clause-enqueuing : goal.returns-clause-enqueuing
returns-clause-enqueuing c = enqueuing_is_written

pub returns-clause-in_turn : goal.returns-clause-in_turn
returns-clause-in_turn c = gates_go_in_turn

pub returns-clause-once : goal.returns-clause-once
returns-clause-once c = waits_name_channels_once
