use Rattle.gr_refine.proofs.OrderLemmas.{waking_in_turn, withdrawing_in_turn, once_names_the_same, same_names_are_woken, same_names_are_withdrawn}
use Rattle.gr_refine.proofs.rule_laws.law_of_orders.Goals as goal

pub returns-clause-waking : goal.returns-clause-waking
returns-clause-waking c = waking_in_turn

pub returns-clause-withdrawing : goal.returns-clause-withdrawing
returns-clause-withdrawing c = withdrawing_in_turn

pub returns-clause-once : goal.returns-clause-once
returns-clause-once c = once_names_the_same

pub returns-clause-woken : goal.returns-clause-woken
returns-clause-woken c = same_names_are_woken

pub returns-clause-withdrawn : goal.returns-clause-withdrawn
returns-clause-withdrawn c = same_names_are_withdrawn
