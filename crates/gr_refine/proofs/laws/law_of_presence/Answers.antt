use Rattle.gr_base.specs.declared.values.Value.{Value}
use Rattle.gr_refine.proofs.PresenceLemmas.{gate_is_there, waiter_is_there, withdrawn_is_there, enqueued_is_there, waiters_are_there, met_is_there, communication_is_made}
use Rattle.gr_refine.proofs.laws.law_of_presence.Goals as goal

pub returns-clause-gate : goal.returns-clause-gate
returns-clause-gate c = gate_is_there

pub returns-clause-waiter : goal.returns-clause-waiter
returns-clause-waiter c = waiter_is_there

pub returns-clause-withdrawn : goal.returns-clause-withdrawn
returns-clause-withdrawn c = withdrawn_is_there

pub returns-clause-enqueued : goal.returns-clause-enqueued
returns-clause-enqueued c = enqueued_is_there

pub returns-clause-waiters : goal.returns-clause-waiters
returns-clause-waiters c = waiters_are_there

pub returns-clause-met_sender : goal.returns-clause-met_sender
returns-clause-met_sender c = met_is_there Value

pub returns-clause-met_receiver : goal.returns-clause-met_receiver
returns-clause-met_receiver c = met_is_there (Unit {0})

pub returns-clause-communication : goal.returns-clause-communication
returns-clause-communication c = communication_is_made
