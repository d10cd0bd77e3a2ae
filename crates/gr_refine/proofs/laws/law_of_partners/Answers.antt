use Rattle.gr_base.specs.declared.values.Value.{Value}
use Rattle.gr_refine.proofs.PartnerLemmas.{withdrawn_is_looked_up, enqueued_is_looked_up, waiters_are_looked_up, met_is_looked_up, readiness_is_looked_up, none_ready_is_looked_up, some_ready_is_refused}
use Rattle.gr_refine.proofs.laws.law_of_partners.Goals as goal

pub returns-clause-withdrawn : goal.returns-clause-withdrawn
returns-clause-withdrawn c = withdrawn_is_looked_up

pub returns-clause-enqueued : goal.returns-clause-enqueued
returns-clause-enqueued c = enqueued_is_looked_up

pub returns-clause-waiters : goal.returns-clause-waiters
returns-clause-waiters c = waiters_are_looked_up

pub returns-clause-met_sender : goal.returns-clause-met_sender
returns-clause-met_sender c = met_is_looked_up Value

pub returns-clause-met_receiver : goal.returns-clause-met_receiver
returns-clause-met_receiver c = met_is_looked_up (Unit {0})

pub returns-clause-readiness : goal.returns-clause-readiness
returns-clause-readiness c = readiness_is_looked_up

pub returns-clause-none_ready : goal.returns-clause-none_ready
returns-clause-none_ready c = none_ready_is_looked_up

pub returns-clause-some_ready : goal.returns-clause-some_ready
returns-clause-some_ready c = some_ready_is_refused
