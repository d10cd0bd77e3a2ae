use Rattle.gr_laws.proofs.RuleSound.{reached_sound}
use Rattle.gr_laws.proofs.RuleWaits.{reached_waits, reached_queues, reached_writes}
use Rattle.gr_laws.proofs.law_of_reached_states.Goals as goal

pub returns-clause-channels : goal.returns-clause-channels
returns-clause-channels c p t r = reached_sound p t r.log r.leads

pub returns-clause-queues : goal.returns-clause-queues
returns-clause-queues c p t r = reached_waits p t r.log r.leads

pub returns-clause-once : goal.returns-clause-once
returns-clause-once c p t r = reached_queues p t r.log r.leads

pub returns-clause-changes : goal.returns-clause-changes
returns-clause-changes c p t u e n r = reached_writes p t u r.log e n r.leads
