use Rattle.gr_causal.proofs.EventLemmas as lemmas
use Rattle.gr_causal.proofs.mailbox_trips.configurations_by_events.Goals as goal

pub returns : goal.returns
returns c s first second h k = lemmas.configurations_by_events s first second h k
