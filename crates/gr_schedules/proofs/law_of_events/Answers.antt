use Rattle.gr_schedules.proofs.ChoiceLemmas.{possible_events}
use Rattle.gr_schedules.proofs.law_of_events.Goals as goal

pub returns : goal.returns
returns c = possible_events
