use Rattle.gr_search.specs.Meetings.{meetings, is_waiting}
use Rattle.gr_search.proofs.LateSafe.{late_safe}
use Rattle.gr_search.proofs.MeetingLemmas.{meeting_laws, wait_laws, can_put_off}
use Rattle.gr_search.proofs.MeetingEnds.{end_laws}
use Rattle.gr_search.proofs.law_of_meetings.Goals as goal

pub returns-clause-laws : goal.returns-clause-laws
returns-clause-laws c acts = (meeting_laws acts, wait_laws acts)

pub returns-clause-waits : goal.returns-clause-waits
returns-clause-waits c = can_put_off

pub returns-clause-ends : goal.returns-clause-ends
returns-clause-ends c = end_laws

pub returns-clause-stuck : goal.returns-clause-stuck
returns-clause-stuck c acts = late_safe (meetings acts) is_waiting (meeting_laws acts) (wait_laws acts) (can_put_off acts)
