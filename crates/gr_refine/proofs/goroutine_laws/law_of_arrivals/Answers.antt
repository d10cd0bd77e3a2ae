use Rattle.gr_refine.proofs.ArrivingLemmas.{value_arrives, channel_arrives, completion_arrives, child_arrives, passing_arrives, value_can_arrive}
use Rattle.gr_refine.proofs.ArrivingLemmas.{completion_can_arrive, child_can_arrive, passing_can_arrive, select_has_clauses}
use Rattle.gr_refine.proofs.StartingLemmas.{meeting_arrives, meeting_can_arrive}
use Rattle.gr_refine.proofs.goroutine_laws.law_of_arrivals.Goals as goal

pub returns-clause-value : goal.returns-clause-value
returns-clause-value c = value_arrives

pub returns-clause-channel : goal.returns-clause-channel
returns-clause-channel c = channel_arrives

pub returns-clause-completion : goal.returns-clause-completion
returns-clause-completion c = completion_arrives

pub returns-clause-child : goal.returns-clause-child
returns-clause-child c = child_arrives

pub returns-clause-passing : goal.returns-clause-passing
returns-clause-passing c = passing_arrives

pub returns-clause-meeting : goal.returns-clause-meeting
returns-clause-meeting c = meeting_arrives

pub returns-clause-value_can : goal.returns-clause-value_can
returns-clause-value_can c = value_can_arrive

pub returns-clause-completion_can : goal.returns-clause-completion_can
returns-clause-completion_can c = completion_can_arrive

pub returns-clause-child_can : goal.returns-clause-child_can
returns-clause-child_can c = child_can_arrive

pub returns-clause-passing_can : goal.returns-clause-passing_can
returns-clause-passing_can c = passing_can_arrive

pub returns-clause-meeting_can : goal.returns-clause-meeting_can
returns-clause-meeting_can c = meeting_can_arrive

pub returns-clause-clauses : goal.returns-clause-clauses
returns-clause-clauses c = select_has_clauses
