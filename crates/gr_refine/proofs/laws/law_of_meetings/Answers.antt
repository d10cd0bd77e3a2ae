use Rattle.gr_refine.proofs.MeetingLemmas.{meeting_is_written, moving_is_written, names_in_front, names_of_waits, withdrawing_is_meeting, leaving_senders_is_thin, leaving_receivers_is_thin, nobody_leaves, one_wait_is_here, meeting_here_alone, closing_is_written}
use Rattle.gr_refine.proofs.laws.law_of_meetings.Goals as goal

pub returns-clause-meeting : goal.returns-clause-meeting
returns-clause-meeting c = meeting_is_written

pub returns-clause-moving : goal.returns-clause-moving
returns-clause-moving c = moving_is_written

pub returns-clause-names_in_front : goal.returns-clause-names_in_front
returns-clause-names_in_front c = names_in_front

pub returns-clause-names_of_waits : goal.returns-clause-names_of_waits
returns-clause-names_of_waits c = names_of_waits

pub returns-clause-withdrawing : goal.returns-clause-withdrawing
returns-clause-withdrawing c = withdrawing_is_meeting

pub returns-clause-senders : goal.returns-clause-senders
returns-clause-senders c = leaving_senders_is_thin

pub returns-clause-receivers : goal.returns-clause-receivers
returns-clause-receivers c = leaving_receivers_is_thin

pub returns-clause-nobody : goal.returns-clause-nobody
returns-clause-nobody c = nobody_leaves

pub returns-clause-one_wait : goal.returns-clause-one_wait
returns-clause-one_wait c = one_wait_is_here

pub returns-clause-here_alone : goal.returns-clause-here_alone
returns-clause-here_alone c = meeting_here_alone

pub returns-clause-closing : goal.returns-clause-closing
returns-clause-closing c = closing_is_written
