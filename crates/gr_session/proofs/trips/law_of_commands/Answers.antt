use Rattle.std.proofs.Common.{refl}
use Rattle.gr_session.specs.Journal.{first_world}
use Rattle.gr_session.proofs.MoveLemmas.{entry_moves, journal_moves, journeys_alike}
use Rattle.gr_session.proofs.trips.law_of_commands.Goals as goal

pub returns-clause-entry : goal.returns-clause-entry
returns-clause-entry c p w u asked memory reply = entry_moves p w u asked memory reply

pub returns-clause-journal : goal.returns-clause-journal
returns-clause-journal c p journal u = journal_moves p (first_world p) u journal refl

pub returns-clause-alike : goal.returns-clause-alike
returns-clause-alike c p first second moves others u v = journeys_alike p u v first second moves others
