use Rattle.gr_session.proofs.TripLemmas.{by_commands}
use Rattle.gr_session.proofs.trips.law_of_trips.Goals as goal

pub returns : goal.returns
returns c p w moves log = by_commands p moves w log
