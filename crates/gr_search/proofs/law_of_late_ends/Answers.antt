use Rattle.gr_search.specs.System.{tested}
use Rattle.gr_search.proofs.LateEnds.{bad_stops, stops_ends}
use Rattle.gr_search.proofs.law_of_late_ends.Goals as goal

pub returns-clause-stops : goal.returns-clause-stops
returns-clause-stops g c start next bad alone key waits s laws r b go = bad_stops (tested start next bad alone key) waits laws s r b go

pub returns-clause-ends : goal.returns-clause-ends
returns-clause-ends g c start next bad alone key waits s puts_off list r stops = stops_ends (tested start next bad alone key) waits puts_off list s r stops
