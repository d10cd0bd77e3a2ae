use Rattle.gr_session.proofs.ClaimLemmas.{meets}
use Rattle.gr_session.proofs.trips.the_whole_claim.Goals as goal

pub returns : goal.returns
returns c p askers before after e legal = meets p legal.world before after e legal.means
