use Rattle.gr_refine.proofs.WaitLemmas.{waiting_parks, waiting_is_made, parking_is_enqueuing}
use Rattle.gr_refine.proofs.rule_laws.law_of_waits.Goals as goal

pub returns-clause-parks : goal.returns-clause-parks
returns-clause-parks c = waiting_parks

pub returns-clause-made : goal.returns-clause-made
returns-clause-made c = waiting_is_made

pub returns-clause-parking : goal.returns-clause-parking
returns-clause-parking c = parking_is_enqueuing
