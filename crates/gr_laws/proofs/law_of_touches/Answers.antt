use Rattle.gr_laws.proofs.AttemptTouches.{touched_as}
use Rattle.gr_laws.proofs.TouchedLemmas.{touched_each, told_alike, clash_by_lists, writes_once}
use Rattle.gr_laws.proofs.law_of_touches.Goals as goal

pub returns-clause-once : goal.returns-clause-once
returns-clause-once c p s t e n h = touched_each s e n (touched_as p s e t n h) (writes_once p s t e n h)

pub returns-clause-alike : goal.returns-clause-alike
returns-clause-alike c p s t e n reads writes h = told_alike s e n reads writes (touched_as p s e t n h)

pub returns-clause-conflicts : goal.returns-clause-conflicts
returns-clause-conflicts c = clash_by_lists
