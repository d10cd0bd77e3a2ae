use Rattle.std.proofs.Common.{◌≡◌, true}
use Rattle.gr_search.specs.System.{tested}
use Rattle.gr_search.proofs.Safe.{safe}
use Rattle.gr_search.proofs.law_of_closed_sets.Goals as goal

pub returns : goal.returns
returns g c start next bad alone key v laws closed = safe (tested start next bad alone key) laws (λ k. v k ≡ true) closed
