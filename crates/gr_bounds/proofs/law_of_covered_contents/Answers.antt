use Rattle.gr_record.specs.Listings.{state_in}
use Rattle.type_safety.proofs.CheckedRuns.{checked_stands}
use Rattle.gr_bounds.proofs.ContentsLemmas.{state_covered}
use Rattle.gr_bounds.proofs.law_of_covered_contents.Goals as goal

pub returns : goal.returns
returns c p usage s running h =
    state_covered p usage s h (λ n g e. checked_stands running.program.file p (state_in p s) n g running.program.checked running.reached e)
