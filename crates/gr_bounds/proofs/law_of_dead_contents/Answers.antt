use Rattle.gr_record.specs.Listings.{state_in}
use Rattle.type_safety.proofs.CheckedRuns.{checked_stands}
use Rattle.gr_bounds.proofs.ContentsLemmas.{state_covered}
use Rattle.gr_bounds.proofs.DeadContentsLemmas.{dead_in_state}
use Rattle.gr_bounds.proofs.law_of_dead_contents.Goals as goal

pub returns : goal.returns
returns c p usage s dead running h =
    dead_in_state p s usage dead h
    (state_covered p usage s h.covers (λ n g e. checked_stands running.program.file p (state_in p s) n g running.program.checked running.reached e))
