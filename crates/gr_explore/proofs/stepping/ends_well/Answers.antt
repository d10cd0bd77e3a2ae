use Rattle.std.proofs.Common.{sym, ◌∙◌, ap}
use Rattle.gr_step.specs.Objects.{run_of}
use Rattle.gr_step.specs.Stores.{contents_at}
use Rattle.gr_explore.proofs.StepLemmas.{is_told}
use Rattle.gr_explore.proofs.stepping.ends_well.Goals as goal

pub returns-in-Ended : goal.returns-in-Ended
returns-in-Ended c = is_told (ap (λ store. (contents_at store).run) (sym c.store.ensures) ∙ sym c.run.ensures ∙ ap run_of c.in-Ended.is)
