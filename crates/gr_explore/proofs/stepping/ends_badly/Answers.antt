use Rattle.std.proofs.Common.{sym, ◌∙◌, ap}
use Rattle.gr_step.specs.Objects.{run_of}
use Rattle.gr_step.specs.Stores.{contents_at}
use Rattle.gr_explore.proofs.StepLemmas.{bad_if_faulted, fine_if_ended, bad_if_stuck, is_told, not_told}
use Rattle.gr_explore.proofs.stepping.ends_badly.Goals as goal

pub returns-in-Faulted : goal.returns-in-Faulted
returns-in-Faulted c = is_told (bad_if_faulted c.args.machine.now _ (ap (λ store. (contents_at store).run) (sym c.store.ensures) ∙ sym c.run.ensures ∙ ap run_of c.in-Faulted.is))

pub returns-in-Ended : goal.returns-in-Ended
returns-in-Ended c = not_told (fine_if_ended c.args.machine.now (ap (λ store. (contents_at store).run) (sym c.store.ensures) ∙ sym c.run.ensures ∙ ap run_of c.in-Ended.is))

pub returns-in-Live : goal.returns-in-Live
returns-in-Live c = bad_if_stuck c.args.machine.now c.is_stuck.result (ap (λ store. (contents_at store).run) (sym c.store.ensures) ∙ sym c.run.ensures ∙ ap run_of c.in-Live.is) c.is_stuck.ensures
