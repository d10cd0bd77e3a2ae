use Rattle.std.proofs.Common.{sym, ◌∙◌, ap}
use Rattle.gr_step.specs.Objects.{run_of}
use Rattle.gr_step.specs.Stores.{contents_at}
use Rattle.gr_explore.specs.Exploring.{state_seen}
use Rattle.gr_survey.proofs.EndLemmas.{leak_if_ended, stuck_if_live}
use Rattle.gr_survey.proofs.bad_end.bad_end.Goals as goal

pub returns-in-Faulted : goal.returns-in-Faulted
returns-in-Faulted c = ap (λ store. (contents_at store).run) (sym c.store.ensures) ∙ sym c.run.ensures ∙ ap run_of c.in-Faulted.is

pub returns-in-Live : goal.returns-in-Live
returns-in-Live c = stuck_if_live (state_seen c.args.machine.now) (ap (λ store. (contents_at store).run) (sym c.store.ensures) ∙ sym c.run.ensures ∙ ap run_of c.in-Live.is) c.requires

pub returns-in-Ended : goal.returns-in-Ended
returns-in-Ended c = leak_if_ended (state_seen c.args.machine.now) (ap (λ store. (contents_at store).run) (sym c.store.ensures) ∙ sym c.run.ensures ∙ ap run_of c.in-Ended.is) c.requires
