use Rattle.std.proofs.Common.{◌∙◌, ap, sym, length, arith}
use Rattle.gr_depend.specs.Logs.{records_of}
use Rattle.gr_explore.proofs.MoveLemmas.{went_forth}
use Rattle.gr_explore.proofs.StepLemmas.{as_many}
use Rattle.gr_explore.proofs.moving.move_to.Goals as goal

pub returns-else-place-taken-clause-there : goal.returns-else-place-taken-clause-there
returns-else-place-taken-clause-there c =
    went_forth c.args.events.now c.args.machine.now c.requires.along c.args.place c.step_through.new.machine c.len-taken.result
    (c.len-taken.ensures ∙ ap (λ l. length (records_of l)) c.log.ensures ∙ sym (as_many c.args.machine.now)) (omega arith) c.step_through.result c.step_through.ensures.forth
