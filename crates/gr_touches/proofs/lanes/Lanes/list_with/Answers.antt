use Rattle.std.proofs.Common.{sym, ◌∙◌}
use Rattle.gr_touches.proofs.LaneLemmas.{numbered_there, run_is_last}
use Rattle.gr_touches.proofs.lanes.Lanes.list_with.Goals as goal

pub returns-in-Some : goal.returns-in-Some
returns-in-Some c =
    c.as_slice.ensures ∙ numbered_there c.args.self.now c.args.number c.in-Some.field-0-0.now c.in-Some.lane.now (sym c.in-Some.ensures.entry)

pub returns-in-None : goal.returns-in-None
returns-in-None c = c.as_slice-in-None.ensures.value ∙ sym (run_is_last c.args.self.now c.args.number (sym c.in-None.ensures.entry))
