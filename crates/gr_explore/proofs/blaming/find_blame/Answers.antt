use Rattle.std.proofs.Common.{◌∙◌, sym}
use Rattle.gr_explore.proofs.BlameLemmas.{blame_at, home_at}
use Rattle.gr_explore.proofs.blaming.find_blame.Goals as goal

pub returns-clause-blame : goal.returns-clause-blame
returns-clause-blame c =
    blame_at c.args.machine.now c.as_slice.result.now c.in_ok-blame.blame (c.as_slice.ensures.value ∙ c.in-Ok.ensures) c.in_ok-blame.ensures.blame

pub returns-clause-home : goal.returns-clause-home
returns-clause-home c =
    home_at c.args.machine.now c.blame_along.new.machine c.move_to.new.machine c.as_slice-2.result.now c.len.result (c.as_slice-2.ensures.value ∙ c.in-Ok.ensures)
    (c.len.ensures ∙ sym c.as_slice-2.ensures.len) c.blame_along.ensures.of c.move_to.ensures.of c.in_ok-move_to.ensures.there
