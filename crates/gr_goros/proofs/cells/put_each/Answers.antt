use Rattle.std.proofs.Common.{◌∙◌, ap, sym}
use Rattle.gr_goros.specs.Undoing.{each_restored}
use Rattle.gr_goros.proofs.CellLemmas.{restored_last}
use Rattle.gr_goros.proofs.cells.put_each.Goals as goal

pub loop-slot-preserved : goal.loop-slot-preserved
loop-slot-preserved c =
    let ws = c.pop.new.self.items in
    let cells = c.loop-slot.cells.items in
    ap (each_restored ws) c.put.ensures
    ∙ sym (restored_last ws (c.in-Some.slot, c.in-Some.held) cells)
    ∙ ap (λ ws. each_restored ws cells) (sym c.in-Some.ensures.items)
    ∙ c.loop-slot.invariant
