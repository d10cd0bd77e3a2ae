use Rattle.std.proofs.Common.{drop}
use Rattle.gr_command.specs.Texts.{rows}
use Rattle.gr_command.proofs.Growing.{LeadsTo}
use Rattle.gr_command.proofs.pieces.put_rows.Given as goal

-- what is left to append gives the whole
abbrev pub invariant-loop-item : goal.invariant-loop-item
invariant-loop-item g l =
    let text_of = g.W.Written.text_of in
    LeadsTo l.fn.text l.text (rows text_of (drop l.item-index l.items)) (rows text_of l.items)
