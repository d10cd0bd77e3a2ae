use Rattle.std.proofs.Common.{drop}
use Rattle.gr_command.specs.Texts.{each_spaced}
use Rattle.gr_command.proofs.Growing.{LeadsTo}
use Rattle.gr_command.proofs.pieces.put_spaced.Given as goal

-- what is left to append gives the whole
abbrev pub invariant-loop-item : goal.invariant-loop-item
invariant-loop-item g l =
    let text_of = g.W.Written.text_of in
    LeadsTo l.fn.text l.text (each_spaced text_of (drop l.item-index l.items)) (each_spaced text_of l.items)
