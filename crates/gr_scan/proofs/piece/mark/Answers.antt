use Rattle.std.proofs.Common.{◌∙◌, sym}
use Rattle.gr_scan.proofs.OperatorPieces.{mark_piece, no_mark}
use Rattle.gr_scan.proofs.piece.mark.Goals as goal

pub returns-in-Some-clause-ok : goal.returns-in-Some-clause-ok
returns-in-Some-clause-ok c = mark_piece c.args.text.now c.in-Some.mark c.in-Some.size c.requires.marks (sym c.operator.ensures ∙ c.in-Some.is)

pub returns-in-None-clause-err : goal.returns-in-None-clause-err
returns-in-None-clause-err c = no_mark c.args.text.now c.requires.marks (sym c.operator.ensures ∙ c.in-None.is)

pub returns-in-None-2-clause-err : goal.returns-in-None-2-clause-err
returns-in-None-2-clause-err c = no_mark c.args.text.now c.requires.marks (sym c.operator.ensures ∙ c.in-None.is)
