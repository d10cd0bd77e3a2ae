use Rattle.std.proofs.Common.{◌∙◌, sym}
use Rattle.gr_scan.proofs.BlankPieces.{space_piece, newline_piece}
use Rattle.gr_scan.proofs.WordPieces.{word_piece}
use Rattle.gr_scan.proofs.OperatorPieces.{other_only}
use Rattle.gr_scan.proofs.piece.longest_piece.Goals as goal

pub mark-requires-clause-marks : goal.mark-requires-clause-marks
mark-requires-clause-marks c = other_only c.args.text.now (sym c.classify.ensures ∙ c.in-Other.is)

pub returns-in-Letter-clause-ok : goal.returns-in-Letter-clause-ok
returns-in-Letter-clause-ok c =
    word_piece c.args.text.now c.run_end.result c.run_end.ensures.low c.run_end.ensures.high (sym c.classify.ensures ∙ c.in-Letter.is) c.run_end.ensures.inside c.run_end.ensures.longest

pub returns-in-Space-clause-ok : goal.returns-in-Space-clause-ok
returns-in-Space-clause-ok c = space_piece c.args.text.now c.requires (sym c.classify.ensures ∙ c.in-Space.is)

pub returns-in-Newline-clause-ok : goal.returns-in-Newline-clause-ok
returns-in-Newline-clause-ok c = newline_piece c.args.text.now c.requires (sym c.classify.ensures ∙ c.in-Newline.is)
