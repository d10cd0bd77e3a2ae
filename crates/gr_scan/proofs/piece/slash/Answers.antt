use Rattle.std.proofs.Common.{◌≡◌, get_or, ◌∙◌, sym, arith}
use Rattle.gr_scan.proofs.Fronts.{there}
use Rattle.gr_scan.proofs.CommentPieces.{comment_piece, general_piece, open_piece}
use Rattle.gr_scan.proofs.piece.slash.Goals as goal

pub returns-then-second-eq47-clause-ok : goal.returns-then-second-eq47-clause-ok
returns-then-second-eq47-clause-ok c =
    comment_piece c.args.text.now c.line_end.result c.line_end.ensures.low c.line_end.ensures.high c.requires.class (sym c.byte-second.ensures ∙ c.if-second-eq47.true) c.line_end.ensures.inside c.line_end.ensures.longest

pub returns-in-Some-clause-ok : goal.returns-in-Some-clause-ok
returns-in-Some-clause-ok c =
    general_piece c.args.text.now c.in-Some.end c.requires.class (sym c.byte-second.ensures ∙ c.if-second-eq42.true) c.in-Some.ensures.some

pub returns-in-None-clause-ok : goal.returns-in-None-clause-ok
returns-in-None-clause-ok c =
    let second : get_or c.args.text.now 1 0 ≡ 42 = sym c.byte-second.ensures ∙ c.if-second-eq42.true in
    open_piece c.args.text.now (there c.args.text.now 1 42 second (omega arith)) c.requires.class second c.in-None.ensures.none
