use Rattle.std.proofs.Common.{◌≡◌, true, get_or, ◌∙◌, sym, ap}
use Rattle.gr_scan.specs.Pieces.{is_digit}
use Rattle.gr_scan.proofs.Fronts.{digit_there}
use Rattle.gr_scan.proofs.PointPieces.{point_piece, point_only}
use Rattle.gr_scan.proofs.piece.point.Goals as goal

pub returns-then-digit-clause-ok : goal.returns-then-digit-clause-ok
returns-then-digit-clause-ok c =
    let second : is_digit (get_or c.args.text.now 1 0) ≡ true = ap is_digit (sym c.byte.ensures) ∙ sym c.digit.ensures ∙ c.if-digit.true in
    point_piece c.args.text.now (digit_there c.args.text.now 1 second) c.requires.class second

pub mark-requires-clause-marks : goal.mark-requires-clause-marks
mark-requires-clause-marks c = point_only c.args.text.now c.requires.class (ap is_digit (sym c.byte.ensures) ∙ sym c.digit.ensures ∙ c.if-digit.false)
