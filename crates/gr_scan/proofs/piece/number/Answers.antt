use Rattle.std.proofs.Common.{◌≡◌, get_or, ◌∙◌, sym, arith}
use Rattle.gr_scan.proofs.Fronts.{there}
use Rattle.gr_scan.proofs.NumberPieces.{number_piece, pointed_piece}
use Rattle.gr_scan.proofs.piece.number.Goals as goal

pub returns-then-byte-eq46 : goal.returns-then-byte-eq46
returns-then-byte-eq46 c =
    let point : get_or c.args.text.now c.run_end-end.result 0 ≡ 46 = sym c.byte.ensures ∙ c.if-byte-eq46.true in
    pointed_piece c.args.text.now c.run_end-end.result c.run_end-end.ensures.low (there c.args.text.now c.run_end-end.result 46 point (omega arith)) c.requires.digit c.run_end-end.ensures.inside c.run_end-end.ensures.longest point

pub returns-else-byte-eq46 : goal.returns-else-byte-eq46
returns-else-byte-eq46 c =
    number_piece c.args.text.now c.run_end-end.result c.run_end-end.ensures.low c.run_end-end.ensures.high c.requires.digit c.run_end-end.ensures.inside c.run_end-end.ensures.longest (λ lt e. c.if-byte-eq46.false (c.byte.ensures ∙ e))
