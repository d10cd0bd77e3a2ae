use Rattle.std.proofs.Common.{◌≡◌, None}
use Rattle.std.proofs.lemmas.Result.{err_from_is_err_and}
use Rattle.gr_scan.specs.Pieces.{NoPiece}
use Rattle.gr_scan.specs.Scanning.{text_end}
use Rattle.gr_scan.proofs.Goes.{tells_next}
use Rattle.gr_scan.proofs.TextPieces.{text_piece, no_text}
use Rattle.gr_scan.proofs.piece.string.Goals as goal

pub returns-in_err-size-clause-err : goal.returns-in_err-size-clause-err
returns-in_err-size-clause-err c =
    let p = err_from_is_err_and c.from_residual.result c.from_residual.ensures.1 in
    rw (p.1, p.2) (tells_next (text_end c.args.text.now ≡ None) (NoPiece c.args.text.now) c.in_err-size.field-0.0 (no_text c.args.text.now c.requires.class) c.in_err-size.ensures.err)

pub returns-clause-ok : goal.returns-clause-ok
returns-clause-ok c = text_piece c.args.text.now c.in_ok-size.size c.requires.class c.in_ok-size.ensures.ok
