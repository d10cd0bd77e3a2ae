use Rattle.std.proofs.Common.{◌≡◌, drop}
use Rattle.gr_code.specs.CodeViews.{pieces_of}
use Rattle.gr_eval.specs.Lines.{line_of}
use Rattle.gr_eval.proofs.Lines.{line_with}
use Rattle.gr_eval.proofs.printing.printed_line.Given as goal

-- the text so far, and those of the pieces to come
abbrev pub invariant-loop-piece : goal.invariant-loop-piece
invariant-loop-piece l = record {
  line : line_with l.text.items l.between (drop l.piece-index l.pieces) (drop l.number l.values) ≡ line_of (pieces_of l.pieces) l.values;
}
