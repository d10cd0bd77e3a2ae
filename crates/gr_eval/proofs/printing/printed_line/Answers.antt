use Rattle.std.proofs.Common.{◌≡◌, ◌++◌, ◌<◌, length, ap, ◌∙◌}
use Rattle.gr_base.specs.Values.{value_text}
use Rattle.gr_code.specs.CodeViews.{piece_of, pieces_of}
use Rattle.gr_rules.specs.Deeds.{texts}
use Rattle.gr_rules.specs.Points.{OfText, OfValue}
use Rattle.gr_eval.proofs.Lines.{IsNext, begun, text_turned, value_turned, value_there}
use Rattle.gr_eval.proofs.printing.printed_line.Goals.{in-Text+in_ok-extend_from_slice-in-Text, in-Value+in_ok-print_value-in-Value}
use Rattle.gr_eval.proofs.printing.printed_line.Goals as goal

pub loop-piece-init : goal.loop-piece-init
loop-piece-init c = record { line = rw c.new-text.ensures.items (begun (texts (pieces_of c.args.pieces.now) c.args.values.now)) }

pub loop-piece-preserved : goal.loop-piece-preserved
loop-piece-preserved c = record {
  line =
      let loop = c.loop-piece in
      let ps = c.args.pieces.now in
      let vs = c.args.values.now in
      let text = loop.text.items in
      let between = loop.between.now in
      let spaced = c.in_ok-extend_from_slice.ensures.items in
      elim c.match-piece.branch [
        | in-Text+in_ok-extend_from_slice-in-Text w ↦
            let n : IsNext ps loop.piece-index c.piece-item.result (OfText w.in-Text.bytes.items) =
            record { within = c.loop-piece-test.true; there = c.piece-item.is; kind = ap piece_of w.in-Text.is } in
            let bytes : w.deref.result.now ≡ w.in-Text.bytes.items = w.deref.ensures.value in
            let longer : w.extend_from_slice-in-Text.new.self.items ≡ (text ++ between) ++ w.in-Text.bytes.items =
            w.in_ok-extend_from_slice-in-Text.ensures.items ∙ ap (λ s. s ++ w.deref.result.now) spaced
            ∙ ap (λ s. (text ++ between) ++ s) bytes in
            rw (w.text-is, w.number-is) (text_turned text between _ n longer ∙ loop.invariant.line)
        | in-Value+in_ok-print_value-in-Value w ↦
            let v = w.index-values-number.result in
            let n : IsNext ps loop.piece-index c.piece-item.result OfValue =
            record { within = c.loop-piece-test.true; there = c.piece-item.is; kind = ap piece_of w.in-Value.is } in
            let there : loop.number < length vs =
            value_there text between vs loop.number (texts (pieces_of ps) vs) n loop.invariant.line c.requires in
            let longer : w.print_value.new.text.items ≡ (text ++ between) ++ value_text v =
            w.in_ok-print_value-in-Value.ensures.ok ∙ ap (λ s. s ++ value_text v) spaced in
            rw (w.text-is, w.number-is)
            (value_turned text between vs loop.number v n there w.index-values-number.is longer ∙ loop.invariant.line)
      ];
}
