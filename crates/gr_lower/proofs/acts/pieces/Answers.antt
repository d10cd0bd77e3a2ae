use Rattle.std.proofs.Common.{◌+◌, ◌<◌, ◌++◌, ◌∷◌, length, drop, ap, ◌∙◌, sym, arith}
use Rattle.gr_program.specs.Views.{printed_of, prints_of}
use Rattle.gr_rules.specs.Points as points
use Rattle.gr_code.specs.CodeViews.{piece_of, pieces_of}
use Rattle.gr_lower.proofs.ActEmits.{drop_prints, pieces_push, pieces_on}
use Rattle.gr_lower.proofs.acts.pieces.Goals as goal

pub loop-printed-preserved : goal.loop-printed-preserved
loop-printed-preserved c =
    let i = c.loop-printed.printed-index in
    let vs = c.args.values.now in
    let v = c.printed-item.result in
    let lt : i < length vs = omega arith in
    let rest = drop (i + 1) vs in
    let m = drop_prints vs i v lt ∙ ap (λ y. printed_of y ∷ prints_of rest) (sym c.printed-item.is) in
    let found = c.loop-printed.found.items in
    let next = c.in_ok-next.next in
    ap (λ l. pieces_of l ++ points.pieces_of (prints_of rest)) c.in_ok-push.ensures.items
    ∙ pieces_push found next (points.pieces_of (prints_of rest))
    ∙ ap (λ l. pieces_of found ++ l) (sym (pieces_on v (piece_of next) rest c.in_ok-next.ensures))
    ∙ ap (λ l. pieces_of found ++ points.pieces_of l) (sym m) ∙ c.loop-printed.invariant
