use Rattle.std.proofs.Common.{take, get_or, ◌≡◌, sym, ◌∙◌, false}
use Rattle.std.proofs.lemmas.List.{take_more}
use Rattle.gr_command.specs.Words.{is_gap}
use Rattle.gr_command.proofs.Cuts.{NoGap-append}
use Rattle.gr_command.proofs.words.split_word.Goals as goal

pub loop-i-preserved : goal.loop-i-preserved
loop-i-preserved c =
    let e : is_gap (get_or c.args.text.now c.loop-i.i 0) ≡ false = sym c.is_gap.ensures ∙ c.if-is_gap.false in
    rw (take_more c.args.text.now c.loop-i.i 0 c.loop-i-test.true) (NoGap-append (take c.loop-i.i c.args.text.now) _ c.loop-i.invariant (e, tt))
