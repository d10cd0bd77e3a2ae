use Rattle.gr_command.specs.Texts.{row}
use Rattle.gr_command.proofs.Growing.{leads_on, leads_up, leads_short}
use Rattle.gr_command.proofs.pieces.put_rows.Goals as goal

pub loop-item-init : goal.loop-item-init
loop-item-init g c r d puts = puts

pub loop-item-preserved : goal.loop-item-preserved
loop-item-preserved g c =
    let loop = c.loop-item in
    leads_on (λ x. row (g.W.Written.text_of x)) c.args.items.now loop.item-index c.item-item.result c.loop-item-test.true c.item-item.is
    loop.invariant c.in_ok-put_three.ensures

pub returns : goal.returns
returns g c =
    let loop = c.loop-item in
    leads_up (λ x. row (g.W.Written.text_of x)) c.args.items.now loop.item-index c.loop-item-test.false loop.invariant

pub returns-in_err-put_three : goal.returns-in_err-put_three
returns-in_err-put_three g c =
    let loop = c.loop-item in
    leads_short (λ x. row (g.W.Written.text_of x)) c.args.items.now loop.item-index c.item-item.result c.loop-item-test.true c.item-item.is
    loop.invariant c.from_residual.ensures.0 c.in_err-put_three.ensures
