use Rattle.gr_console.proofs.CommandLines.{counted, unread}
use Rattle.gr_console.proofs.command_line.number.Goals as goal

pub returns-in_default-clause-number : goal.returns-in_default-clause-number
returns-in_default-clause-number c = unread c.args.least c.args.most c.args.text.now c.ranges.most.fits c.in_default.ensures.value.0

pub returns-then-number-most-clause-number : goal.returns-then-number-most-clause-number
returns-then-number-most-clause-number c =
    let read = c.in-Ok.ensures.value.0 in
    counted c.args.least c.args.most c.args.text.now c.in-Ok.number read.0.0 read.1 c.if-least-number.true c.if-number-most.true c.ranges.most.fits
