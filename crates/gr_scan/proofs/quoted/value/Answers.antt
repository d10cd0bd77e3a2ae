use Rattle.gr_scan.proofs.Literals.{all_read, byte_on, escape_on, quote_ends}
use Rattle.gr_scan.proofs.quoted.value.Goals.{in-Byte+in_ok-push-in-Byte, in-Backslash}
use Rattle.gr_scan.proofs.quoted.value.Goals as goal

pub returns-in-Close : goal.returns-in-Close
returns-in-Close c =
    let l = c.loop-i in
    quote_ends c.args.literal.now l.value.items l.i l.escape l.invariant c.loop-i-test.true c.read_byte.result c.read_byte.ensures c.in-Close.is

pub loop-i-preserved : goal.loop-i-preserved
loop-i-preserved c =
    let l = c.loop-i in
    elim c.match-read_byte.branch [
      | in-Byte+in_ok-push-in-Byte w ↦ rw (w.value-is, w.escape-is) (byte_on c.args.literal.now l.value.items l.i l.escape l.invariant c.loop-i-test.true w.in-Byte.byte w.push.new.self.items w.in-Byte.ensures w.in_ok-push-in-Byte.ensures.items)
      | in-Backslash w ↦ rw (w.value-is, w.escape-is) (escape_on c.args.literal.now l.value.items l.i l.escape l.invariant c.loop-i-test.true (rw (← w.in-Backslash.is) c.read_byte.ensures))
    ]

pub returns : goal.returns
returns c =
    let l = c.loop-i in
    all_read c.args.literal.now l.value.items l.i l.escape l.invariant c.loop-i-test.false
