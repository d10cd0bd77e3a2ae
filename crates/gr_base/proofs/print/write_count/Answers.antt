use Rattle.std.proofs.Common.{◌≡◌, ◌+◌, ◌-◌, refl, arith}
use Rattle.std.proofs.lemmas.Fmt.{length-decimal-le}
use Rattle.std.proofs.lemmas.List.{drop-set}
use Rattle.gr_base.proofs.print.write_count.Goals as goal

pub write_digits-start-requires : goal.write_digits-start-requires
write_digits-start-requires c =
    let short = length-decimal-le 20 c.args.n (omega arith) (omega arith) (omega arith) in
    (omega (arith, short, c.requires.room), c.requires.within)

pub overflow_sub-start : goal.overflow_sub-start
overflow_sub-start c =
    let short = length-decimal-le 20 c.args.n (omega arith) (omega arith) (omega arith) in
    omega (arith, short, c.requires.room, c.write_digits-start.ensures.start)

pub returns-clause-written : goal.returns-clause-written
returns-clause-written c =
    let short = length-decimal-le 20 c.args.n (omega arith) (omega arith) (omega arith) in
    let start = c.write_digits-start.result in
    let next : start - 1 + 1 ≡ start = omega (arith, short, c.requires.room, c.write_digits-start.ensures.start) in
    rw (drop-set c.write_digits-start.new.buf (start - 1) c.args.mark (omega (arith, next, c.write_digits-start.ensures.start, c.requires.within)), next, c.write_digits-start.ensures.written) refl

pub returns-clause-start : goal.returns-clause-start
returns-clause-start c =
    let short = length-decimal-le 20 c.args.n (omega arith) (omega arith) (omega arith) in
    omega (arith, short, c.write_digits-start.ensures.start)
