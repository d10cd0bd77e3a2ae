use Rattle.std.proofs.Common.{◌==◌, ◌+◌, ◌≤◌, length, sym, arith, refl, take_all, drop_of_length-le}
use Rattle.std.specs.List.{position_or_len}
use Rattle.gr_base.proofs.Marks.{first_at, first_none}
use Rattle.std.proofs.lemmas.Grind.{common_steps}
use Rattle.gr_base.proofs.read.parts.Goals as goal

pub returns-in-Some-clause-before : goal.returns-in-Some-clause-before
returns-in-Some-clause-before c =
    rw (first_at (λ b. b == c.args.mark) c.args.text.now c.in-Some.at c.in-Some.ensures.place).0 refl

pub returns-in-Some-clause-after : goal.returns-in-Some-clause-after
returns-in-Some-clause-after c =
    let first = first_at (λ b. b == c.args.mark) c.args.text.now c.in-Some.at c.in-Some.ensures.place in
    rw first.0 (grind (arith, common_steps))

pub returns-in-None-clause-before : goal.returns-in-None-clause-before
returns-in-None-clause-before c =
    let far = first_none (λ b. b == c.args.mark) c.args.text.now c.in-None.ensures.place in
    sym (take_all _ _ far)

pub returns-in-None-clause-after : goal.returns-in-None-clause-after
returns-in-None-clause-after c =
    let far = first_none (λ b. b == c.args.mark) c.args.text.now c.in-None.ensures.place in
    let past : length c.args.text.now ≤ position_or_len (λ b. b == c.args.mark) c.args.text.now + 1 = omega (arith, far) in
    sym (drop_of_length-le c.args.text.now past)
