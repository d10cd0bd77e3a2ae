use Rattle.std.proofs.Common.{◌%◌, ◌∙◌, length, None, sym, ap}
use Rattle.std.specs.Prelude.{option_copied, slice_get}
use Rattle.gr_rollback.proofs.LendingLemmas.{lent_at, lent_within, names, none_of_none}
use Rattle.gr_rollback.proofs.machine.Machine.alone_at.Goals as goal

pub returns-in-Some : goal.returns-in-Some
returns-in-Some c = λ p w s.
    lent_within p w c.args.self.now s c.args.place c.in-Some.go.now c.nth_alone.ensures.ordered
    (sym (ap option_copied c.in-Some.is) ∙ c.nth_alone.ensures.which)

pub returns-then-count-eq0 : goal.returns-then-count-eq0
returns-then-count-eq0 c = λ p w s.
    let ns = names p w c.args.self.now s in
    lent_at p w c.args.self.now s c.args.place None c.count_alone-count.ensures.ordered
    (none_of_none ns (c.args.place % length ns) (sym c.count_alone-count.ensures.count ∙ c.if-count-eq0.true))

pub returns : goal.returns
returns c = λ p w s.
    let ns = names p w c.args.self.now s in
    lent_at p w c.args.self.now s c.args.place (option_copied c.nth_alone-2.result) c.count_alone-count.ensures.ordered
    (c.nth_alone-2.ensures.which ∙ ap (λ n. slice_get ns (c.args.place % n)) c.count_alone-count.ensures.count)
