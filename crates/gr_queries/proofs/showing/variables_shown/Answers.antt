use Rattle.std.proofs.Common.{sym, ◌∙◌}
use Rattle.std.proofs.lemmas.List.{append-nil}
use Rattle.gr_queries.proofs.Holding.{after_variable, after_all, next_shown}
use Rattle.gr_queries.proofs.showing.variables_shown.Goals as goal

pub loop-number-preserved : goal.loop-number-preserved
loop-number-preserved c =
    after_variable c.args.variables.now c.args.cells.now _ _ _ c.loop-number.number c.index-variables-number.result _ c.loop-number-test.true
    c.index-variables-number.is c.in-Some.ensures
    (next_shown _ _ c.index-variables-number.result _ _ _ c.in_ok-push.ensures.items
    (c.in_ok-name.ensures.items ∙ c.deref.ensures.value) c.in_ok-value.ensures.ok)
    c.loop-number.invariant

pub loop-number-preserved-in_default : goal.loop-number-preserved-in_default
loop-number-preserved-in_default c =
    after_variable c.args.variables.now c.args.cells.now _ _ _ c.loop-number.number c.index-variables-number.result _ c.loop-number-test.true
    c.index-variables-number.is c.in_default.ensures (sym (append-nil _)) c.loop-number.invariant

pub returns : goal.returns
returns c = after_all c.args.variables.now c.args.cells.now _ _ c.loop-number.number c.loop-number-test.false c.loop-number.invariant
