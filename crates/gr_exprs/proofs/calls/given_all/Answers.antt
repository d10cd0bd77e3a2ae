use Rattle.std.proofs.Common.{sym, ◌∙◌, true≢false, eqb-true, eq-eqb}
use Rattle.gr_program.specs.TypeViews.{types_of}
use Rattle.gr_exprs.specs.Calling.{given_all}
use Rattle.gr_exprs.specs.Checking.{meanings_of}
use Rattle.gr_exprs.proofs.Arguments.{given_on, given_end, given_over}
use Rattle.gr_exprs.proofs.calls.given_all.Goals as goal

pub loop-parameter-preserved : goal.loop-parameter-preserved
loop-parameter-preserved c =
    given_on c.args.parameters.now c.loop-parameter.parameter-index c.loop-parameter.values.items c.loop-parameter.terms.items (given_all (meanings_of c.args.values.items) (types_of c.args.parameters.now)) c.loop-parameter.invariant c.parameter-item.result c.in-Some.value c.pop_front.new.self.items c.in_ok-term.term c.push.new.self.items c.loop-parameter-test.true c.parameter-item.is c.in-Some.ensures.items c.in_ok-term.ensures.value c.in_ok-push.ensures.items

pub returns-then-not-is_empty : goal.returns-then-not-is_empty
returns-then-not-is_empty c =
    given_over c.args.parameters.now c.loop-parameter.parameter-index c.loop-parameter.values.items c.loop-parameter.terms.items (given_all (meanings_of c.args.values.items) (types_of c.args.parameters.now)) c.loop-parameter.invariant c.loop-parameter-test.false
    (λ none. true≢false (sym (eq-eqb c.loop-parameter.values.len 0 (c.loop-parameter.values.ok.0 ∙ none)) ∙ sym c.is_empty.ensures ∙ c.if-not-is_empty.true))

pub returns : goal.returns
returns c =
    given_end c.args.parameters.now c.loop-parameter.parameter-index c.loop-parameter.values.items c.loop-parameter.terms.items (given_all (meanings_of c.args.values.items) (types_of c.args.parameters.now)) c.loop-parameter.invariant c.loop-parameter-test.false
    (sym c.loop-parameter.values.ok.0 ∙ eqb-true c.loop-parameter.values.len 0 (sym c.is_empty.ensures ∙ c.if-not-is_empty.false))
