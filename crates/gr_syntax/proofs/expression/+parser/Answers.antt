use Rattle.std.proofs.Common.{◌∙◌, ap, sym, arith, ◌-◌, ◌+◌}
use Rattle.gr_scan.specs.Tokens.{tokens_of}
use Rattle.gr_tree.specs.Exprs.{Tree, Trees, tree_of, trees_of}
use Rattle.gr_syntax.specs.Grammar.{level}
use Rattle.gr_syntax.specs.Reading.{Found, type_at, expr_at}
use Rattle.gr_syntax.specs.Views.{found_of}
use Rattle.gr_syntax.proofs.Turns.{chain_end, chain_weak, chain_high, chain_err, chain_go, expr_shorter, exprs_err, exprs_last, exprs_trail, exprs_go, trees_push, call_is, named_call, fails_on}
use Rattle.gr_syntax.proofs.expression.+parser.Goals as goal
use Rattle.gr_syntax.proofs.expression.+parser.Goals.{expr-in-Some+then-precedence-level, expr-in_default}

pub expr-returns-then-left-below-clause-gives : goal.expr-returns-then-left-below-clause-gives
expr-returns-then-left-below-clause-gives t c =
    rw c.abandon.ensures (sym c.loop-op.invariant.gives ∙ chain_high (c.args.limit - 1) c.args.level (found_of tree_of c.loop-op.left) c.in-Some.op (tokens_of c.in-Some.rest.now) c.in-Some.ensures.value (omega arith) c.if-left-below.true)

pub expr-returns-in-Err-clause-gives : goal.expr-returns-in-Err-clause-gives
expr-returns-in-Err-clause-gives t c =
    rw c.abandon-in-Err.ensures (fails_on c.in-Err.fault _ _ (λ d e. sym c.loop-op.invariant.gives ∙ chain_err (c.args.limit - 1) c.args.level (found_of tree_of c.loop-op.left) c.in-Some.op (tokens_of c.in-Some.rest.now) d c.in-Some.ensures.value (omega arith) (omega arith) e) (rw (← c.precedence-in-Some.ensures.value) c.in-Err.ensures.gives))

pub expr-loop-op-preserved : goal.expr-loop-op-preserved
expr-loop-op-preserved t c =
    let e = chain_go (c.args.limit - 1) c.args.level (found_of tree_of c.loop-op.left) c.in-Some.op (tokens_of c.in-Some.rest.now) (found_of tree_of c.in-Ok.right) c.in-Some.ensures.value (omega arith) (omega arith) (rw (← c.precedence-in-Some.ensures.value) c.in-Ok.ensures.gives) in
    let q = c.loop-op.invariant.gives in
    let j = c.in_ok-joined.ensures.joined in
    record { gives = cc; fits = omega (arith, c.in-Ok.ensures.fits, ap (λ (f : Found Tree). f.1) j) }

pub expr-returns-clause-gives : goal.expr-returns-clause-gives
expr-returns-clause-gives t c = elim c.match-binary.branch [
  | expr-in-Some+then-precedence-level w ↦ sym c.loop-op.invariant.gives ∙ chain_weak (c.args.limit - 1) c.args.level (found_of tree_of c.loop-op.left) w.in-Some.op (tokens_of w.in-Some.rest.now) w.in-Some.ensures.value (omega arith)
  | expr-in_default w ↦ sym c.loop-op.invariant.gives ∙ chain_end (c.args.limit - 1) c.args.level (found_of tree_of c.loop-op.left) w.in_default.ensures.value
]

pub expr-loop-op-smaller : goal.expr-loop-op-smaller
expr-loop-op-smaller t c =
    omega (
      arith,
      c.in-Some.ensures.shorter,
      c.in_ok-joined.ensures.rest,
      expr_shorter (c.args.limit - 1) (level c.in-Some.op + 1) c.in-Some.rest.now c.in-Ok.right.rest.now (tree_of c.in-Ok.right.value) c.in-Ok.right.height (omega arith) (rw (← c.precedence-in-Some.ensures.value) c.in-Ok.ensures.gives),
    )

pub exprs-returns-in-Err-clause-gives : goal.exprs-returns-in-Err-clause-gives
exprs-returns-in-Err-clause-gives t c =
    let es : Found Trees = (trees_of c.loop-next.found.value.items, c.loop-next.found.height, tokens_of c.loop-next.found.rest.now) in
    rw c.abandon.ensures (fails_on c.in-Err.fault _ _ (λ d e. sym c.loop-next.invariant.gives ∙ exprs_err c.args.limit c.args.trailing es d e) c.in-Err.ensures.gives)

pub exprs-returns-in_default-clause-gives : goal.exprs-returns-in_default-clause-gives
exprs-returns-in_default-clause-gives t c =
    let es : Found Trees = (trees_of c.loop-next.found.value.items, c.loop-next.found.height, tokens_of c.loop-next.found.rest.now) in
    let e = exprs_last c.args.limit c.args.trailing es (found_of tree_of c.in-Ok.next) c.in-Ok.ensures.gives c.in_default.ensures.value in
    let p = trees_push c.loop-next.found.value.items c.in-Ok.next.value in
    let q = c.loop-next.invariant.gives in
    let r = c.in_ok-push.ensures.items in
    let s = c.max.ensures in
    cc

pub exprs-returns-then-ends-clause-gives : goal.exprs-returns-then-ends-clause-gives
exprs-returns-then-ends-clause-gives t c =
    let es : Found Trees = (trees_of c.loop-next.found.value.items, c.loop-next.found.height, tokens_of c.loop-next.found.rest.now) in
    let e = exprs_trail c.args.limit c.args.trailing es (found_of tree_of c.in-Ok.next) (tokens_of c.in-Some.more.now) c.in-Ok.ensures.gives c.in-Some.ensures.value (sym c.ends.ensures ∙ c.if-ends.true) in
    let p = trees_push c.loop-next.found.value.items c.in-Ok.next.value in
    let q = c.loop-next.invariant.gives in
    let r = c.in_ok-push.ensures.items in
    let s = c.max.ensures in
    cc

pub exprs-loop-next-preserved : goal.exprs-loop-next-preserved
exprs-loop-next-preserved t c =
    let es : Found Trees = (trees_of c.loop-next.found.value.items, c.loop-next.found.height, tokens_of c.loop-next.found.rest.now) in
    let e = exprs_go c.args.limit c.args.trailing es (found_of tree_of c.in-Ok.next) (tokens_of c.in-Some.more.now) c.in-Ok.ensures.gives c.in-Some.ensures.value (sym c.ends.ensures ∙ c.if-ends.false) in
    let p = trees_push c.loop-next.found.value.items c.in-Ok.next.value in
    let q = c.loop-next.invariant.gives in
    let r = c.in_ok-push.ensures.items in
    let s = c.max.ensures in
    record { gives = cc; fits = omega (arith, c.max.ensures, c.loop-next.invariant.fits, c.in-Ok.ensures.fits) }

pub exprs-loop-next-smaller : goal.exprs-loop-next-smaller
exprs-loop-next-smaller t c =
    omega (
      arith,
      c.in-Some.ensures.shorter,
      expr_shorter c.args.limit 1 c.loop-next.found.rest.now c.in-Ok.next.rest.now (tree_of c.in-Ok.next.value) c.in-Ok.next.height (omega arith) c.in-Ok.ensures.gives,
    )

pub named-returns-clause-gives : goal.named-returns-clause-gives
named-returns-clause-gives t c =
    let es : Found Trees = (trees_of c.in_ok-passed.passed.value.items, c.in_ok-passed.passed.height, tokens_of c.in_ok-passed.passed.rest.now) in
    let e = named_call (type_at c.args.below) (expr_at c.args.below) c.args.name.now (tokens_of c.args.tokens.now) (tokens_of c.in-Some.rest.now) es c.in-Some.ensures.value (sym c.is_the_make.ensures ∙ c.if-is_the_make.false) c.in_ok-passed.ensures.gives in
    let k = call_is c.in-Ok.function c.in_ok-passed.passed.value in
    let n = c.in-Ok.ensures in
    cc
