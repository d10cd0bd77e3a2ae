use Rattle.std.proofs.Common.{◌∙◌, sym, arith, ℕ, List}
use Rattle.std.proofs.lemmas.Result.{err_from_is_err_and}
use Rattle.gr_scan.specs.Tokens.{tokens_of}
use Rattle.gr_tree.specs.Exprs.{names_of}
use Rattle.gr_syntax.specs.Reading.{Found}
use Rattle.gr_syntax.proofs.Turns.{names_err, names_last, names_go, names_push, fails_on}
use Rattle.gr_syntax.proofs.look.names.Goals as goal

pub returns-in_err-first-clause-gives : goal.returns-in_err-first-clause-gives
returns-in_err-first-clause-gives c =
    let xs : Found (List (List ℕ)) = (names_of c.loop-found.found.value.items, 0, tokens_of c.loop-found.found.rest.now) in
    let p = err_from_is_err_and c.from_residual.result c.from_residual.ensures.1 in
    rw (p.1, p.2) (fails_on c.in_err-first.field-0.0 _ _ (λ d e. sym c.loop-found.invariant.gives ∙ names_err xs d e) c.in_err-first.ensures.gives)

pub returns-in_default-clause-gives : goal.returns-in_default-clause-gives
returns-in_default-clause-gives c =
    let xs : Found (List (List ℕ)) = (names_of c.loop-found.found.value.items, 0, tokens_of c.loop-found.found.rest.now) in
    let e = names_last xs (c.in_ok-first.first.now, tokens_of c.in_ok-first.more.now) c.in_ok-first.ensures.gives c.in_default.ensures.value in
    let p = names_push c.loop-found.found.value.items c.in_ok-copy.field-0 in
    let q = c.loop-found.invariant.gives in
    let r = c.in_ok-push.ensures.items in
    let s = c.in_ok-copy.ensures in
    let z = c.loop-found.invariant.low in
    cc

pub loop-found-preserved : goal.loop-found-preserved
loop-found-preserved c =
    let xs : Found (List (List ℕ)) = (names_of c.loop-found.found.value.items, 0, tokens_of c.loop-found.found.rest.now) in
    let e = names_go xs (c.in_ok-first.first.now, tokens_of c.in_ok-first.more.now) (tokens_of c.in-Some.more.now) c.in_ok-first.ensures.gives c.in-Some.ensures.value in
    let p = names_push c.loop-found.found.value.items c.in_ok-copy.field-0 in
    let q = c.loop-found.invariant.gives in
    let r = c.in_ok-push.ensures.items in
    let s = c.in_ok-copy.ensures in
    record { gives = cc; low = c.loop-found.invariant.low; shorter = omega (arith, c.loop-found.invariant.shorter, c.in_ok-first.ensures.shorter, c.in-Some.ensures.shorter) }
