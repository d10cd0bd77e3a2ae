use Rattle.std.proofs.Common.{◌∙◌, arith, ap, sym, List, Ok, true-eqb, false-eqb}
use Rattle.std.proofs.lemmas.Result.{err_from_is_err_and}
use Rattle.gr_scan.specs.Tokens.{tokens_of}
use Rattle.gr_tree.specs.Files.{Function, function_of, functions_of}
use Rattle.gr_syntax.specs.Reading.{Found, loop}
use Rattle.gr_syntax.specs.FileReading.{functions_turn}
use Rattle.gr_syntax.specs.Views.{found_of}
use Rattle.gr_syntax.proofs.Turns.{fails_on}
use Rattle.gr_syntax.proofs.FileTurns.{full, empty, functions_stop, functions_err, functions_unended, functions_go, functions_push, function_shorter}
use Rattle.gr_syntax.proofs.function.functions.Goals as goal

pub returns-in_err-next : goal.returns-in_err-next
returns-in_err-next c =
    let fs : Found (List Function) = (functions_of c.loop-alloc.found.value.items, 0, tokens_of c.loop-alloc.found.rest.now) in
    let m = full c.loop-alloc.found.rest.now (false-eqb _ 0 c.loop-alloc-test.ensures) in
    let p = err_from_is_err_and c.from_residual.result c.from_residual.ensures.1 in
    rw (p.1, p.2) (fails_on c.in_err-next.field-0.0 _ _ (λ d e. sym c.loop-alloc.invariant.gives ∙ functions_err c.args.limit fs m.0 m.1 d m.2 e) c.in_err-next.ensures)

pub returns-in-Err : goal.returns-in-Err
returns-in-Err c =
    let fs : Found (List Function) = (functions_of c.loop-alloc.found.value.items, 0, tokens_of c.loop-alloc.found.rest.now) in
    let m = full c.loop-alloc.found.rest.now (false-eqb _ 0 c.loop-alloc-test.ensures) in
    rw c.abandon.ensures (fails_on c.in-Err.fault _ _ (λ d e. sym c.loop-alloc.invariant.gives ∙ functions_unended c.args.limit fs m.0 m.1 (found_of function_of c.in_ok-next.next) d m.2 c.in_ok-next.ensures e) c.in-Err.ensures.gives)

pub loop-alloc-preserved : goal.loop-alloc-preserved
loop-alloc-preserved c =
    let fs : Found (List Function) = (functions_of c.loop-alloc.found.value.items, 0, tokens_of c.loop-alloc.found.rest.now) in
    let m = full c.loop-alloc.found.rest.now (false-eqb _ 0 c.loop-alloc-test.ensures) in
    let e = functions_go c.args.limit fs m.0 m.1 (found_of function_of c.in_ok-next.next) (c.in-Ok.past.0, tokens_of c.in-Ok.past.1.now) m.2 c.in_ok-next.ensures c.in-Ok.ensures.gives in
    let p = functions_push c.loop-alloc.found.value.items c.in_ok-next.next.value in
    record {
      gives = ap (λ all. loop (functions_turn c.args.limit) (all, 0, tokens_of c.in-Ok.past.1.now)) (ap functions_of c.in_ok-push.ensures.items ∙ p) ∙ sym e ∙ c.loop-alloc.invariant.gives;
      low = c.loop-alloc.invariant.low;
    }

pub returns : goal.returns
returns c =
    let fs : Found (List Function) = (functions_of c.loop-alloc.found.value.items, 0, tokens_of c.loop-alloc.found.rest.now) in
    sym c.loop-alloc.invariant.gives
    ∙ functions_stop c.args.limit fs (empty c.loop-alloc.found.rest.now (true-eqb _ 0 c.loop-alloc-test.ensures))
    ∙ ap (λ h. Ok (functions_of c.loop-alloc.found.value.items, h, tokens_of c.loop-alloc.found.rest.now)) (sym c.loop-alloc.invariant.low)

pub loop-alloc-smaller : goal.loop-alloc-smaller
loop-alloc-smaller c = omega (arith, function_shorter c.args.limit c.loop-alloc.found.rest.now c.in_ok-next.next.rest.now (function_of c.in_ok-next.next.value) c.in_ok-next.next.height c.in_ok-next.ensures, c.in-Ok.ensures.shorter)
