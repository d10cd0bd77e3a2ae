use Rattle.std.proofs.Common.{◌≡◌, ◌∙◌, sym, arith, true, false}
use Rattle.std.proofs.lemmas.Result.{err_from_is_err_and}
use Rattle.gr_scan.specs.Tokens.{tokens_of}
use Rattle.gr_tree.specs.Statements.{Statements, Clauses, statement_of, comm_of, statements_of}
use Rattle.gr_syntax.specs.Reading.{Found}
use Rattle.gr_syntax.specs.SimpleReading.{stops_at}
use Rattle.gr_syntax.specs.CodeViews.{clauses_of}
use Rattle.gr_syntax.specs.Views.{found_of}
use Rattle.gr_syntax.proofs.Turns.{fails_on}
use Rattle.gr_syntax.proofs.StatementLists.{turn_close, turn_empty}
use Rattle.gr_syntax.proofs.StatementTurns.{list_err, list_bad, statement_shorter}
use Rattle.gr_syntax.proofs.ClauseTurns.{clauses_end, case_err, case_broken, default_broken, case_pushed, default_pushed, list_pushed, body_shorter, comm_shorter}
use Rattle.gr_syntax.proofs.+statement.Goals as goal

pub statement::list-loop-alloc-preserved-in-Some : goal.statement::list-loop-alloc-preserved-in-Some
statement::list-loop-alloc-preserved-in-Some t c =
    let ss : Found Statements = (statements_of c.loop-alloc.found.value.items, c.loop-alloc.found.height, tokens_of c.loop-alloc.found.rest.now) in
    let m : stops_at (tokens_of c.loop-alloc.found.rest.now) ≡ false = cc (c.stops.ensures, c.loop-alloc-test.true) in
    record { gives = sym (turn_empty c.args.limit ss (tokens_of c.in-Some.more.now) m c.in-Some.ensures.value) ∙ c.loop-alloc.invariant.gives; fits = c.loop-alloc.invariant.fits }

pub statement::list-returns-in_err-next-clause-gives : goal.statement::list-returns-in_err-next-clause-gives
statement::list-returns-in_err-next-clause-gives t c =
    let ss : Found Statements = (statements_of c.loop-alloc.found.value.items, c.loop-alloc.found.height, tokens_of c.loop-alloc.found.rest.now) in
    let m : stops_at (tokens_of c.loop-alloc.found.rest.now) ≡ false = cc (c.stops.ensures, c.loop-alloc-test.true) in
    let p = err_from_is_err_and c.from_residual.result c.from_residual.ensures.1 in
    rw (p.1, p.2) (fails_on c.in_err-next.field-0.0 _ _ (λ d e. sym c.loop-alloc.invariant.gives ∙ list_err c.args.limit ss m c.in_default.ensures.value d e) c.in_err-next.ensures.gives)

pub statement::list-returns-in_err-found-clause-gives : goal.statement::list-returns-in_err-found-clause-gives
statement::list-returns-in_err-found-clause-gives t c =
    let ss : Found Statements = (statements_of c.loop-alloc.found.value.items, c.loop-alloc.found.height, tokens_of c.loop-alloc.found.rest.now) in
    let m : stops_at (tokens_of c.loop-alloc.found.rest.now) ≡ false = cc (c.stops.ensures, c.loop-alloc-test.true) in
    let p = err_from_is_err_and c.from_residual-in_err-found.result c.from_residual-in_err-found.ensures.1 in
    rw (p.1, p.2) (fails_on c.in_err-found.field-0.0 _ _ (λ d e. sym c.loop-alloc.invariant.gives ∙ list_bad c.args.limit ss m c.in_default.ensures.value (found_of statement_of c.in_ok-next.next) d c.in_ok-next.ensures.gives e) c.in_err-found.ensures.gives)

pub statement::list-loop-alloc-preserved : goal.statement::list-loop-alloc-preserved
statement::list-loop-alloc-preserved t c =
    let m : stops_at (tokens_of c.loop-alloc.found.rest.now) ≡ false = cc (c.stops.ensures, c.loop-alloc-test.true) in
    record {
      gives = sym (list_pushed c.args.limit c.loop-alloc.found.value.items c.push.new.values.items c.in_ok-next.next.value c.loop-alloc.found.height c.max.result c.in_ok-next.next.height (tokens_of c.loop-alloc.found.rest.now) (tokens_of c.in_ok-next.next.rest.now) _ m c.in_default.ensures.value c.in_ok-next.ensures.gives c.in_ok-found.ensures.gives c.in_ok-push.ensures.items c.max.ensures) ∙ c.loop-alloc.invariant.gives;
      fits = omega (arith, c.max.ensures, c.loop-alloc.invariant.fits, c.in_ok-next.ensures.fits);
    }

pub statement::list-returns-clause-gives : goal.statement::list-returns-clause-gives
statement::list-returns-clause-gives t c =
    let ss : Found Statements = (statements_of c.loop-alloc.found.value.items, c.loop-alloc.found.height, tokens_of c.loop-alloc.found.rest.now) in
    let m : stops_at (tokens_of c.loop-alloc.found.rest.now) ≡ true = cc (c.stops.ensures, c.loop-alloc-test.false) in
    rw c.fitted.ensures (sym c.loop-alloc.invariant.gives ∙ turn_close c.args.limit ss m)

pub statement::list-loop-alloc-smaller : goal.statement::list-loop-alloc-smaller
statement::list-loop-alloc-smaller t c = omega (arith, statement_shorter c.args.limit c.loop-alloc.found.rest.now c.in_ok-next.next.rest.now (statement_of c.in_ok-next.next.value) c.in_ok-next.next.height c.in_ok-next.ensures.gives, c.in_ok-found.ensures.rest)

pub selecting::clauses-returns-in_err-awaited-clause-gives : goal.selecting::clauses-returns-in_err-awaited-clause-gives
selecting::clauses-returns-in_err-awaited-clause-gives t c =
    let cs : Found Clauses = (clauses_of c.loop-more.found.value.items, c.loop-more.found.height, tokens_of c.loop-more.found.rest.now) in
    let p = err_from_is_err_and c.from_residual.result c.from_residual.ensures.1 in
    rw (p.1, p.2) (fails_on c.in_err-awaited.field-0.0 _ _ (λ d e. sym c.loop-more.invariant.gives ∙ case_err c.args.limit cs (tokens_of c.in-Some.more.now) d c.in-Some.ensures.value e) c.in_err-awaited.ensures.gives)

pub selecting::clauses-returns-in-Err-clause-gives : goal.selecting::clauses-returns-in-Err-clause-gives
selecting::clauses-returns-in-Err-clause-gives t c =
    let cs : Found Clauses = (clauses_of c.loop-more.found.value.items, c.loop-more.found.height, tokens_of c.loop-more.found.rest.now) in
    rw c.abandon.ensures (fails_on c.in-Err.fault _ _ (λ d e. sym c.loop-more.invariant.gives ∙ case_broken c.args.limit cs (tokens_of c.in-Some.more.now) (found_of comm_of c.in_ok-awaited.awaited) d c.in-Some.ensures.value c.in_ok-awaited.ensures.gives e) c.in-Err.ensures.gives)

pub selecting::clauses-loop-more-smaller-in-Some : goal.selecting::clauses-loop-more-smaller-in-Some
selecting::clauses-loop-more-smaller-in-Some t c =
    omega (
      arith,
      c.in-Some.ensures.shorter,
      comm_shorter c.args.limit c.in-Some.more.now c.in_ok-awaited.awaited.rest.now (comm_of c.in_ok-awaited.awaited.value) c.in_ok-awaited.awaited.height c.in_ok-awaited.ensures.gives,
      body_shorter c.args.limit c.in_ok-awaited.awaited.rest.now c.in-Ok.body.rest.now (statements_of c.in-Ok.body.value.items) c.in-Ok.body.height c.in-Ok.ensures.gives,
    )

pub selecting::clauses-loop-more-preserved-in-Some : goal.selecting::clauses-loop-more-preserved-in-Some
selecting::clauses-loop-more-preserved-in-Some t c = record {
  gives = sym (case_pushed c.args.limit c.loop-more.found.value.items c.push.new.values.items c.in_ok-awaited.awaited.value c.in-Ok.body.value c.loop-more.found.height c.max-in-Some.result c.max.result c.in_ok-awaited.awaited.height c.in-Ok.body.height (tokens_of c.loop-more.found.rest.now) (tokens_of c.in-Some.more.now) (tokens_of c.in_ok-awaited.awaited.rest.now) (tokens_of c.in-Ok.body.rest.now) c.in-Some.ensures.value c.in_ok-awaited.ensures.gives c.in-Ok.ensures.gives c.in_ok-push.ensures.items c.max-in-Some.ensures c.max.ensures) ∙ c.loop-more.invariant.gives;
  fits = omega (arith, c.max-in-Some.ensures, c.max.ensures, c.loop-more.invariant.fits, c.in_ok-awaited.ensures.fits, c.in-Ok.ensures.fits);
}

pub selecting::clauses-returns-in_default-after-clause-gives : goal.selecting::clauses-returns-in_default-after-clause-gives
selecting::clauses-returns-in_default-after-clause-gives t c =
    let cs : Found Clauses = (clauses_of c.loop-more.found.value.items, c.loop-more.found.height, tokens_of c.loop-more.found.rest.now) in
    sym c.loop-more.invariant.gives ∙ clauses_end c.args.limit cs c.in_default.ensures.value c.in_default-after.ensures.value

pub selecting::clauses-returns-in_err-body-clause-gives : goal.selecting::clauses-returns-in_err-body-clause-gives
selecting::clauses-returns-in_err-body-clause-gives t c =
    let cs : Found Clauses = (clauses_of c.loop-more.found.value.items, c.loop-more.found.height, tokens_of c.loop-more.found.rest.now) in
    let p = err_from_is_err_and c.from_residual-in_err-body.result c.from_residual-in_err-body.ensures.1 in
    rw (p.1, p.2) (fails_on c.in_err-body.field-0.0 _ _ (λ d e. sym c.loop-more.invariant.gives ∙ default_broken c.args.limit cs (tokens_of c.in-Some-after.more.now) d c.in_default.ensures.value c.in-Some-after.ensures.value e) c.in_err-body.ensures.gives)

pub selecting::clauses-loop-more-smaller : goal.selecting::clauses-loop-more-smaller
selecting::clauses-loop-more-smaller t c =
    omega (
      arith,
      c.in-Some-after.ensures.shorter,
      body_shorter c.args.limit c.in-Some-after.more.now c.in_ok-body.body.rest.now (statements_of c.in_ok-body.body.value.items) c.in_ok-body.body.height c.in_ok-body.ensures.gives,
    )

pub selecting::clauses-loop-more-preserved : goal.selecting::clauses-loop-more-preserved
selecting::clauses-loop-more-preserved t c = record {
  gives = sym (default_pushed c.args.limit c.loop-more.found.value.items c.push-in-loop-more.new.values.items c.in_ok-body.body.value c.loop-more.found.height c.max-in-loop-more.result c.in_ok-body.body.height (tokens_of c.loop-more.found.rest.now) (tokens_of c.in-Some-after.more.now) (tokens_of c.in_ok-body.body.rest.now) c.in_default.ensures.value c.in-Some-after.ensures.value c.in_ok-body.ensures.gives c.in_ok-push-2.ensures.items c.max-in-loop-more.ensures) ∙ c.loop-more.invariant.gives;
  fits = omega (arith, c.max-in-loop-more.ensures, c.loop-more.invariant.fits, c.in_ok-body.ensures.fits);
}
