use Rattle.std.proofs.Common.{◌∙◌, ap, sym, arith, length}
use Rattle.std.proofs.lemmas.Result.{err_from_is_err_and}
use Rattle.std.specs.Vec.Iter.{into_iter_items}
use Rattle.gr_exprs.specs.FunctionTables as tables
use Rattle.gr_types.specs.Outlines.{finished_all}
use Rattle.gr_types.specs.OutlineViews.{outlines_of}
use Rattle.gr_types.proofs.Outlining.{body_on, body_over, bodies_end}
use Rattle.gr_types.proofs.bodies.bodies.Goals as goal

pub returns-in_err-finish : goal.returns-in_err-finish
returns-in_err-finish c =
    let fs = tables.functions_of c.args.functions.now in
    let l = c.loop-outline in
    let so_far = l.invariant.0 ∙ ap (λ os. finished_all fs (outlines_of os)) c.into_iter-outline-iterator.ensures.into_iter_gives.0 in
    let p = err_from_is_err_and c.from_residual.result c.from_residual.ensures.1 in
    rw (p.1, p.2) (body_over fs (into_iter_items l.outline-iterator) l.finished.items (finished_all fs (outlines_of c.args.outlines.items)) so_far c.in-Some.outline (into_iter_items c.next.new.self) c.in_err-finish.field-0.0 c.in-Some.ensures.steps.0 c.in_err-finish.ensures.value)

pub loop-outline-preserved : goal.loop-outline-preserved
loop-outline-preserved c =
    let fs = tables.functions_of c.args.functions.now in
    let l = c.loop-outline in
    let steps = c.in-Some.ensures.steps in (
      body_on fs (into_iter_items l.outline-iterator) l.finished.items (finished_all fs (outlines_of (into_iter_items c.into_iter-outline-iterator.result))) l.invariant.0 c.in-Some.outline (into_iter_items c.next.new.self) c.in_ok-finish.field-0 c.push.new.self.items steps.0 c.in_ok-finish.ensures.value c.in_ok-push.ensures.items,
      let was = l.invariant.1 in
          let gone = steps.1 in
          let short = ap length steps.0 in
          omega arith,
    )

pub returns : goal.returns
returns c =
    let fs = tables.functions_of c.args.functions.now in
    let l = c.loop-outline in
    let so_far = l.invariant.0 ∙ ap (λ os. finished_all fs (outlines_of os)) c.into_iter-outline-iterator.ensures.into_iter_gives.0 in
    bodies_end fs (into_iter_items l.outline-iterator) l.finished.items (finished_all fs (outlines_of c.args.outlines.items)) so_far (sym l.invariant.1 ∙ c.in-None.ensures.steps.0)
