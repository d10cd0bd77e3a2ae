use Rattle.std.proofs.Common.{◌∙◌, ap, []}
use Rattle.gr_tree.specs.Files as files
use Rattle.gr_exprs.specs.Signatures.{sign_of}
use Rattle.gr_exprs.specs.FunctionTables.{functions_of}
use Rattle.gr_types.specs.Outlines.{headings_in}
use Rattle.gr_types.specs.OutlineViews.{outline_of, outlines_of}
use Rattle.gr_types.proofs.Outlining.{heading_on, heading_over, headings_end, outlines_push}
use Rattle.gr_types.proofs.outlines.headings.Goals as goal

pub returns-in-Err : goal.returns-in-Err
returns-in-Err c =
    let l = c.loop-func in
    let f = c.func-item.result in
    rw c.refused.ensures (heading_over c.args.funcs.now l.func-index (functions_of l.functions) (outlines_of l.outlines.items) (headings_in [] [] (files.functions_of c.args.funcs.now)) l.invariant f c.in-Err.fault f.place c.loop-func-test.true c.func-item.is c.in-Err.ensures)

pub loop-func-preserved : goal.loop-func-preserved
loop-func-preserved c =
    let l = c.loop-func in
    let h = c.in-Ok.headed in
    heading_on c.args.funcs.now l.func-index (functions_of l.functions) (outlines_of l.outlines.items) (headings_in [] [] (files.functions_of c.args.funcs.now)) l.invariant c.func-item.result (sign_of h.0, outline_of h.1) (functions_of c.in_ok-functions.functions) (outlines_of c.push.new.self.items) c.loop-func-test.true c.func-item.is c.in-Ok.ensures c.in_ok-functions.ensures
    (ap outlines_of c.in_ok-push.ensures.items ∙ outlines_push l.outlines.items h.1)

pub returns : goal.returns
returns c =
    let l = c.loop-func in
    headings_end c.args.funcs.now l.func-index (functions_of l.functions) (outlines_of l.outlines.items) (headings_in [] [] (files.functions_of c.args.funcs.now)) l.invariant c.loop-func-test.false
