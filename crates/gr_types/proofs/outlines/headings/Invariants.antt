use Rattle.std.proofs.Common.{◌≡◌, [], drop}
use Rattle.gr_tree.specs.Files as files
use Rattle.gr_exprs.specs.FunctionTables.{functions_of}
use Rattle.gr_types.specs.Outlines.{headings_in}
use Rattle.gr_types.specs.OutlineViews.{outlines_of}
use Rattle.gr_types.proofs.outlines.headings.Given as goal

abbrev pub invariant-loop-func : goal.invariant-loop-func
invariant-loop-func l =
    headings_in (functions_of l.functions) (outlines_of l.outlines.items) (files.functions_of (drop l.func-index l.funcs)) ≡ headings_in [] [] (files.functions_of l.funcs)
