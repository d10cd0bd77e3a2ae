use Rattle.std.proofs.Common.{◌≡◌, ◌++◌, length}
use Rattle.std.specs.Prelude.{Some}
use Rattle.std.specs.Vec.Iter.{into_iter_items, into_iter_len}
use Rattle.gr_exprs.specs.FunctionTables as tables
use Rattle.gr_program.specs.Views.{functions_of}
use Rattle.gr_exprs.specs.Finding.{◌>>=◌}
use Rattle.gr_types.specs.Outlines.{finished_all}
use Rattle.gr_types.specs.OutlineViews.{outlines_of}
use Rattle.gr_types.proofs.bodies.bodies.Given as goal

abbrev pub invariant-loop-outline : goal.invariant-loop-outline
invariant-loop-outline l =
    ((finished_all (tables.functions_of l.functions) (outlines_of (into_iter_items l.outline-iterator)) >>= λ rest. Some (functions_of l.finished.items ++ rest)) ≡ finished_all (tables.functions_of l.functions) (outlines_of (into_iter_items l.initial.outline-iterator)))
    × (into_iter_len l.outline-iterator ≡ length (into_iter_items l.outline-iterator))
