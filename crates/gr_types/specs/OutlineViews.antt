-- Outlines of functions in the code, without where they lie in memory.
use Rattle.std.specs.Prelude.{List, [], ◌∷◌}
use Rattle.gr_tree.specs.Files.{function_of}
use Rattle.gr_tree.specs.Statements.{optional}
use Rattle.gr_types.specs.declared.parameters.Parameters as code_parameters
use Rattle.gr_types.specs.declared.outlines.Outline as code_outline
use Rattle.gr_program.specs.TypeViews.{ty_of, types_of}
use Rattle.gr_exprs.specs.Tables.{scope_of}
use Rattle.gr_program.specs.Views.{parameters_of}
use Rattle.gr_types.specs.Outlines.{Taken, Outline, OutlineOf}

abbrev pub taken_of : code_parameters.Parameters → Taken
taken_of p = (types_of p.types.items, (parameters_of p.parameters.items, scope_of p.scope))

abbrev pub outline_of : code_outline.Outline → Outline
outline_of o = OutlineOf (function_of o.func.now) (parameters_of o.parameters.items) (optional ty_of o.result) (scope_of o.scope)

abbrev pub outlines_of : List code_outline.Outline → List Outline
outlines_of [] = []
outlines_of (o ∷ os) = outline_of o ∷ outlines_of os
