-- What is around a statement, without where it lies in memory.
use Rattle.std.specs.Prelude.{List, [], ◌∷◌}
use Rattle.gr_tree.specs.Statements.{optional}
use Rattle.gr_types.specs.declared.context.Around as code_around
use Rattle.gr_types.specs.declared.context.Around.TheVariants as arounds
use Rattle.gr_types.specs.declared.context.Nest as code_nest
use Rattle.gr_types.specs.declared.context.Nest.TheVariants as nests
use Rattle.gr_types.specs.declared.context.Context as code_context
use Rattle.gr_program.specs.TypeViews.{ty_of}
use Rattle.gr_exprs.specs.FunctionTables.{functions_of}
use Rattle.gr_typing.specs.Contexts.{Around, Loop, Choice, Context, Within}

abbrev pub around_of : code_around.Around → Around
around_of (arounds.Loop label) = Loop (optional (λ x. x.now) label)
around_of (arounds.Choice label) = Choice (optional (λ x. x.now) label)

abbrev pub nest_of : code_nest.Nest → List Around
nest_of nests.Outside = []
nest_of (nests.Inside' around p outer) = around_of around ∷ nest_of outer

abbrev pub context_of : code_context.Context → Context
context_of c = Within (functions_of c.functions.now) (optional ty_of c.result.now) (nest_of c.nest.now)
