use Rattle.std.proofs.Common.{◌≡◌, ◌++◌, drop}
use Rattle.std.specs.Prelude.{Some}
use Rattle.gr_tree.specs.Exprs.{trees_of}
use Rattle.gr_exprs.specs.Tables.{scope_of}
use Rattle.gr_exprs.specs.FunctionTables.{functions_of}
use Rattle.gr_program.specs.Views.{prints_of}
use Rattle.gr_exprs.specs.Finding.{◌>>=◌}
use Rattle.gr_types.specs.FindingStatements.{printed_in}
use Rattle.gr_types.proofs.expression_statements.print_all.Given as goal

abbrev pub invariant-loop-argument : goal.invariant-loop-argument
invariant-loop-argument l =
    (printed_in (functions_of l.functions) (scope_of l.scope) (trees_of (drop l.argument-index l.arguments)) >>= λ ps. Some (prints_of l.printed.items ++ ps)) ≡ printed_in (functions_of l.functions) (scope_of l.scope) (trees_of l.arguments)
