use Rattle.std.proofs.Common.{◌≡◌, ◌++◌, drop, map}
use Rattle.gr_program.specs.TypeViews.{declared_of}
use Rattle.gr_rules.specs.Tells.{holding}
use Rattle.gr_command.specs.Replies.{variable_in}
use Rattle.gr_queries.proofs.showing.variables_shown.Given as goal

abbrev pub invariant-loop-number : goal.invariant-loop-number
invariant-loop-number l =
    map variable_in l.shown.items ++ holding (drop l.number (declared_of l.variables)) (drop l.number l.cells)
    ≡ holding (declared_of l.variables) l.cells
