use Rattle.std.proofs.Common.{◌≡◌, ◌++◌, replicate}
use Rattle.gr_lower.proofs.placing.mark.Given as goal

abbrev pub invariant-loop : goal.invariant-loop
invariant-loop l = l.lines.items ≡ l.initial.lines.items ++ replicate l.counter l.line
