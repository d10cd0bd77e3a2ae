use Rattle.std.proofs.Common.{◌≡◌, drop}
use Rattle.gr_step.specs.Choices.{fault_in}
use Rattle.gr_step.proofs.clauses.first_fault.Given as goal

abbrev pub invariant-loop-clause : goal.invariant-loop-clause
invariant-loop-clause l = fault_in (drop l.clause-index l.clauses) ≡ fault_in l.clauses
