use Rattle.std.proofs.Common.{◌≡◌, ◌+◌, ◌++◌, drop}
use Rattle.gr_goros.specs.Views.{communications_of}
use Rattle.gr_step.specs.Choices.{ready_from}
use Rattle.gr_step.specs.Objects.{contents_in}
use Rattle.gr_step.proofs.objects.Objects.ready_numbers.Given as goal

abbrev pub invariant-loop-place : goal.invariant-loop-place
invariant-loop-place l =
    l.numbers.items ++ ready_from (contents_in l.self) (l.place + 1) (communications_of (drop l.place l.clauses))
    ≡ ready_from (contents_in l.self) 1 (communications_of l.clauses)
