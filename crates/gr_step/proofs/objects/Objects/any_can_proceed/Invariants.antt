use Rattle.std.proofs.Common.{◌≡◌, drop}
use Rattle.std.specs.List.{list_any}
use Rattle.gr_refine.specs.Partners.{can_proceed}
use Rattle.gr_goros.specs.Views.{communications_of}
use Rattle.gr_step.specs.Objects.{contents_in}
use Rattle.gr_step.proofs.objects.Objects.any_can_proceed.Given as goal

abbrev pub invariant-loop-clause : goal.invariant-loop-clause
invariant-loop-clause l =
    list_any (can_proceed (contents_in l.self)) (communications_of (drop l.clause-index l.clauses))
    ≡ list_any (can_proceed (contents_in l.self)) (communications_of l.clauses)
