use Rattle.std.proofs.Common.{◌≡◌, ◌++◌, drop}
use Rattle.gr_rules.specs.Communications as rules
use Rattle.gr_goros.specs.Views.{waits_of}
use Rattle.gr_step.specs.Parks.{pending_of}
use Rattle.gr_step.proofs.queues.all_waits.Given as goal

abbrev pub invariant-loop-clause : goal.invariant-loop-clause
invariant-loop-clause l =
    waits_of l.waits.items ++ rules.all_waits (pending_of (drop l.clause-index l.pending)) ≡ rules.all_waits (pending_of l.pending)
