use Rattle.std.proofs.Common.{◌≡◌, drop}
use Rattle.gr_causal.specs.Dependence.{hits}
use Rattle.gr_causal.specs.Mailboxes.{clash}
use Rattle.gr_causal.proofs.mailboxes.depends_on.Given as goal

abbrev pub invariant-loop-other : goal.invariant-loop-other
invariant-loop-other l = hits clash l.earlier l.event ≡ hits clash (drop l.other-index l.earlier) l.event
