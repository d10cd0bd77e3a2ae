use Rattle.std.proofs.Common.{◌≡◌, ◌++◌, drop}
use Rattle.gr_rules.specs.Actors.{channels_but}
use Rattle.gr_goros.specs.Views.{waits_of}
use Rattle.gr_step.proofs.channels_named.channels_but.Given as goal

abbrev pub invariant-loop-wait : goal.invariant-loop-wait
invariant-loop-wait l =
    l.names.items ++ channels_but (l.names.items ++ l.seen) (waits_of (drop l.wait-index l.waits)) ≡ channels_but l.seen (waits_of l.waits)
