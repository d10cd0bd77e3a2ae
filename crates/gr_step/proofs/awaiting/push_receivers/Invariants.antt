use Rattle.std.proofs.Common.{◌≡◌, ◌++◌, map, drop}
use Rattle.gr_step.proofs.awaiting.push_receivers.Given as goal

abbrev pub invariant-loop-place : goal.invariant-loop-place
invariant-loop-place l =
    l.names.items ++ map (λ w. w.go) (drop l.place l.channel.content.receivers) ≡ l.fn.names.items ++ map (λ w. w.go) l.channel.content.receivers
