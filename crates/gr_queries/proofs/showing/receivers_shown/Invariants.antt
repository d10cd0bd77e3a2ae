use Rattle.std.proofs.Common.{◌≡◌, ◌-◌, length, take, vec_len}
use Rattle.gr_queries.proofs.showing.receivers_shown.Given as goal

abbrev pub invariant-loop-waiter : goal.invariant-loop-waiter
invariant-loop-waiter l = l.receivers.items ≡ take (vec_len l.receivers) l.channel.content.receivers

abbrev pub decreases-loop-waiter : goal.decreases-loop-waiter
decreases-loop-waiter l = length l.channel.content.receivers - vec_len l.receivers
