use Rattle.std.proofs.Common.{◌≡◌, ◌-◌, length, take, vec_len}
use Rattle.gr_queries.proofs.showing.senders_shown.Given as goal

abbrev pub invariant-loop-waiter : goal.invariant-loop-waiter
invariant-loop-waiter l = l.senders.items ≡ take (vec_len l.senders) l.channel.content.senders

abbrev pub decreases-loop-waiter : goal.decreases-loop-waiter
decreases-loop-waiter l = length l.channel.content.senders - vec_len l.senders
