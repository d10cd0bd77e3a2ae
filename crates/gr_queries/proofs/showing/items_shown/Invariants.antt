use Rattle.std.proofs.Common.{◌≡◌, ◌-◌, length, take, vec_len}
use Rattle.gr_queries.proofs.showing.items_shown.Given as goal

abbrev pub invariant-loop-item : goal.invariant-loop-item
invariant-loop-item l = l.items.items ≡ take (vec_len l.items) l.channel.content.items

abbrev pub decreases-loop-item : goal.decreases-loop-item
decreases-loop-item l = length l.channel.content.items - vec_len l.items
