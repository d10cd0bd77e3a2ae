use Rattle.std.proofs.Common.{◌≡◌, length, take, vec_len, vec_capacity}
use Rattle.gr_command.proofs.step_list.copied.Given as goal

-- the copies so far are the first names, and there is room for all
abbrev pub invariant-loop-id : goal.invariant-loop-id
invariant-loop-id l = (l.copies.items ≡ take l.id-index l.ids) × (vec_len l.copies ≡ l.id-index) × (vec_capacity l.copies ≡ length l.ids)
