use Rattle.std.proofs.Common.{◌≡◌, length, map, take, vec_len, vec_capacity}
use Rattle.serde_json.specs.View.{view}
use Rattle.gr_json.proofs.parts.list.Given as goal

abbrev pub invariant-loop-item : goal.invariant-loop-item
invariant-loop-item g l =
    (map view l.values.items ≡ map g.T.Told.told (take l.item-index l.items))
    × (vec_len l.values ≡ l.item-index)
    × (vec_capacity l.values ≡ length l.items)
