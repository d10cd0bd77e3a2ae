use Rattle.std.proofs.Common.{◌≡◌, ◌++◌, drop}
use Rattle.gr_keys.specs.Codes.{list_code}
use Rattle.gr_keys.proofs.lists.write_list.Given as goal

abbrev pub invariant-loop-item : goal.invariant-loop-item
invariant-loop-item g l = l.bytes.items ++ list_code g.T.Coded.code (drop l.item-index l.items) ≡ l.fn.bytes.items ++ list_code g.T.Coded.code l.items
