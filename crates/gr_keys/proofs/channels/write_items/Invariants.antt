use Rattle.std.proofs.Common.{◌≡◌, ◌++◌, drop}
use Rattle.gr_keys.specs.Codes.{list_code}
use Rattle.gr_keys.specs.ValueCodes.{value_code}
use Rattle.gr_keys.proofs.channels.write_items.Given as goal

abbrev pub invariant-loop-place : goal.invariant-loop-place
invariant-loop-place l = l.bytes.items ++ list_code value_code (drop l.place l.channel.content.items) ≡ l.fn.bytes.items ++ list_code value_code l.channel.content.items
