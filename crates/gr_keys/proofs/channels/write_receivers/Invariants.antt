use Rattle.std.proofs.Common.{◌≡◌, ◌++◌, drop}
use Rattle.gr_keys.specs.Codes.{list_code}
use Rattle.gr_keys.specs.GoroutineCodes.{receiver_code}
use Rattle.gr_keys.proofs.channels.write_receivers.Given as goal

abbrev pub invariant-loop-place : goal.invariant-loop-place
invariant-loop-place l = l.bytes.items ++ list_code receiver_code (drop l.place l.channel.content.receivers) ≡ l.fn.bytes.items ++ list_code receiver_code l.channel.content.receivers
