use Rattle.std.proofs.Common.{◌≡◌, ◌++◌, drop}
use Rattle.gr_keys.specs.Codes.{list_code}
use Rattle.gr_keys.specs.GoroutineCodes.{sender_code}
use Rattle.gr_keys.proofs.channels.write_senders.Given as goal

abbrev pub invariant-loop-place : goal.invariant-loop-place
invariant-loop-place l = l.bytes.items ++ list_code sender_code (drop l.place l.channel.content.senders) ≡ l.fn.bytes.items ++ list_code sender_code l.channel.content.senders
