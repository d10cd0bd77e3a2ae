use Rattle.std.proofs.Common.{sym}
use Rattle.gr_keys.specs.ValueCodes.{value_code}
use Rattle.gr_keys.proofs.Writing.{next_got, end_got, on_ok}
use Rattle.gr_keys.proofs.channels.write_items.Goals as goal

pub returns-in_default : goal.returns-in_default
returns-in_default c =
    on_ok c.write_byte.result (end_got value_code c.args.channel.now.content.items c.loop-place.place c.loop-place.bytes.items _ c.loop-place.invariant c.write_byte.new.bytes.items
    (sym c.in_default.ensures)) c.write_byte.ensures

pub loop-place-preserved : goal.loop-place-preserved
loop-place-preserved c =
    next_got value_code c.args.channel.now.content.items c.loop-place.place c.loop-place.bytes.items _ c.loop-place.invariant c.in-Some.item.now
    c.write_byte-in-loop-place.new.bytes.items c.write.new.bytes.items (sym c.in-Some.ensures) c.in_ok-write_byte.ensures c.in_ok-write.ensures
