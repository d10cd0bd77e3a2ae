use Rattle.std.proofs.Common.{sym}
use Rattle.gr_keys.specs.GoroutineCodes.{frame_code}
use Rattle.gr_keys.proofs.Writing.{next_got, end_got, on_ok}
use Rattle.gr_keys.proofs.goroutines.write_frames.Goals as goal

pub returns-in_default : goal.returns-in_default
returns-in_default c =
    on_ok c.write_byte.result (end_got frame_code c.args.goroutine.now.content.frames c.loop-number.number c.loop-number.bytes.items _ c.loop-number.invariant c.write_byte.new.bytes.items
    (sym c.in_default.ensures)) c.write_byte.ensures

pub loop-number-preserved : goal.loop-number-preserved
loop-number-preserved c =
    next_got frame_code c.args.goroutine.now.content.frames c.loop-number.number c.loop-number.bytes.items _ c.loop-number.invariant c.in-Some.frame.now
    c.write_byte-in-loop-number.new.bytes.items c.write.new.bytes.items (sym c.in-Some.ensures) c.in_ok-write_byte.ensures c.in_ok-write.ensures
