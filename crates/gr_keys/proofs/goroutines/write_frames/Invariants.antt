use Rattle.std.proofs.Common.{◌≡◌, ◌++◌, drop}
use Rattle.gr_keys.specs.Codes.{list_code}
use Rattle.gr_keys.specs.GoroutineCodes.{frame_code}
use Rattle.gr_keys.proofs.goroutines.write_frames.Given as goal

abbrev pub invariant-loop-number : goal.invariant-loop-number
invariant-loop-number l = l.bytes.items ++ list_code frame_code (drop l.number l.goroutine.content.frames) ≡ l.fn.bytes.items ++ list_code frame_code l.goroutine.content.frames
