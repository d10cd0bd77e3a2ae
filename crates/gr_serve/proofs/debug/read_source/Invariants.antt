use Rattle.std.proofs.Common.{◌≡◌, ◌+◌, ◌≤◌, length}
use Rattle.std.specs.Io.KnownBytes.{Consumes}
use Rattle.gr_scan.specs.declared.scan.TheConstants.{TEXT_LIMIT}
use Rattle.gr_lines.specs.Devices.{device_of, failures_of, left_of}
use Rattle.gr_serve.specs.declared.debug.TheConstants.{BLOCK}
use Rattle.gr_serve.proofs.debug.read_source.Given as goal

abbrev pub invariant-loop-block : goal.invariant-loop-block
invariant-loop-block g l = record {
  taken : Consumes (g.S.Read.remaining (device_of l.fn.source)) (g.S.Read.remaining (device_of l.source)) l.text.items;
  same : failures_of l.source ≡ failures_of l.fn.source;
  room : length l.block ≡ BLOCK;
  bound : length l.text.items ≤ TEXT_LIMIT + BLOCK;
}

abbrev pub decreases-loop-block : goal.decreases-loop-block
decreases-loop-block g l = left_of l.source
