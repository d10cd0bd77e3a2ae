use Rattle.std.proofs.Common.{◌≡◌, length}
use Rattle.std.specs.Io.KnownBytes.{Consumes}
use Rattle.gr_lines.specs.Devices.{device_of, failures_of, left_of}
use Rattle.rewind.specs.declared.searching.TheConstants.{BLOCK}
use Rattle.rewind.proofs.searching.read_script.Given as goal

abbrev pub invariant-loop-count : goal.invariant-loop-count
invariant-loop-count g l = record {
  taken : Consumes (g.R.Read.remaining (device_of l.fn.script)) (g.R.Read.remaining (device_of l.script)) l.text.items;
  same : failures_of l.script ≡ failures_of l.fn.script;
  room : length l.block ≡ BLOCK;
}

abbrev pub decreases-loop-count : goal.decreases-loop-count
decreases-loop-count g l = left_of l.script
