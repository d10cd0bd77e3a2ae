use Rattle.std.proofs.Common.{◌≡◌, ◌≤◌, ◌+◌, length}
use Rattle.gr_command.specs.declared.read.TheConstants.{LINE_LIMIT}
use Rattle.gr_lines.specs.Bytes.{Part}
use Rattle.gr_lines.proofs.counted.read_line.Given as goal

abbrev pub invariant-loop-error : goal.invariant-loop-error
invariant-loop-error g l = record {
  part : Part (g.R.Read.remaining l.fn.reader.inner) (g.R.Read.remaining l.reader.inner) l.line.items;
  short : length l.line.items ≤ LINE_LIMIT + 1;
  same : l.reader.failures ≡ l.fn.reader.failures;
  left : l.reader.left ≤ l.fn.reader.left;
}

abbrev pub decreases-loop-error : goal.decreases-loop-error
decreases-loop-error g l = l.reader.left
