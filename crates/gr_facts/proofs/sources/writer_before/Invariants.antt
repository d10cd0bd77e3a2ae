use Rattle.std.proofs.Common.{◌≤◌, length}
use Rattle.gr_depend.specs.Logs.{records_of}
use Rattle.gr_facts.proofs.WriterLemmas.{AreBefore, Covers}
use Rattle.gr_facts.proofs.sources.writer_before.Given as goal

abbrev pub invariant-loop-left : goal.invariant-loop-left
invariant-loop-left l = record {
  within : l.left ≤ length l.touches;
  covers : Covers (records_of l.log) l.object l.touches l.fn.place l.left;
  before : AreBefore l.touches l.fn.place l.left;
}

abbrev pub decreases-loop-left : goal.decreases-loop-left
decreases-loop-left l = l.left
