use Rattle.std.proofs.Common.{◌≡◌, ◌++◌, ◌<◌, ◌^◌, drop, option_map}
use Rattle.gr_base.specs.Counts.{IsGoName}
use Rattle.gr_base.specs.Names.{counts_from}
use Rattle.gr_base.proofs.read.read_counts.Given as goal

-- the reading goes on with the bytes that are left, behind the counts so far
abbrev pub invariant-loop-byte : goal.invariant-loop-byte
invariant-loop-byte l = record {
  goes_on : counts_from 0 l.text ≡ option_map (λ more. l.counts.items ++ more) (counts_from l.count (drop l.byte-index l.text));
  valid : IsGoName l.counts.items;
  range : l.count < 2 ^ 32;
}
