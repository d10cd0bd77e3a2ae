use Rattle.std.proofs.Common.{◌≡◌, ◌<◌, ◌^◌, drop, is_some}
use Rattle.gr_base.specs.Names.{counts_from}
use Rattle.gr_base.proofs.read.spells_counts.Given as goal

-- the bytes that are left decide
abbrev pub invariant-loop-byte : goal.invariant-loop-byte
invariant-loop-byte l = record {
  goes_on : is_some (counts_from 0 l.text) ≡ is_some (counts_from l.count (drop l.byte-index l.text));
  range : l.count < 2 ^ 32;
}
