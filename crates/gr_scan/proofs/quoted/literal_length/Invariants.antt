use Rattle.std.proofs.Common.{◌≡◌, drop}
use Rattle.gr_scan.specs.Faults.{text_fault, wrong_in}
use Rattle.gr_scan.specs.Scanning.{end_after, text_end}
use Rattle.gr_scan.proofs.quoted.literal_length.Given as goal

abbrev pub invariant-loop-i : goal.invariant-loop-i
invariant-loop-i l = record {
  ends : end_after l.i l.escape (drop l.i l.text) ≡ text_end l.text;
  wrong : wrong_in l.at l.escape (drop l.i l.text) ≡ text_fault l.at l.text;
}
