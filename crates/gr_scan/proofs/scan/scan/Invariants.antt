use Rattle.std.proofs.Common.{◌≡◌, ◌+◌, ◌≤◌, length}
use Rattle.gr_scan.specs.Tokens.{tokens_of}
use Rattle.gr_scan.specs.declared.scan.TheConstants.{TEXT_LIMIT}
use Rattle.gr_scan.proofs.Goes.{Goes}
use Rattle.gr_scan.proofs.FirstFaults.{Leads}
use Rattle.gr_scan.proofs.scan.scan.Given as goal

abbrev pub invariant-loop-rest : goal.invariant-loop-rest
invariant-loop-rest l = record {
  goes : Goes l.fn.text (tokens_of l.tokens.items) l.wanted l.start l.line l.rest;
  place : l.start + length l.rest ≡ length l.fn.text;
  lines : l.line ≤ l.start + 1;
  short : length l.fn.text ≤ TEXT_LIMIT;
  leads : Leads l.fn.text l.start l.rest;
}

abbrev pub decreases-loop-rest : goal.decreases-loop-rest
decreases-loop-rest l = length l.rest
