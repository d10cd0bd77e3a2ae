use Rattle.std.proofs.Common.{◌≡◌, drop}
use Rattle.gr_facts.specs.Facts.{first_gate}
use Rattle.gr_facts.proofs.reaching.gate_in.Given as goal

abbrev pub invariant-loop-object : goal.invariant-loop-object
invariant-loop-object l = first_gate (drop l.object-index l.objects) ≡ first_gate l.objects
