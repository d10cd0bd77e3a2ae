use Rattle.std.proofs.Common.{◌≡◌, ◌++◌, drop}
use Rattle.gr_facts.specs.Facts.{others_in}
use Rattle.gr_facts.proofs.reaching.add_others.Given as goal

abbrev pub invariant-loop-object : goal.invariant-loop-object
invariant-loop-object l = l.names.items ++ others_in l.own (drop l.object-index l.objects) ≡ l.initial.names.items ++ others_in l.own l.objects
