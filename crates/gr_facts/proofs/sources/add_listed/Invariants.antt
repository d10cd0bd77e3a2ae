use Rattle.std.proofs.Common.{◌≡◌, ◌++◌, drop, take}
use Rattle.gr_depend.specs.Logs.{records_of}
use Rattle.gr_facts.specs.Facts.{sources_of}
use Rattle.gr_facts.specs.Recorded.{writer_in}
use Rattle.gr_facts.proofs.sources.add_listed.Given as goal

abbrev pub invariant-loop-object : goal.invariant-loop-object
invariant-loop-object l =
    let told = sources_of l.wrote (writer_in (take l.place (records_of l.log))) in
    l.sources.items ++ told (drop l.object-index l.objects) ≡ l.initial.sources.items ++ told l.objects
