use Rattle.std.proofs.Common.{◌≡◌, ◌++◌, take}
use Rattle.gr_touches.specs.Told.{count_in, seen_in}
use Rattle.gr_depend.specs.Logs.{records_of}
use Rattle.gr_facts.specs.Facts.{sources_of}
use Rattle.gr_facts.specs.Recorded.{writer_in}
use Rattle.gr_facts.proofs.sources.add_sources.Given as goal

abbrev pub invariant-loop-first : goal.invariant-loop-first
invariant-loop-first l =
    let told = sources_of l.wrote (writer_in (take l.place (records_of l.log))) in
    l.sources.items ++ told (seen_in l.left) ≡ l.initial.sources.items ++ told (seen_in l.initial.left)

abbrev pub decreases-loop-first : goal.decreases-loop-first
decreases-loop-first l = count_in l.left
