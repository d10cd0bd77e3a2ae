use Rattle.std.proofs.Common.{◌≡◌, drop}
use Rattle.gr_explore.specs.Keeping.{has_name, names_of}
use Rattle.gr_explore.proofs.pages.has_page.Given as goal

abbrev pub invariant-loop-page : goal.invariant-loop-page
invariant-loop-page g l = has_name g.N.PartialEq.eq l.name (names_of (drop l.page-index l.pages)) ≡ has_name g.N.PartialEq.eq l.name (names_of l.pages)
