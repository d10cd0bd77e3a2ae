use Rattle.std.proofs.Common.{◌≡◌, drop}
use Rattle.gr_step.specs.Stores.{contents_at}
use Rattle.gr_explore.specs.Keeping.{IsGrown, names_of, with_names}
use Rattle.gr_explore.proofs.pages.add_pages.Given as goal

abbrev pub invariant-loop-name : goal.invariant-loop-name
invariant-loop-name g l =
    (with_names g.N.PartialEq.eq (drop l.name-index l.names) (names_of l.pages.items) ≡ with_names g.N.PartialEq.eq l.names (names_of l.fn.pages.items))
    × IsGrown (g.N.Paged.code (contents_at l.store)) l.fn.pages.items l.pages.items
