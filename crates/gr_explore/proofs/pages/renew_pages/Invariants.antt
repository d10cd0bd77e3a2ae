use Rattle.gr_step.specs.Stores.{contents_at}
use Rattle.gr_explore.specs.Keeping.{AreRenewed}
use Rattle.gr_explore.proofs.pages.renew_pages.Given as goal

abbrev pub invariant-loop-page : goal.invariant-loop-page
invariant-loop-page g l = AreRenewed g.N.PartialEq.eq (g.N.Paged.code (contents_at l.store)) l.changed l.yielded l.renewed.items
