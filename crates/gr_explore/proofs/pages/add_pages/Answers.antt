use Rattle.std.proofs.Common.{refl}
use Rattle.gr_step.specs.Stores.{contents_at}
use Rattle.gr_explore.specs.Keeping.{names_of}
use Rattle.gr_explore.proofs.PageLemmas.{grown_again, grown_not, next_names}
use Rattle.gr_explore.proofs.pages.add_pages.Goals as goal

pub loop-name-init : goal.loop-name-init
loop-name-init g c = (refl, grown_not (g.N.Paged.code (contents_at c.args.store.now)) c.args.pages.now.items)

pub loop-name-preserved : goal.loop-name-preserved
loop-name-preserved g c = (
  next_names g.N.PartialEq.eq c.args.names.now c.loop-name.name-index c.name-item.result (names_of c.loop-name.pages.items) (names_of c.add_page.new.pages.items) _
      c.loop-name-test.true c.name-item.is c.in_ok-add_page.ensures.names c.loop-name.invariant.0,
  grown_again (g.N.Paged.code (contents_at c.args.store.now)) c.args.pages.now.items c.loop-name.pages.items c.add_page.new.pages.items c.loop-name.invariant.1
      c.in_ok-add_page.ensures.grown,
)
