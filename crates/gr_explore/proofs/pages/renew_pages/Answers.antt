use Rattle.std.proofs.Common.{◌++◌, ◌∷◌, [], subst, sym}
use Rattle.gr_step.specs.Stores.{contents_at}
use Rattle.gr_explore.specs.Keeping.{AreRenewed}
use Rattle.gr_explore.proofs.PageLemmas.{renewed_pushed}
use Rattle.gr_explore.proofs.pages.renew_pages.Goals as goal

pub loop-page-preserved : goal.loop-page-preserved
loop-page-preserved g c =
    let code = g.N.Paged.code (contents_at c.args.store.now) in
    subst (AreRenewed g.N.PartialEq.eq code c.args.changed.now (c.loop-page.yielded ++ c.in-Some.page ∷ [])) (sym c.in_ok-push.ensures.items)
    (renewed_pushed g.N.PartialEq.eq code c.args.changed.now c.loop-page.yielded c.loop-page.renewed.items c.in-Some.page c.in_ok-renew_page.field-0 c.loop-page.invariant
    c.in_ok-renew_page.ensures)
