use Rattle.std.proofs.Common.{◌∙◌, ap, subst, sym}
use Rattle.gr_step.specs.Stores.{contents_at}
use Rattle.gr_explore.specs.Keeping.{IsGrown}
use Rattle.gr_explore.proofs.PageLemmas.{grown_by, grown_not}
use Rattle.gr_explore.proofs.pages.add_page.Goals as goal

pub returns-then-has_page-clause-grown : goal.returns-then-has_page-clause-grown
returns-then-has_page-clause-grown g c = grown_not (g.N.Paged.code (contents_at c.args.store.now)) c.args.pages.now.items

pub returns-clause-grown : goal.returns-clause-grown
returns-clause-grown g c =
    let code = g.N.Paged.code (contents_at c.args.store.now) in
    let old = c.args.pages.now.items in
    subst (IsGrown code old) (sym c.in_ok-push.ensures.items)
    (grown_by code old old c.in_ok-page_of.field-0 (grown_not code old) (c.in_ok-page_of.ensures.code ∙ ap code (sym c.in_ok-page_of.ensures.name)))
