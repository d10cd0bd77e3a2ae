use Rattle.std.proofs.Common.{◌∙◌, ap}
use Rattle.gr_step.specs.Stores.{contents_at}
use Rattle.gr_explore.specs.Keeping.{names_of, with_names}
use Rattle.gr_explore.proofs.PageLemmas.{renewed_names}
use Rattle.gr_explore.proofs.pages.Pages.renew.Goals as goal

pub returns-clause-names : goal.returns-clause-names
returns-clause-names g c =
    let equal = g.N.PartialEq.eq in
    c.in_ok-add_pages.ensures.names ∙ ap (λ ns. with_names equal ns (names_of c.in_ok-written.written.items)) c.deref-2.ensures.value
    ∙ ap (with_names equal c.args.self.now.changed.items)
    (renewed_names equal (g.N.Paged.code (contents_at c.args.store.now)) c.deref.result.now c.replace-old.result.items c.in_ok-written.written.items c.in_ok-written.ensures
    ∙ ap (λ v. names_of v.items) c.replace-old.ensures.value)
