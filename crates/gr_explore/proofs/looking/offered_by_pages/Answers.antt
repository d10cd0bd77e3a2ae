use Rattle.std.proofs.Common.{◌++◌, ◌∙◌, ap, sym, subst}
use Rattle.gr_step.specs.Stores.{program_at, state_at, IsRun}
use Rattle.gr_schedules.specs.Choices.{all_choices}
use Rattle.gr_explore.specs.Keeping.{names_of}
use Rattle.gr_explore.proofs.OfferLemmas.{all_offered_by, named_by_pages, runs}
use Rattle.gr_explore.proofs.looking.offered_by_pages.Goals as goal

pub push_page_offers-requires : goal.push_page_offers-requires
push_page_offers-requires c = subst IsRun (sym c.store.ensures) (runs c.args.machine.now c.requires.machine)

pub returns-clause-offered : goal.returns-clause-offered
returns-clause-offered c = record {
  names = names_of c.args.book.now.goroutines.written.items;
  each =
      c.in_ok-push_page_offers.ensures ∙ ap (λ xs. xs ++ all_choices (program_at c.store.result.now) (state_at c.store.result.now) (names_of c.as_slice-pages.result.now)) c.new-events.ensures.items
      ∙ ap (λ store. all_choices (program_at store) (state_at store) (names_of c.as_slice-pages.result.now)) c.store.ensures
      ∙ ap (λ pages. all_choices (program_at (c.args.machine.now.course.store)) (state_at (c.args.machine.now.course.store)) (names_of pages)) c.as_slice-pages.ensures.value;
}

pub returns-clause-all : goal.returns-clause-all
returns-clause-all c base =
    all_offered_by c.args.machine.now base c.requires.machine (names_of c.args.book.now.goroutines.written.items)
    (named_by_pages c.args.machine.now c.args.book.now c.requires.fits c.requires.none) _
    (c.in_ok-push_page_offers.ensures ∙ ap (λ xs. xs ++ all_choices (program_at c.store.result.now) (state_at c.store.result.now) (names_of c.as_slice-pages.result.now)) c.new-events.ensures.items
    ∙ ap (λ store. all_choices (program_at store) (state_at store) (names_of c.as_slice-pages.result.now)) c.store.ensures
    ∙ ap (λ pages. all_choices (program_at (c.args.machine.now.course.store)) (state_at (c.args.machine.now.course.store)) (names_of pages)) c.as_slice-pages.ensures.value)
