use Rattle.std.proofs.Common.{◌++◌, ◌∙◌, [], ◌∷◌, ap, sym, subst}
use Rattle.gr_step.specs.Stores.{program_at, state_at, IsRun}
use Rattle.gr_depend.specs.Logs.{records_of}
use Rattle.std.specs.List.Sorted.{IsPermutation}
use Rattle.gr_schedules.specs.Choices.{all_choices}
use Rattle.gr_schedules.specs.Names.{goroutines_begun}
use Rattle.gr_explore.proofs.OfferLemmas.{all_offered, runs}
use Rattle.gr_explore.proofs.looking.offered.Goals as goal

pub push_all_offers-requires : goal.push_all_offers-requires
push_all_offers-requires c = subst IsRun (sym c.store.ensures) (runs c.args.machine.now c.requires.machine)

pub returns-clause-offered : goal.returns-clause-offered
returns-clause-offered c = record {
  names = c.in_ok-names.names.items;
  each =
      c.in_ok-push_all_offers.ensures ∙ ap (λ xs. xs ++ all_choices (program_at c.store.result.now) (state_at c.store.result.now) c.as_slice-2.result.now) c.new-events.ensures.items
      ∙ ap (λ store. all_choices (program_at store) (state_at store) c.as_slice-2.result.now) c.store.ensures
      ∙ ap (λ names. all_choices (program_at (c.args.machine.now.course.store)) (state_at (c.args.machine.now.course.store)) names) c.as_slice-2.ensures.value;
}

pub returns-clause-all : goal.returns-clause-all
returns-clause-all c base =
    all_offered c.args.machine.now base c.requires.machine c.in_ok-names.names.items
    (subst (λ rs. IsPermutation ([] ∷ goroutines_begun rs) c.in_ok-names.names.items) (c.as_slice.ensures ∙ ap records_of c.log.ensures) c.in_ok-names.ensures) _
    (c.in_ok-push_all_offers.ensures ∙ ap (λ xs. xs ++ all_choices (program_at c.store.result.now) (state_at c.store.result.now) c.as_slice-2.result.now) c.new-events.ensures.items
    ∙ ap (λ store. all_choices (program_at store) (state_at store) c.as_slice-2.result.now) c.store.ensures
    ∙ ap (λ names. all_choices (program_at (c.args.machine.now.course.store)) (state_at (c.args.machine.now.course.store)) names) c.as_slice-2.ensures.value)
