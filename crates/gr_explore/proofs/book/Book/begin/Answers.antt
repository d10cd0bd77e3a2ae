use Rattle.std.proofs.Common.{◌∙◌, [], ◌∷◌, ap, subst}
use Rattle.std.specs.List.Sorted.{IsPermutation}
use Rattle.gr_depend.specs.Logs.{records_of}
use Rattle.gr_schedules.specs.Names.{channels_made, goroutines_begun}
use Rattle.gr_explore.proofs.OfferLemmas.{begun}
use Rattle.gr_explore.proofs.book.Book.begin.Goals as goal

pub returns-clause-is : goal.returns-clause-is
returns-clause-is c =
    begun c.args.machine.now c.requires _ c.in_ok-goroutines.goroutines.items c.in_ok-channels.channels.items
    (subst (λ rs. IsPermutation ([] ∷ goroutines_begun rs) c.in_ok-goroutines.goroutines.items) (c.as_slice.ensures ∙ ap records_of c.log.ensures) c.in_ok-goroutines.ensures)
    (subst (λ rs. IsPermutation (channels_made rs) c.in_ok-channels.channels.items) (c.as_slice-2.ensures ∙ ap records_of c.log-2.ensures) c.in_ok-channels.ensures)
    c.unwritten.ensures.written c.unwritten.ensures.changed c.unwritten-2.ensures.written c.unwritten-2.ensures.changed
