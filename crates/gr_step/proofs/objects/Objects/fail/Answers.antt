use Rattle.gr_record.specs.Listings.{program_in}
use Rattle.gr_step.specs.Objects.{contents_in}
use Rattle.gr_step.proofs.PlaceLemmas.{counted_there}
use Rattle.gr_step.proofs.FaultLemmas.{operands_fault}
use Rattle.gr_tables.proofs.ByNumber.{if_ok}
use Rattle.gr_step.proofs.objects.Objects.fail.Goals as goal

pub plain_fault-requires : goal.plain_fault-requires
plain_fault-requires c = counted_there (program_in c.args.turn.now.listing.now) c.args.turn.now.event.now c.args.turn.now.number c.args.self.now c.requires.may.acting

pub returns-clause-ok : goal.returns-clause-ok
returns-clause-ok c =
    let acting = c.requires.may.acting in
    if_ok c.plain_fault.result _ _ (λ change h.
    operands_fault (program_in c.args.turn.now.listing.now) c.args.turn.now.event.now c.args.turn.now.number c.args.self.now acting c.args.fault change
    (contents_in c.plain_fault.new.self)
    c.requires.plain (c.requires.task acting.goroutine acting.there).1
    (h c.args.turn.now.event.now.go acting.goroutine acting.named acting.there))
    c.plain_fault.ensures.ok
