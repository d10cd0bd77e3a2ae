use Rattle.std.proofs.lemmas.Result.{IfOk-weaker}
use Rattle.gr_goros.specs.Views.{communications_of}
use Rattle.gr_record.specs.Listings.{frame_in, program_in}
use Rattle.gr_step.specs.Objects.{contents_in}
use Rattle.gr_step.proofs.PlaceLemmas.{counted_there}
use Rattle.gr_step.proofs.SelectLemmas.{value_fault_takes}
use Rattle.gr_step.proofs.objects.Objects.fail_at_select.Goals as goal

pub fault-requires : goal.fault-requires
fault-requires c = counted_there (program_in c.args.turn.now.listing.now) c.args.turn.now.event.now c.args.turn.now.number c.args.self.now c.requires.acting

pub returns-clause-ok : goal.returns-clause-ok
returns-clause-ok c =
    let acting = c.requires.acting in
    let p = program_in c.args.turn.now.listing.now in
    IfOk-weaker c.fault.result _ _ (λ change is.
    value_fault_takes p c.args.turn.now.event.now c.args.turn.now.number c.args.self.now acting (communications_of c.args.clauses.now) c.args.fault
    c.in_ok-reads.reads.items change (contents_in c.fault.new.self) (c.requires.looks acting.goroutine acting.there)
    (c.requires.step acting.goroutine acting.there) (c.in_ok-reads.ensures (frame_in p))
    (is c.args.turn.now.event.now.go acting.goroutine acting.named acting.there)) c.fault.ensures.ok
