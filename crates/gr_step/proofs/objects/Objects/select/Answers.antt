use Rattle.std.proofs.Common.{refl}
use Rattle.gr_goros.specs.Views.{communications_of}
use Rattle.gr_record.specs.Listings.{program_in}
use Rattle.gr_step.proofs.SelectLemmas.{plain_is_none}
use Rattle.gr_step.proofs.objects.Objects.select.Goals as goal

pub returns-in-Plain-clause-taken : goal.returns-in-Plain-clause-taken
returns-in-Plain-clause-taken c =
    let p = program_in c.args.turn.now.listing.now in
    let e = c.args.turn.now.event.now in
    let acting = c.requires.may.acting in
    let ws = communications_of c.args.clauses.items in
    let task = c.requires.task acting.goroutine acting.there in
    (refl, plain_is_none p e c.args.turn.now.number c.args.self.now acting ws task c.in-Plain.is)
