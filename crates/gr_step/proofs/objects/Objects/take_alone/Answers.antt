use Rattle.std.proofs.Common.{rules}
use Rattle.gr_record.specs.Listings.{program_in}
use Rattle.gr_step.proofs.EventLemmas.{others_refused, plain_goes, local_leaves_none}
use Rattle.gr_step.proofs.objects.Objects.take_alone.Goals as goal

pub returns-in_default-clause-why : goal.returns-in_default-clause-why
returns-in_default-clause-why c =
    let a = c.requires.may.acting in
    others_refused (program_in c.args.turn.now.listing.now) c.args.turn.now.event.now c.args.turn.now.number c.args.self.now a
    (local_leaves_none (program_in c.args.turn.now.listing.now) c.args.turn.now.event.now c.args.turn.now.number c.args.self.now a (c.requires.task a.goroutine a.there))
    c.in_default.not-Plain

pub returns-in_err-local-clause-why : goal.returns-in_err-local-clause-why
returns-in_err-local-clause-why c =
    let a = c.requires.may.acting in
    let possible = plain_goes (program_in c.args.turn.now.listing.now) c.args.turn.now.event.now c.args.turn.now.number c.args.self.now a
    (local_leaves_none (program_in c.args.turn.now.listing.now) c.args.turn.now.event.now c.args.turn.now.number c.args.self.now a (c.requires.task a.goroutine a.there))
    c.in-Plain.is in
    search (rules, possible)
