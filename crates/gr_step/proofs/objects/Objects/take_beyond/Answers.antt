use Rattle.std.proofs.Common.{sym, ap, ◌∙◌}
use Rattle.gr_code.specs.CodeViews.{program_code_of}
use Rattle.gr_record.specs.Listings.{program_in}
use Rattle.gr_step.proofs.EventLemmas.{found_right, found_sends, refused}
use Rattle.gr_step.proofs.PlaceLemmas.{acting_there}
use Rattle.gr_step.proofs.objects.Objects.take_beyond.Goals as goal

pub returns-then-not-allows-clause-why : goal.returns-then-not-allows-clause-why
returns-then-not-allows-clause-why c =
    refused (program_in c.args.turn.now.listing.now) c.args.turn.now.event.now c.args.turn.now.number c.args.self.now c.requires.may.acting (sym c.if-not-allows.ensures)

pub next_need-requires-clause-right : goal.next_need-requires-clause-right
next_need-requires-clause-right c =
    found_right (program_in c.args.turn.now.listing.now) c.args.turn.now.event.now c.args.turn.now.number c.args.self.now c.requires.may.acting _
    c.at-goroutine.result.now (ap program_code_of c.deref.ensures ∙ c.requires.may.coded) (sym c.at-goroutine.ensures.value)

pub next_need-requires-clause-sends : goal.next_need-requires-clause-sends
next_need-requires-clause-sends c =
    found_sends (program_in c.args.turn.now.listing.now) c.args.turn.now.event.now c.args.turn.now.number c.args.self.now c.requires.may.acting _
    c.at-goroutine.result.now (ap program_code_of c.deref.ensures ∙ c.requires.may.coded) (sym c.at-goroutine.ensures.value)

pub at-goroutine-requires : goal.at-goroutine-requires
at-goroutine-requires c =
    acting_there (program_in c.args.turn.now.listing.now) c.args.turn.now.event.now c.args.turn.now.number c.args.self.now c.requires.may.acting
