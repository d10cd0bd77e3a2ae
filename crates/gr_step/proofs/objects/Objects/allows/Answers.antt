use Rattle.std.proofs.Common.{sym, ap, ◌∙◌}
use Rattle.gr_code.specs.CodeViews.{arms_of, program_code_of}
use Rattle.gr_record.specs.Listings.{program_in}
use Rattle.gr_step.proofs.EventLemmas.{found_right}
use Rattle.gr_step.proofs.PossibleLemmas.{plain_elsewhere, fault_tells, choice_tells}
use Rattle.gr_step.proofs.PlaceLemmas.{acting_there}
use Rattle.gr_step.proofs.objects.Objects.allows.Goals as goal

pub arms-requires : goal.arms-requires
arms-requires c =
    found_right (program_in c.args.turn.now.listing.now) c.args.turn.now.event.now c.args.turn.now.number c.args.self.now c.requires.may.acting _
    c.at-goroutine.result.now (ap program_code_of c.deref.ensures ∙ c.requires.may.coded) (sym c.at-goroutine.ensures.value)

pub returns-in_default : goal.returns-in_default
returns-in_default c =
    c.is_plain.ensures ∙ plain_elsewhere (program_in c.args.turn.now.listing.now) c.args.turn.now.event.now c.args.turn.now.number c.args.self.now c.requires.may.acting _
    c.at-goroutine.result.now (ap program_code_of c.deref.ensures ∙ c.requires.may.coded) (sym c.at-goroutine.ensures.value) c.in_default.ensures

pub returns-then-not-have_channels : goal.returns-then-not-have_channels
returns-then-not-have_channels c =
    c.is_plain-then-not-have_channels.ensures
    ∙ fault_tells (program_in c.args.turn.now.listing.now) c.args.turn.now.event.now c.args.turn.now.number c.args.self.now c.requires.may.acting _
    c.at-goroutine.result.now (ap program_code_of c.deref.ensures ∙ c.requires.may.coded) (sym c.at-goroutine.ensures.value) c.in-Some-frame.frame.now
    c.cells-cells.result.now (arms_of c.in-Some.arms.now) c.in-Some.ensures (sym c.in-Some-frame.ensures) c.cells-cells.ensures
    (sym c.if-not-have_channels.ensures)

pub returns : goal.returns
returns c =
    c.choice_is_possible.ensures
    ∙ choice_tells (program_in c.args.turn.now.listing.now) c.args.turn.now.event.now c.args.turn.now.number c.args.self.now c.requires.may.acting _
    c.at-goroutine.result.now (ap program_code_of c.deref.ensures ∙ c.requires.may.coded) (sym c.at-goroutine.ensures.value) c.in-Some-frame.frame.now
    c.cells-cells.result.now (arms_of c.in-Some.arms.now) c.in-Some.ensures (sym c.in-Some-frame.ensures) c.cells-cells.ensures
    (sym c.if-not-have_channels.ensures)

pub at-goroutine-requires : goal.at-goroutine-requires
at-goroutine-requires c =
    acting_there (program_in c.args.turn.now.listing.now) c.args.turn.now.event.now c.args.turn.now.number c.args.self.now c.requires.may.acting
