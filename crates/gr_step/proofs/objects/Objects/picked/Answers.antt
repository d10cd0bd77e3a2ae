use Rattle.std.proofs.Common.{sym, ap, ◌∙◌}
use Rattle.std.proofs.lemmas.Result.{IfOk-weaker}
use Rattle.gr_code.specs.CodeViews.{arms_of, program_code_of}
use Rattle.gr_record.specs.Listings.{program_in}
use Rattle.gr_step.proofs.EventLemmas.{found_right}
use Rattle.gr_step.proofs.PickLemmas.{if_some, receives}
use Rattle.gr_step.proofs.PlaceLemmas.{acting_there}
use Rattle.gr_step.proofs.objects.Objects.picked.Goals as goal

pub arms-requires : goal.arms-requires
arms-requires c =
    found_right (program_in c.args.turn.now.listing.now) c.args.turn.now.event.now c.args.turn.now.number c.args.self.now c.requires.may.acting _
    c.at-goroutine.result.now (ap program_code_of c.deref.ensures ∙ c.requires.may.coded) (sym c.at-goroutine.ensures.value)

pub returns : goal.returns
returns c =
    IfOk-weaker c.picked_of.result _ _ (λ picked. if_some picked
    (receives (program_in c.args.turn.now.listing.now) c.args.turn.now.event.now c.args.turn.now.number c.args.self.now c.requires.may.acting c.requires.possible _
    c.at-goroutine.result.now (ap program_code_of c.deref.ensures ∙ c.requires.may.coded) (sym c.at-goroutine.ensures.value) c.in-Some-frame.frame.now
    c.cells.result.now (arms_of c.in-Some.arms.now) c.in-Some.ensures (sym c.in-Some-frame.ensures) c.cells.ensures
    c.in-Pick.case c.in-Pick.is)) c.picked_of.ensures

pub at-goroutine-requires : goal.at-goroutine-requires
at-goroutine-requires c =
    acting_there (program_in c.args.turn.now.listing.now) c.args.turn.now.event.now c.args.turn.now.number c.args.self.now c.requires.may.acting
