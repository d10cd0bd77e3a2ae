use Rattle.std.proofs.Common.{sym}
use Rattle.gr_record.specs.Listings.{program_in}
use Rattle.gr_step.specs.Objects.{contents_in}
use Rattle.gr_step.proofs.GuardLemmas.{none_unless_up}
use Rattle.gr_step.proofs.NoChoiceLemmas.{plain_choice}
use Rattle.gr_step.proofs.objects.Objects.usual_choice.Goals as goal

pub returns-in_default-clause-choice : goal.returns-in_default-clause-choice
returns-in_default-clause-choice c =
    sym (plain_choice (program_in c.args.listing.now) (contents_in c.args.self.now) c.args.go.now
    (none_unless_up (program_in c.args.listing.now) (contents_in c.args.self.now) c.args.go.now c.in_default.ensures.none))
