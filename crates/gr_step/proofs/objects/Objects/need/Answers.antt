use Rattle.std.proofs.Common.{◌≡◌, ap, ◌∙◌}
use Rattle.gr_code.specs.CodeViews.{program_code_of}
use Rattle.gr_lower.specs.Lowered.{lowered}
use Rattle.gr_record.specs.Listings.{program_in}
use Rattle.gr_step.specs.Objects.{contents_in}
use Rattle.gr_step.proofs.ChoiceLemmas.{task_there}
use Rattle.gr_step.proofs.SendsInLemmas.{sends_in}
use Rattle.gr_step.proofs.objects.Objects.need.Goals as goal
use Rattle.gr_step.proofs.objects.Objects.need.Goals.{After-deref}

code : (c : After-deref) → program_code_of c.deref.result.now ≡ lowered (program_in c.args.listing.now)
code c = ap program_code_of c.deref.ensures ∙ c.requires.coded

pub next_need-requires-clause-right : goal.next_need-requires-clause-right
next_need-requires-clause-right c =
    let is = code (goal.at.next_need-requires-clause-right c).After-deref in
    let at = c.in-Ok.ensures.ok.has in
    rw is (task_there (program_in c.args.listing.now) (contents_in c.args.self.now) c.requires.running c.args.go.now
    c.in-Ok.ready.goroutine.now.content at.runs at.there at.is_ready)

pub next_need-requires-clause-sends : goal.next_need-requires-clause-sends
next_need-requires-clause-sends c =
    let is = code (goal.at.next_need-requires-clause-sends c).After-deref in
    let at = c.in-Ok.ensures.ok.has in
    rw is (sends_in (program_in c.args.listing.now) (contents_in c.args.self.now) c.requires.running c.args.go.now
    c.in-Ok.ready.goroutine.now.content at.there at.is_ready)
