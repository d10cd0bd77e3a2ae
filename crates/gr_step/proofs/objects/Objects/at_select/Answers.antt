use Rattle.std.proofs.Common.{◌≡◌, sym, ap, ◌∙◌}
use Rattle.gr_code.specs.CodeViews.{program_code_of}
use Rattle.gr_goros.specs.Needs.{is_select_in}
use Rattle.gr_lower.specs.Lowered.{lowered}
use Rattle.gr_record.specs.Listings.{program_in}
use Rattle.gr_step.specs.Objects.{contents_in}
use Rattle.gr_step.proofs.ChoiceLemmas.{task_there}
use Rattle.gr_step.proofs.GuardLemmas.{none_unless_up}
use Rattle.gr_step.proofs.NoChoiceLemmas.{no_select, none_other}
use Rattle.gr_step.proofs.objects.Objects.at_select.Goals as goal
use Rattle.gr_step.proofs.objects.Objects.at_select.Goals.{After-deref}

pub returns-in_default : goal.returns-in_default
returns-in_default c = none_unless_up (program_in c.args.listing.now) (contents_in c.args.self.now) c.args.go.now c.in_default.ensures.none

-- the code that runs is that of the program
code : (c : After-deref) → program_code_of c.deref.result.now ≡ lowered (program_in c.args.listing.now)
code c = ap program_code_of c.deref.ensures ∙ c.requires.coded

pub is_select-requires : goal.is_select-requires
is_select-requires c =
    let is = code (goal.at.is_select-requires c).After-deref in
    let at = c.in-Ok.ensures.ok.has in
    rw is (task_there (program_in c.args.listing.now) (contents_in c.args.self.now) c.requires.running c.args.go.now
    c.in-Ok.ready.goroutine.now.content at.runs at.there at.is_ready)

pub returns-then-not-is_select : goal.returns-then-not-is_select
returns-then-not-is_select c =
    let is = code (goal.at.returns-then-not-is_select c).After-deref in
    let at = c.in-Ok.ensures.ok.has in
    let g = c.in-Ok.ready.goroutine.now.content in
    none_other (program_in c.args.listing.now) (contents_in c.args.self.now) c.args.go.now g c.requires.running at.runs at.there at.is_ready
    (no_select (lowered (program_in c.args.listing.now)) g.frames
    (ap (λ code. is_select_in code g.frames) (sym is) ∙ sym c.is_select.ensures ∙ c.if-not-is_select.true))
