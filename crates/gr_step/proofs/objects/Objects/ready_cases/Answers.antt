use Rattle.std.proofs.Common.{◌≡◌, sym, ap, ◌∙◌}
use Rattle.std.proofs.lemmas.Result.{IfOk-weaker}
use Rattle.gr_rules.specs.Tells.{ready_clauses}
use Rattle.gr_goros.specs.Views.{communications_of}
use Rattle.gr_step.specs.Choices.{ready_from}
use Rattle.gr_record.specs.Listings.{program_in, state_in}
use Rattle.gr_step.specs.Objects.{contents_in}
use Rattle.gr_step.proofs.ChoiceLemmas.{are_channels}
use Rattle.gr_step.proofs.MayLemmas.{ready_is}
use Rattle.gr_step.proofs.NoChoiceLemmas.{no_clause}
use Rattle.gr_step.proofs.objects.Objects.ready_cases.Goals as goal

pub returns-in-Some : goal.returns-in-Some
returns-in-Some c =
    let p = program_in c.args.listing.now in
    let s = contents_in c.args.self.now in
    let at = rw c.in-Some.is at c.in_ok-clauses.ensures in
    IfOk-weaker c.ready_numbers.result
    (λ numbers. numbers.items ≡ ready_from s 1 (communications_of c.deref.result.now))
    (λ cases. cases.items ≡ ready_clauses p (state_in p s) c.args.go.now)
    (λ numbers is. is ∙ ap (λ cs. ready_from s 1 (communications_of cs)) c.deref.ensures.value
    ∙ sym (ready_is p s c.requires.running (are_channels c.args.self.now) c.args.go.now (communications_of c.in-Some.clauses.items) at))
    c.ready_numbers.ensures

pub returns-in-None : goal.returns-in-None
returns-in-None c =
    c.new.ensures.items
    ∙ sym (no_clause (program_in c.args.listing.now) (contents_in c.args.self.now) c.args.go.now (rw c.in-None.is at c.in_ok-clauses.ensures))
