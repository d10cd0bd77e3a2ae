use Rattle.std.proofs.Common.{◌≡◌, Option, None, subst, sym}
use Rattle.std.proofs.Common.{rules}
use Rattle.gr_base.specs.declared.events.Choice.{Choice}
use Rattle.gr_rules.specs.Steps.{refusal}
use Rattle.gr_step.specs.Choices.{event_meant}
use Rattle.gr_step.specs.Stores.{contents_at, program_at, state_at}
use Rattle.gr_step.proofs.GuardLemmas.{usual_is_step, meant_of}
use Rattle.gr_step.proofs.store.Store.step_meant.Goals as goal

pub returns-in_err-ready-clause-why : goal.returns-in_err-ready-clause-why
returns-in_err-ready-clause-why c =
    let s = c.args.self.now in
    let h = c.in_err-ready.ensures.why (program_at s) (event_meant (program_at s) (state_at s) c.args.go c.args.choice).choice in
    let is = meant_of (program_at s) (state_at s) c.args.go c.args.choice in
    search (rules, h, is)

pub returns-in_err-choice-clause-why : goal.returns-in_err-choice-clause-why
returns-in_err-choice-clause-why c =
    let s = c.args.self.now in
    let p = program_at s in
    let usual = usual_is_step p (contents_at s) c.args.go c.in_ok-ready.ready.goroutine.now.content c.requires.run.running c.in_ok-ready.ensures.ok.has in
    let h = subst (λ (o : Option Choice). refusal p (state_at s) (event_meant p (state_at s) c.args.go o) ≡ None) (sym c.in_err-choice.ensures.refused) usual in
    search (rules, h)
