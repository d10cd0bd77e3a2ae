use Rattle.std.proofs.Common.{◌≡◌, ◌∙◌, sym, ap}
use Rattle.gr_rules.specs.Goroutines.{waiting}
use Rattle.gr_goros.specs.Views.{status_of}
use Rattle.std.specs.Prelude.{is_some}
use Rattle.gr_step.proofs.PrepareLemmas.{waits_there}
use Rattle.gr_step.proofs.PlaceLemmas.{present_there}
use Rattle.gr_step.proofs.objects.Objects.prepare.Goals as goal

pub returns : goal.returns
returns c = λ ws reads writes h t.
    let named = rw c.unwrap-number.ensures at c.number.ensures.named in
    let seen = c.at-goroutine.ensures.named c.args.go.now named in
    let status : status_of c.status-status.result.now ≡ waiting ws =
    c.status-status.ensures ∙ waits_there c.args.self.now.goroutines c.args.go.now c.at-goroutine.result.now ws seen h in
    record { partner = c.in_ok-partner.ensures ws reads writes status t; named = named }

pub at-goroutine-requires : goal.at-goroutine-requires
at-goroutine-requires c =
    let is = c.unwrap-number.ensures in
    present_there c.args.self.now.goroutines c.unwrap-number.result c.args.go.now (rw is at c.number.ensures.named)
    (ap is_some (sym is) ∙ c.number.ensures.present)
