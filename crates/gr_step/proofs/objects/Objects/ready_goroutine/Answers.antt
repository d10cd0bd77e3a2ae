use Rattle.gr_step.proofs.PlaceLemmas.{present_there}
use Rattle.gr_step.proofs.objects.Objects.ready_goroutine.Goals as goal

pub at-goroutine-requires : goal.at-goroutine-requires
at-goroutine-requires c =
    present_there c.args.self.now.goroutines c.in_ok-number.number c.args.go.now c.in_ok-number.ensures.ok.named c.in_ok-number.ensures.ok.present
