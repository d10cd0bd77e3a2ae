use Rattle.std.proofs.Common.{◌∙◌}
use Rattle.gr_step.specs.Stores.{program_at, contents_at}
use Rattle.gr_queries.proofs.FramesShown.{goroutine_answer}
use Rattle.gr_queries.proofs.showing.show.Goals as goal

pub returns : goal.returns
returns c =
    goroutine_answer (program_at c.args.store.now) _ (contents_at c.args.store.now) c.args.go.now _ c.in-Some.goroutine.now.content _
    c.program.ensures c.in-Some.ensures (c.in_ok-shown.ensures.named ∙ c.in_ok-go.ensures) c.in_ok-shown.ensures.shown
