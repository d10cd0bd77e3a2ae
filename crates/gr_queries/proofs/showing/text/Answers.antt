use Rattle.gr_step.specs.Stores.{program_at, contents_at}
use Rattle.gr_queries.proofs.FramesShown.{text_answer}
use Rattle.gr_queries.proofs.showing.text.Goals as goal

pub returns : goal.returns
returns c =
    text_answer (program_at c.args.store.now) (contents_at c.args.store.now) c.args.go.now c.in-Some.goroutine.now.content _ _ c.in-Some.ensures
    c.in_ok-lines.ensures c.text.ensures
