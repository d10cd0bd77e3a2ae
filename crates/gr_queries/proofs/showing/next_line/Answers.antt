use Rattle.std.proofs.Common.{◌≡◌, Some, ◌∙◌, rules}
use Rattle.gr_code.specs.CodeViews.{program_code_of}
use Rattle.gr_step.specs.Stores.{program_at, contents_at}
use Rattle.gr_queries.proofs.FramesShown.{has_line, next_line_is}
use Rattle.gr_queries.proofs.showing.next_line.Goals as goal

pub line_shown-requires : goal.line_shown-requires
line_shown-requires c =
    let there : (contents_at c.args.store.now).goroutines c.args.go.now ≡ Some c.in_ok-goroutine.goroutine.now.content = search rules in
    has_line (program_at c.args.store.now) c.requires.running.program c.in_ok-goroutine.goroutine.now.content.frames
    (c.requires.running.stand c.args.go.now c.in_ok-goroutine.goroutine.now.content there) (program_code_of c.code.result.now)
    (c.code.ensures ∙ c.requires.coded)

pub returns : goal.returns
returns c =
    let there : (contents_at c.args.store.now).goroutines c.args.go.now ≡ Some c.in_ok-goroutine.goroutine.now.content = search rules in
    next_line_is (program_at c.args.store.now) (program_code_of c.code.result.now) (contents_at c.args.store.now) c.args.go.now
    c.in_ok-goroutine.goroutine.now.content _ c.requires.running.program (c.code.ensures ∙ c.requires.coded)
    (c.requires.running.stand c.args.go.now c.in_ok-goroutine.goroutine.now.content there) there c.line_shown.ensures
