use Rattle.gr_step.specs.Stores.{program_at, contents_at}
use Rattle.gr_queries.proofs.StacksShown.{no_stack, stack_answer}
use Rattle.gr_queries.proofs.stacking.stack.Goals as goal

pub returns-in_default : goal.returns-in_default
returns-in_default c = no_stack (program_at c.args.store.now) (contents_at c.args.store.now) c.args.go.now c.in_default.ensures

pub returns : goal.returns
returns c =
    stack_answer (program_at c.args.store.now) _ (contents_at c.args.store.now) c.args.go.now _ c.in-Some.goroutine.now.content _
    c.program.ensures c.in-Some.ensures c.in_ok-go.ensures c.in_ok-stack.ensures
