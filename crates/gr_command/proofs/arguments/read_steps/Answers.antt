use Rattle.gr_command.proofs.Errors.{on_err}
use Rattle.gr_command.proofs.Naming.{first_named, later_named, is_read, steps_further}
use Rattle.gr_command.proofs.arguments.read_steps.Goals as goal

pub returns-in_err-id-clause-needed : goal.returns-in_err-id-clause-needed
returns-in_err-id-clause-needed c =
    on_err c.from_residual.result (c.loop-word.invariant.1 (first_named _ _ _ c.in-Some.ensures c.in_err-id.ensures.memory))

pub returns-in_err-push-clause-needed : goal.returns-in_err-push-clause-needed
returns-in_err-push-clause-needed c =
    on_err c.from_residual-in_err-push.result
    (c.loop-word.invariant.1 (first_named _ _ _ c.in-Some.ensures (is_read _ c.in_ok-id.field-0 c.in-Some-2.id c.in_ok-id.ensures.named c.in-Some-2.is)))

pub loop-word-preserved : goal.loop-word-preserved
loop-word-preserved c = (
  steps_further _ _ _ c.in-Some.word.now c.loop-word.ids.items _ c.in-Some-2.id c.in_ok-id.field-0 c.in-Some.ensures c.in_ok-id.ensures.named c.in-Some-2.is
      c.in_ok-push.ensures.items c.loop-word.invariant.0,
  λ h. c.loop-word.invariant.1 (later_named _ _ _ c.in-Some.ensures h),
)
