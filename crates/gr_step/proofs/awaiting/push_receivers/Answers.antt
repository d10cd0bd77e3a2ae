use Rattle.std.proofs.Common.{◌++◌, ◌∷◌, [], ap, sym, ◌∙◌}
use Rattle.gr_step.proofs.WaitingOnLemmas.{all_pushed, one_pushed}
use Rattle.gr_step.proofs.awaiting.push_receivers.Goals as goal

pub returns-in_default : goal.returns-in_default
returns-in_default c =
    all_pushed c.args.channel.now.content.receivers c.loop-place.place c.loop-place.names.items _ c.loop-place.invariant (sym c.in_default.ensures)

pub loop-place-preserved : goal.loop-place-preserved
loop-place-preserved c =
    one_pushed c.args.channel.now.content.receivers c.loop-place.place c.loop-place.names.items _ c.loop-place.invariant c.in-Some.waiter.now
    c.push.new.self.items (sym c.in-Some.ensures) (c.in_ok-push.ensures.items ∙ ap (λ go. c.loop-place.names.items ++ go ∷ []) c.in_ok-copy.ensures)
