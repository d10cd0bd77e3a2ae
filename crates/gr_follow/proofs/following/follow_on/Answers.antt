use Rattle.std.proofs.Common.{◌∙◌, ◌∷◌, ◌++◌, [], ap, sym}
use Rattle.std.proofs.lemmas.Result.{IfOk-weaker}
use Rattle.gr_follow.proofs.MoveLemmas.{one_more}
use Rattle.gr_follow.proofs.StandLemmas.{after_events, stands_after}
use Rattle.gr_rollback.specs.Machines.{steps_of}
use Rattle.gr_step.specs.Records.{event_of}
use Rattle.gr_follow.proofs.following.follow_on.Goals as goal

pub returns-clause-there : goal.returns-clause-there
returns-clause-there c = IfOk-weaker c.step_as.result _ _
    (λ done forth p w s there. stands_after p w c.args.leader.now c.step_as.new.machine _ s
    (record { is = c.step_as.ensures.of.is; program = c.step_as.ensures.of.program ∙ c.requires.machine.program })
    (forth
    ∙ ap (λ es. es ++ event_of c.index-given-steps.result ∷ []) (after_events p w c.args.leader.now c.args.follower.now c.args.steps s there)
    ∙ sym (one_more event_of (steps_of c.args.leader.now) c.args.steps c.index-given-steps.result c.requires.kept
    (rw (c.as_slice-given.ensures, c.log.ensures) at c.index-given-steps.is))))
    c.step_as.ensures.forth
