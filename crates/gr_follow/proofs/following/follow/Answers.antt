use Rattle.std.proofs.Common.{◌≡◌, ◌∙◌, ◌≤◌, take, refl, arith}
use Rattle.std.proofs.lemmas.Result.{IfOk-weaker}
use Rattle.gr_follow.proofs.MoveLemmas.{followed}
use Rattle.gr_follow.proofs.StandLemmas.{stands_after}
use Rattle.gr_follow.specs.Following.{events_at}
use Rattle.gr_rollback.specs.Machines.{steps_of}
use Rattle.gr_follow.proofs.following.follow.Goals as goal

pub returns-clause-there : goal.returns-clause-there
returns-clause-there c =
    let few : c.shared-place.result ≤ c.args.steps = omega (arith, c.shared-place.ensures.few, c.min.ensures) in
    let same : take c.shared-place.result (events_at c.args.follower.now) ≡ take c.shared-place.result (events_at c.args.leader.now) =
    rw (c.as_slice-taken.ensures, c.log-2.ensures, c.as_slice-given.ensures, c.log.ensures) at c.shared-place.ensures.same in
    IfOk-weaker c.step_through.result _ _
    (λ done forth p w s. stands_after p w c.args.leader.now c.step_through.new.machine c.args.steps s
    (record {
      is = c.step_through.ensures.of.is;
      program = c.step_through.ensures.of.program ∙ c.back_to.ensures.of.program ∙ c.requires.machine.program;
    })
    (followed (events_at c.args.follower.now) (events_at c.args.leader.now) (events_at c.back_to.new.machine) (events_at c.step_through.new.machine)
    (steps_of c.args.leader.now) c.shared-place.result c.args.steps refl few same c.in_ok-back_to.ensures.back forth))
    (rw (c.as_slice-given.ensures, c.log.ensures) at c.step_through.ensures.forth)
