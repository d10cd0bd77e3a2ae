use Rattle.std.proofs.Common.{refl, subst}
use Rattle.gr_step.specs.Stores.{program_at}
use Rattle.gr_rollback.specs.Machines.{store_of}
use Rattle.gr_explore.proofs.MachineLemmas.{is_machine}
use Rattle.gr_schedules.specs.Aims.{IsAim, NoneComes}
use Rattle.gr_explore.specs.Fewest.{ComesByFewest, IsKnownOf}
use Rattle.gr_survey.proofs.ScheduleLemmas.{Closed, Cut, all_there, at_home, bad_there, shortest_found, unfinished_there}
use Rattle.gr_survey.proofs.surveying.survey_from.Goals as goal

pub put_schedule-requires : goal.put_schedule-requires
put_schedule-requires c =
    let p = program_at (store_of c.args.machine.now) in
    let found = c.explore_shortest.ensures.found p c.requires.world c.requires.stands c.in-Found.is in
    bad_there p _ c.explore_shortest.new.machine c.args.bad found.come.stands (subst (λ aim. IsAim aim found.come.state) c.aim_of.ensures found.come.comes)

pub find_any-requires : goal.find_any-requires
find_any-requires c =
    let p = program_at (store_of c.args.machine.now) in
    let home = c.in-Limited.ensures.home p c.requires.world c.requires.stands in
    let again = at_home p c.requires.world c.explore_shortest.new.machine c.in-Limited.unfinished.limit (c.is_known.ensures c.if-is_known.true) home in
    is_machine p _ c.explore_shortest.new.machine again.stands

pub returns-in-Nothing-clause-found : goal.returns-in-Nothing-clause-found
returns-in-Nothing-clause-found c = λ p w s. (
  subst (λ aim. NoneComes aim p w.past.state) c.aim_of.ensures (c.explore_shortest.ensures.nothing p w c.in-Nothing.states s c.in-Nothing.is),
  all_there p w c.args.machine.now c.args.bad c.in-Nothing.states s (subst (Closed c.args.machine.now c.in-Nothing.states) c.aim_of.ensures (c.explore_shortest.ensures.closed c.in-Nothing.states c.in-Nothing.is)),
  refl,
)

pub returns-in_ok-schedule-in-Found-clause-found : goal.returns-in_ok-schedule-in-Found-clause-found
returns-in_ok-schedule-in-Found-clause-found c = λ p w s.
    shortest_found p w c.explore_shortest.new.machine c.args.bad c.in_ok-schedule-in-Found.schedule c.args.text.now.items c.put_schedule.new.text.items
    (subst (λ aim. ComesByFewest aim p w c.explore_shortest.new.machine) c.aim_of.ensures (c.explore_shortest.ensures.found p w s c.in-Found.is))
    (record {
      ends = c.in_ok-schedule-in-Found.ensures.ends;
      count = c.in_ok-schedule-in-Found.ensures.count;
      text = c.in_ok-schedule-in-Found.ensures.text;
    })

pub returns-then-is_known-clause-found : goal.returns-then-is_known-clause-found
returns-then-is_known-clause-found c = λ p w s.
    let again = at_home p w c.explore_shortest.new.machine c.in-Limited.unfinished.limit (c.is_known.ensures c.if-is_known.true) (c.in-Limited.ensures.home p w s) in
    c.find_any.ensures.found p (record { past = w.past; again = again.again }) again.stands
    (unfinished_there p w c.args.machine.now c.args.bad c.args.limits.now c.in-Limited.unfinished s
    (subst (λ aim. IsKnownOf aim p w.past.state c.in-Limited.unfinished) c.aim_of.ensures (c.explore_shortest.ensures.known p w c.in-Limited.unfinished s c.in-Limited.is))
    (subst (Cut c.args.machine.now c.args.limits.now c.in-Limited.unfinished) c.aim_of.ensures (c.explore_shortest.ensures.limited c.in-Limited.unfinished c.in-Limited.is)))

pub returns-else-is_known-clause-found : goal.returns-else-is_known-clause-found
returns-else-is_known-clause-found c = λ p w s. (
  unfinished_there p w c.args.machine.now c.args.bad c.args.limits.now c.in-Limited.unfinished s
      (subst (λ aim. IsKnownOf aim p w.past.state c.in-Limited.unfinished) c.aim_of.ensures (c.explore_shortest.ensures.known p w c.in-Limited.unfinished s c.in-Limited.is))
      (subst (Cut c.args.machine.now c.args.limits.now c.in-Limited.unfinished) c.aim_of.ensures (c.explore_shortest.ensures.limited c.in-Limited.unfinished c.in-Limited.is)),
  refl,
)
