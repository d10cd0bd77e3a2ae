use Rattle.std.proofs.Common.{subst}
use Rattle.gr_step.specs.Stores.{program_at}
use Rattle.gr_rollback.specs.Machines.{store_of}
use Rattle.gr_schedules.specs.Aims.{IsAim}
use Rattle.gr_explore.specs.Exploring.{ComesTo}
use Rattle.gr_survey.proofs.ScheduleLemmas.{any_found, bad_there}
use Rattle.gr_survey.proofs.surveying.find_any.Goals as goal

pub put_schedule-requires : goal.put_schedule-requires
put_schedule-requires c =
    let p = program_at (store_of c.args.machine.now) in
    let ends = c.explore_for.ensures.found p c.requires.world c.requires.stands c.in-Found.is in
    bad_there p _ c.explore_for.new.machine c.args.bad ends.stands (subst (λ aim. IsAim aim ends.state) c.aim_of.ensures ends.comes)

pub returns-in_ok-schedule-in-Found-clause-found : goal.returns-in_ok-schedule-in-Found-clause-found
returns-in_ok-schedule-in-Found-clause-found c = λ p w s unfinished. (
  any_found p w c.explore_for.new.machine c.args.bad c.in_ok-schedule-in-Found.schedule c.args.text.now.items c.put_schedule.new.text.items
      (subst (λ aim. ComesTo aim p w c.explore_for.new.machine) c.aim_of.ensures (c.explore_for.ensures.found p w s c.in-Found.is))
      (record {
        ends = c.in_ok-schedule-in-Found.ensures.ends;
        count = c.in_ok-schedule-in-Found.ensures.count;
        text = c.in_ok-schedule-in-Found.ensures.text;
      }),
  unfinished,
)
