use Rattle.std.proofs.Common.{subst}
use Rattle.gr_explore.proofs.MachineLemmas.{is_machine}
use Rattle.gr_explore.specs.Blaming.{IsBlame}
use Rattle.gr_rollback.specs.Pasts.{events_in}
use Rattle.gr_session.specs.Journal.{course_of, past_of}
use Rattle.gr_survey.proofs.BlameLemmas.{within_steps, blames_by_name}
use Rattle.gr_survey.proofs.blaming.blame.Goals as goal

pub find_blame-requires : goal.find_blame-requires
find_blame-requires c =
    let there = c.in_ok-machine.ensures.after in
    is_machine there.after.program (course_of there.after.program there.after.world) c.in_ok-machine.machine there.stands

pub named-requires : goal.named-requires
named-requires c = λ n e.
    let there = c.in_ok-machine.ensures.after in
    let p = there.after.program in
    let w = course_of p there.after.world in
    let home = c.in-Ok.ensures.home p w there.stands in
    let is = subst (IsBlame p (events_in p there.after.world.log)) e (c.in-Ok.ensures.blame p w there.stands) in
    within_steps p (record { past = past_of p there.after.world; again = home.again }) c.find_blame.new.machine home.stands n is.0

pub returns-in-Ok-named-clause-blamed : goal.returns-in-Ok-named-clause-blamed
returns-in-Ok-named-clause-blamed c =
    let there = c.in_ok-machine.ensures.after in
    let p = there.after.program in
    let w = course_of p there.after.world in
    let home = c.in-Ok.ensures.home p w there.stands in
    record {
      after = there.after;
      is = blames_by_name p (record { past = past_of p there.after.world; again = home.again }) c.find_blame.new.machine home.stands c.in-Ok.blame
          c.in-Ok-named.blamed (c.in-Ok.ensures.blame p w there.stands) c.in-Ok-named.ensures;
    }
