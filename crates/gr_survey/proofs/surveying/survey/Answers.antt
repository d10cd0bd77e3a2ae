use Rattle.gr_explore.proofs.MachineLemmas.{is_machine}
use Rattle.gr_session.specs.Journal.{course_of}
use Rattle.gr_survey.proofs.surveying.survey.Goals as goal

pub survey_from-requires : goal.survey_from-requires
survey_from-requires c =
    let there = c.in_ok-machine.ensures.after in
    is_machine there.after.program (course_of there.after.program there.after.world) c.in_ok-machine.machine there.stands

pub returns-in-Ok-clause-found : goal.returns-in-Ok-clause-found
returns-in-Ok-clause-found c =
    let there = c.in_ok-machine.ensures.after in
    record {
      after = there.after;
      is = c.in-Ok.ensures.found there.after.program (course_of there.after.program there.after.world) there.stands;
    }
