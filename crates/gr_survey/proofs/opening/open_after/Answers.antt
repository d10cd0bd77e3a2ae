use Rattle.std.proofs.Common.{◌+◌, ap, ◌∙◌}
use Rattle.gr_program.specs.Views.{program_of}
use Rattle.gr_survey.proofs.OpenLemmas.{after_script}
use Rattle.gr_survey.proofs.opening.open_after.Goals as goal

pub returns-in-Ok-follow-clause-after : goal.returns-in-Ok-follow-clause-after
returns-in-Ok-follow-clause-after c =
    after_script c.args.source.now c.args.script.now (program_of c.in-Ok.session.program) (program_of c.enrol.new.self.program)
    (program_of c.follow.new.session.program) c.in-Ok-enrol.desk.number c.enrol.new.self.journal c.follow.new.session.journal c.into_machine.result
    c.in-Ok.ensures.program (ap program_of c.enrol.ensures.others.0) (ap program_of c.follow.ensures.others.0)
    (c.in-Ok-enrol.ensures.number.0 ∙ ap (λ n. n + 1) c.in-Ok.ensures.askers) (c.enrol.ensures.others.1 ∙ c.in-Ok.ensures.journal)
    c.in-Ok-follow.ensures.follows c.into_machine.ensures
