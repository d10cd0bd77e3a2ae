use Rattle.gr_session.specs.Journal.{course_of}
use Rattle.gr_session.proofs.StepLemmas.{taken_by}
use Rattle.gr_session.proofs.stepping.take_asked.Goals as goal

pub returns-in-Some-clause-takes : goal.returns-in-Some-clause-takes
returns-in-Some-clause-takes c = λ p w s.
    rw c.in-Some.is (taken_by p w c.args.debuggee.now s _ _ _ (c.step.ensures.taken p (course_of p w) s.machine))

pub returns-in-None-clause-takes : goal.returns-in-None-clause-takes
returns-in-None-clause-takes c = λ p w s.
    rw c.in-None.is (taken_by p w c.args.debuggee.now s _ _ _ (c.step_usual.ensures.taken p (course_of p w) s.machine))
