use Rattle.std.proofs.Common.{subst}
use Rattle.std.proofs.lemmas.Result.{err_from_is_err_and}
use Rattle.gr_rollback.specs.Choices.{usual_event}
use Rattle.gr_rollback.specs.Steps.{Joins}
use Rattle.gr_session.specs.Journal.{course_of, past_of}
use Rattle.gr_session.proofs.running.take_turn.Goals as goal

pub returns-in_err-go-clause-turns : goal.returns-in_err-go-clause-turns
returns-in_err-go-clause-turns c = λ p w s.
    let told = err_from_is_err_and c.from_residual.result c.from_residual.ensures.1 in
    rw (told.1, told.2) (c.in_err-go.ensures.end p w s, s)

pub returns-in_default-clause-turns : goal.returns-in_default-clause-turns
returns-in_default-clause-turns c = λ p w s. ((_, c.in_ok-go.ensures.turn p w s), s)

pub returns-in-Ok-step_usual-clause-turns : goal.returns-in-Ok-step_usual-clause-turns
returns-in-Ok-step_usual-clause-turns c = λ p w s.
    let takes = c.in-Ok-step_usual.ensures.taken p (course_of p w) s.machine in
    record {
      owner = c.in_ok-go.go.now;
      has_turn = c.in_ok-go.ensures.turn p w s;
      step = takes.step;
      state = takes.state;
      joins = subst (λ go. Joins p (past_of p w) (usual_event p w.state go) takes.step takes.state) c.in-Ok.ensures takes.joins;
      stands = record { machine = takes.stands; lines = s.lines; grant = s.grant };
    }

pub returns-in-Err-clause-turns : goal.returns-in-Err-clause-turns
returns-in-Err-clause-turns c = λ p w s.
    ((_, c.in_ok-go.ensures.turn p w s), record { machine = (c.in-Err.ensures.taken p (course_of p w) s.machine).1; lines = s.lines; grant = s.grant })
