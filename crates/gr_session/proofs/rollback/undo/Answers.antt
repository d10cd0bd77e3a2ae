use Rattle.std.specs.Prelude.{Ok, Err}
use Rattle.gr_command.specs.declared.command.Command.TheVariants as commands
use Rattle.gr_session.specs.Journal.{course_of}
use Rattle.gr_session.proofs.BackLemmas.{undo_leads, by_answer}
use Rattle.gr_session.proofs.rollback.undo.Goals as goal

pub returns-in-Ok-clause-leads : goal.returns-in-Ok-clause-leads
returns-in-Ok-clause-leads c = λ p w s. undo_leads p w _ s.lines s.grant (Ok c.in-Ok.id) (c.in-Ok.ensures.undone p (course_of p w) s.machine)

pub returns-in-Err-clause-leads : goal.returns-in-Err-clause-leads
returns-in-Err-clause-leads c = λ p w s.
    by_answer p w _ commands.Undo _ _ c.refusal_told.ensures (undo_leads p w _ s.lines s.grant (Err c.in-Err.why) (c.in-Err.ensures.undone p (course_of p w) s.machine))

pub returns-in-Err-clause-contents : goal.returns-in-Err-clause-contents
returns-in-Err-clause-contents c = λ none. c.in-Err.ensures.err
