use Rattle.std.proofs.Common.{◌∙◌, sym}
use Rattle.std.specs.Prelude.{Ok, Err}
use Rattle.gr_command.specs.declared.command.Command.TheVariants as commands
use Rattle.gr_session.specs.Journal.{course_of}
use Rattle.gr_session.proofs.BackLemmas.{no_target_leads, back_leads, by_answer, names_none}
use Rattle.gr_session.proofs.rollback.back.Goals as goal

pub returns-in_default-clause-leads : goal.returns-in_default-clause-leads
returns-in_default-clause-leads c = λ p w s.
    rw c.refused.ensures
    (no_target_leads p w c.args.debuggee.now s.lines s.grant c.args.target.now (sym (c.in_ok-id.ensures p w s) ∙ c.in_default.is) s.machine)

pub returns-in-Ok-clause-leads : goal.returns-in-Ok-clause-leads
returns-in-Ok-clause-leads c = λ p w s.
    back_leads p w _ s.lines s.grant c.args.target.now c.in-Some.id (sym (c.in_ok-id.ensures p w s) ∙ c.in-Some.is) (Ok c.in-Ok.ids)
    (c.in-Ok.ensures.back p (course_of p w) s.machine)

pub returns-clause-leads : goal.returns-clause-leads
returns-clause-leads c = λ p w s.
    by_answer p w _ (commands.Back c.args.target.now) _ _ c.refusal_told.ensures
    (back_leads p w _ s.lines s.grant c.args.target.now c.in-Some.id (sym (c.in_ok-id.ensures p w s) ∙ c.in-Some.is) (Err c.in-Err.why)
    (c.in-Err.ensures.back p (course_of p w) s.machine))

pub returns-clause-contents : goal.returns-clause-contents
returns-clause-contents c = λ none. c.in-Err.ensures.err (names_none c.refusal_told.result c.in-Err.why c.refusal_told.ensures none)
