use Rattle.std.proofs.Common.{ap}
use Rattle.std.specs.Prelude.{Ok, Err}
use Rattle.gr_command.specs.declared.command.Command.TheVariants as commands
use Rattle.gr_rollback.specs.Stores.{contents_at}
use Rattle.gr_session.specs.Journal.{course_of}
use Rattle.gr_session.proofs.BackLemmas.{order_leads, by_answer}
use Rattle.gr_session.proofs.rollback.order.Goals as goal

pub returns-in-Ok-clause-leads : goal.returns-in-Ok-clause-leads
returns-in-Ok-clause-leads c = λ p w s. order_leads p w _ s.lines s.grant c.args.ids.now (Ok tt) (c.in-Ok.ensures.reordered p (course_of p w) s.machine)

pub returns-in-Err-clause-leads : goal.returns-in-Err-clause-leads
returns-in-Err-clause-leads c = λ p w s.
    by_answer p w _ (commands.Order c.args.ids.now) _ _ c.refusal_told.ensures
    (order_leads p w _ s.lines s.grant c.args.ids.now (Err c.in-Err.why) (c.in-Err.ensures.reordered p (course_of p w) s.machine))

pub returns-in-Ok-clause-contents : goal.returns-in-Ok-clause-contents
returns-in-Ok-clause-contents c = λ none. ap contents_at c.in-Ok.ensures.store

pub returns-in-Err-clause-contents : goal.returns-in-Err-clause-contents
returns-in-Err-clause-contents c = λ none. ap contents_at c.in-Err.ensures.store
