use Rattle.std.proofs.Common.{Ok, Err, subst}
use Rattle.gr_session.specs.Journal.{event_asked}
use Rattle.gr_session.specs.Refusing.{Takes}
use Rattle.gr_session.proofs.StepLemmas.{refused_leads, joined_leads}
use Rattle.gr_session.proofs.stepping.step.Goals as goal

pub returns-in-Ok-clause-leads : goal.returns-in-Ok-clause-leads
returns-in-Ok-clause-leads c = λ p w s.
    rw c.in_ok-named.ensures
    (joined_leads p w c.take_asked.new.debuggee c.args.go.now c.args.case c.in-Ok.step
    (subst (λ go. Takes p w (event_asked p w.state go c.args.case) (Ok c.in-Ok.step) c.take_asked.new.debuggee) c.in_ok-asked.ensures
    (c.in-Ok.ensures.takes p w s)))

pub returns-in-Err-clause-leads : goal.returns-in-Err-clause-leads
returns-in-Err-clause-leads c = λ p w s.
    let none = subst (λ go. Takes p w (event_asked p w.state go c.args.case) (Err c.in-Err.why) c.take_asked.new.debuggee) c.in_ok-asked.ensures
    (c.in-Err.ensures.takes p w s) in
    rw c.refused.ensures
    (refused_leads p w c.take_asked.new.debuggee none.1 c.args.go.now c.args.case c.told.result
    (c.told.ensures p w (event_asked p w.state c.args.go.now c.args.case) none.1 none.0))

pub returns-in-Err-clause-contents : goal.returns-in-Err-clause-contents
returns-in-Err-clause-contents c = λ none. c.in-Err.ensures.err
