use Rattle.std.proofs.Common.{◌∙◌, ap, sym, subst}
use Rattle.gr_rules.specs.Outcomes.{Outcome}
use Rattle.gr_code.specs.CodeFrames as frames
use Rattle.gr_code.specs.CodeViews.{action_of, operands_of}
use Rattle.gr_code.specs.declared.code.Action.{Action}
use Rattle.gr_goros.specs.Tasks.{Does, performed}
use Rattle.gr_goros.proofs.TaskLemmas.{updated_is}
use Rattle.gr_goros.proofs.frame.Frame.perform.Goals as goal

pub update-requires : goal.update-requires
update-requires c w =
    let f = c.args.self.now in
    let es = operands_of c.args.operands.now in
    c.requires.right (ap (λ (a : Action). performed f (action_of a) es) c.in-Update.is
    ∙ updated_is f c.in-Update.variable c.in-Update.op c.in-Update.on es ∙ w)

pub returns-in-Update : goal.returns-in-Update
returns-in-Update c =
    let f = c.args.self.now in
    let es = operands_of c.args.operands.now in
    let is = ap (λ (a : Action). performed f (action_of a) es) c.in-Update.is
    ∙ updated_is f c.in-Update.variable c.in-Update.op c.in-Update.on es in
    subst {_, _} (λ (o : Outcome frames.Task). Does c.update.result o f c.update.new.self) (sym is) c.update.ensures
