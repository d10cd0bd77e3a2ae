use Rattle.std.proofs.Common.{◌∙◌, ap, sym, subst}
use Rattle.gr_rules.specs.Operands.{also, nothing}
use Rattle.gr_rules.specs.Outcomes.{Outcome}
use Rattle.gr_code.specs.CodeFrames as frames
use Rattle.gr_code.specs.CodeViews.{action_of, operand_of}
use Rattle.gr_code.specs.declared.code.Action.{Action}
use Rattle.gr_goros.specs.Tasks.{ChangesInts, performed}
use Rattle.gr_goros.proofs.TaskLemmas.{updated_is}
use Rattle.gr_goros.proofs.frame.Frame.step_with_one.Goals as goal

pub update_int-requires : goal.update_int-requires
update_int-requires c w =
    let f = c.args.self.now in
    let es = also (operand_of c.args.operand.now) nothing in
    c.requires (ap (λ (a : Action). performed f (action_of a) es) c.in-Update.is
    ∙ updated_is f c.in-Update.variable c.in-Update.op c.in-Update.on es ∙ w)

pub returns-in-Update-clause-counts : goal.returns-in-Update-clause-counts
returns-in-Update-clause-counts c =
    let f = c.args.self.now in
    let es = also (operand_of c.args.operand.now) nothing in
    let is = ap (λ (a : Action). performed f (action_of a) es) c.in-Update.is
    ∙ updated_is f c.in-Update.variable c.in-Update.op c.in-Update.on es in
    subst {_, _} (λ (o : Outcome frames.Task). ChangesInts c.update_int.result o f c.update_int.new.self) (sym is) c.update_int.ensures
