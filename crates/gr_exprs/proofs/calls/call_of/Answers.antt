use Rattle.std.proofs.Common.{ap, ◌∙◌}
use Rattle.std.specs.Prelude.{Some}
use Rattle.gr_tree.specs.Statements.{optional}
use Rattle.gr_program.specs.Programs.{Call}
use Rattle.gr_program.specs.TypeViews.{ty_of}
use Rattle.gr_exprs.specs.Finding.{◌>>=◌}
use Rattle.gr_exprs.proofs.Arguments.{wrong_count}
use Rattle.gr_exprs.proofs.calls.call_of.Goals as goal

pub returns-then-len : goal.returns-then-len
returns-then-len c =
    let parameters = c.args.signature.now.parameters in
    ap (λ o. o >>= λ ps. Some (optional ty_of c.args.signature.now.result, Call c.args.function ps)) (wrong_count c.args.values.items parameters.items c.len.result c.len-2.result (c.len.ensures ∙ c.args.values.ok.0) (c.len-2.ensures ∙ parameters.ok.0) c.if-len.true)
