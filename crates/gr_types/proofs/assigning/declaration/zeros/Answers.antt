use Rattle.std.proofs.Common.{ap}
use Rattle.gr_tree.specs.Exprs.{names_of}
use Rattle.gr_program.specs.declared.program.Expr.TheVariants as terms
use Rattle.gr_program.specs.Programs as pure
use Rattle.gr_program.specs.TypeViews.{ty_of}
use Rattle.gr_typing.specs.Assignments as assigning
use Rattle.gr_types.proofs.Declaring.{one_zero, all_zeros}
use Rattle.gr_types.proofs.assigning.declaration.zeros.Goals as goal

pub loop-preserved : goal.loop-preserved
loop-preserved c =
    let t = ty_of c.args.own.now in
    one_zero c.args.names.now c.loop.index t c.loop.values.items c.push.new.self.items (terms.Literal c.zero.result) (assigning.zeros (names_of c.args.names.now) t) c.loop-test.true c.loop.invariant (ap pure.Literally c.zero.ensures) c.in_ok-push.ensures.items

pub returns : goal.returns
returns c =
    let t = ty_of c.args.own.now in
    all_zeros c.args.names.now c.loop.index t c.loop.values.items (assigning.zeros (names_of c.args.names.now) t) c.loop-test.false c.loop.invariant
