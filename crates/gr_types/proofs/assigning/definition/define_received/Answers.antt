use Rattle.std.proofs.Common.{◌≡◌, true, ap, sym, subst}
use Rattle.gr_program.specs.Types.{BoolType}
use Rattle.gr_program.specs.TypeViews.{ty_of}
use Rattle.gr_exprs.specs.Tables.{scope_of}
use Rattle.gr_types.specs.Taking as pure
use Rattle.gr_types.specs.TakerViews.{taker_of}
use Rattle.gr_types.proofs.Settling.{settles_second}
use Rattle.gr_types.proofs.assigning.definition.define_received.Goals as goal

pub settle-requires-2 : goal.settle-requires-2
settle-requires-2 c =
    let pair = c.args.pair in
    let l = taker_of c.in_ok-ok.ok in
    subst (λ m. pure.may_settle pair.ok.now l m ≡ true) (sym (ap (λ p. p.1) c.in_ok-value-2.ensures))
    (settles_second (scope_of c.args.scope.now) pair.value.now pair.ok.now (ty_of c.in_ok-own.own) BoolType (taker_of c.in_ok-value.value) l c.requires c.in_ok-value.ensures c.in_ok-ok.ensures)
