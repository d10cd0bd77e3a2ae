use Rattle.std.proofs.Common.{◌∙◌, sym}
use Rattle.gr_typing.specs.Scopes.{in_blocks}
use Rattle.gr_exprs.specs.Tables.{blocks_of}
use Rattle.gr_exprs.proofs.Scopes.{found_last, not_last, no_block}
use Rattle.gr_exprs.proofs.scope.number_in.Goals as goal

pub returns-then-is_some : goal.returns-then-is_some
returns-then-is_some c =
    found_last _ c.in-Some.others.now c.in-Some.last.now c.args.name.now c.number-number.result (in_blocks (blocks_of c.args.blocks.now) c.args.name.now) c.in-Some.ensures.cases.0 c.number-number.ensures (sym c.is_some.ensures ∙ c.if-is_some.true) c.loop-last.invariant

pub loop-last-preserved : goal.loop-last-preserved
loop-last-preserved c =
    not_last _ c.in-Some.others.now c.in-Some.last.now c.args.name.now c.number-number.result (in_blocks (blocks_of c.args.blocks.now) c.args.name.now) c.in-Some.ensures.cases.0 c.number-number.ensures (sym c.is_some.ensures ∙ c.if-is_some.false) c.loop-last.invariant

pub returns : goal.returns
returns c = no_block _ c.args.name.now (in_blocks (blocks_of c.args.blocks.now) c.args.name.now) c.in_default.ensures.cases c.loop-last.invariant
