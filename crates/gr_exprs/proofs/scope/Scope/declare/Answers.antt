use Rattle.std.proofs.Common.{◌∙◌, sym}
use Rattle.gr_exprs.specs.Tables.{block_of, blocks_of}
use Rattle.gr_exprs.proofs.Scopes.{declared_is}
use Rattle.gr_exprs.proofs.scope.Scope.declare.Goals as goal

pub returns : goal.returns
returns c =
    let old = c.args.self.now in
    declared_is (block_of old.here) (block_of c.declare.new.self) (blocks_of old.around.items) old.variables.items c.push.new.self.items c.args.name.now c.in_ok-copy.field-0.items c.len-number.result _ (sym c.is_blank.ensures ∙ c.if-is_blank.false) (c.len-number.ensures ∙ old.variables.ok.0) c.in_ok-copy.ensures c.in_ok-name.ensures c.in_ok-declare.ensures c.in_ok-push.ensures.items
