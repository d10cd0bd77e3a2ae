use Rattle.std.proofs.lemmas.Result.{err_from_is_err_and}
use Rattle.gr_tree.specs.Exprs.{names_of}
use Rattle.gr_exprs.specs.Tables.{scope_of}
use Rattle.gr_types.specs.Taking.{targets}
use Rattle.gr_types.proofs.TargetTurns.{target_on, target_refused, targets_end}
use Rattle.gr_types.proofs.assigning.targets.all_targets.Goals as goal

pub returns-in_err-target : goal.returns-in_err-target
returns-in_err-target c =
    let s = scope_of c.args.scope.now in
    let l = c.loop-name in
    let r = c.from_residual-in_err-target in
    let p = err_from_is_err_and r.result r.ensures.1 in
    rw (p.1, p.2) (target_refused s c.args.names.now l.name-index l.targets.items (targets s (names_of c.args.names.now)) l.invariant c.name-item.result c.loop-name-test.true c.name-item.is c.in_err-target.field-0.0 (rw c.deref.ensures.value at c.in_err-target.ensures.value))

pub loop-name-preserved : goal.loop-name-preserved
loop-name-preserved c =
    let s = scope_of c.args.scope.now in
    let l = c.loop-name in
    target_on s c.args.names.now l.name-index l.targets.items (targets s (names_of c.args.names.now)) l.invariant c.name-item.result c.loop-name-test.true c.name-item.is c.in_ok-target.target c.push.new.self.items (rw c.deref.ensures.value at c.in_ok-target.ensures.value) c.in_ok-push.ensures.items

pub returns : goal.returns
returns c =
    let s = scope_of c.args.scope.now in
    let l = c.loop-name in
    targets_end s c.args.names.now l.name-index l.targets.items (targets s (names_of c.args.names.now)) l.invariant c.loop-name-test.false
