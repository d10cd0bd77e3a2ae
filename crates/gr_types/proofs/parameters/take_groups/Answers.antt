use Rattle.std.proofs.lemmas.Result.{err_from_is_err_and}
use Rattle.gr_tree.specs.Files.{groups_of}
use Rattle.gr_program.specs.TypeViews.{ty_of}
use Rattle.gr_types.specs.Outlines.{none_taken, take_groups}
use Rattle.gr_types.specs.OutlineViews.{taken_of}
use Rattle.gr_types.proofs.GroupTurns.{group_on, type_refused, names_refused, groups_end}
use Rattle.gr_types.proofs.parameters.take_groups.Goals as goal

pub returns-in_err-own : goal.returns-in_err-own
returns-in_err-own c =
    let l = c.loop-group in
    let p = err_from_is_err_and c.from_residual.result c.from_residual.ensures.1 in
    rw (p.1, p.2) (type_refused c.args.groups.now l.group-index (taken_of l.parameters) (take_groups none_taken (groups_of c.args.groups.now)) l.invariant c.group-item.result c.loop-group-test.true c.group-item.is c.in_err-own.field-0.0 c.in_err-own.ensures.value)

pub returns-in_err-take_each : goal.returns-in_err-take_each
returns-in_err-take_each c =
    let l = c.loop-group in
    let r = c.from_residual-in_err-take_each in
    let p = err_from_is_err_and r.result r.ensures.1 in
    rw (p.1, p.2) (names_refused c.args.groups.now l.group-index (taken_of l.parameters) (take_groups none_taken (groups_of c.args.groups.now)) l.invariant c.group-item.result c.loop-group-test.true c.group-item.is (ty_of c.in_ok-own.own) c.in_err-take_each.field-0.0 c.in_ok-own.ensures.value (rw c.deref.ensures.value at c.in_err-take_each.ensures))

pub loop-group-preserved : goal.loop-group-preserved
loop-group-preserved c =
    let l = c.loop-group in
    group_on c.args.groups.now l.group-index (taken_of l.parameters) (take_groups none_taken (groups_of c.args.groups.now)) l.invariant c.group-item.result c.loop-group-test.true c.group-item.is (ty_of c.in_ok-own.own) (taken_of c.take_each.new.self) c.in_ok-own.ensures.value (rw c.deref.ensures.value at c.in_ok-take_each.ensures)

pub returns : goal.returns
returns c =
    let l = c.loop-group in
    groups_end c.args.groups.now l.group-index (taken_of l.parameters) (take_groups none_taken (groups_of c.args.groups.now)) l.invariant c.loop-group-test.false
