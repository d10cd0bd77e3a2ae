use Rattle.std.proofs.Common.{◌∙◌, sym, arith}
use Rattle.std.proofs.lemmas.Result.{err_from_is_err_and}
use Rattle.gr_scan.specs.Tokens.{tokens_of}
use Rattle.gr_tree.specs.Exprs.{type_of, names_of}
use Rattle.gr_tree.specs.Files.{groups_of}
use Rattle.gr_syntax.specs.Reading.{Found}
use Rattle.gr_syntax.specs.Views.{found_of}
use Rattle.gr_syntax.proofs.Groups.{Groups}
use Rattle.gr_syntax.proofs.Turns.{fails_on}
use Rattle.gr_syntax.proofs.FileTurns.{is_there, is_none, groups_unnamed, groups_untyped, groups_last, groups_trail, groups_go, groups_push, type_shorter}
use Rattle.gr_syntax.proofs.function.groups.Goals as goal

pub returns-in_err-names : goal.returns-in_err-names
returns-in_err-names c =
    let gs : Found Groups = (groups_of c.loop-found.found.value.items, 0, tokens_of c.loop-found.found.rest.now) in
    let p = err_from_is_err_and c.from_residual.result c.from_residual.ensures.1 in
    rw (p.1, p.2) (fails_on c.in_err-names.field-0.0 _ _ (λ d e. sym c.loop-found.invariant.gives ∙ groups_unnamed c.args.limit gs d e) c.in_err-names.ensures.gives)

pub returns-in_err-type_tree : goal.returns-in_err-type_tree
returns-in_err-type_tree c =
    let gs : Found Groups = (groups_of c.loop-found.found.value.items, 0, tokens_of c.loop-found.found.rest.now) in
    let xs = found_of (λ v. names_of v.items) c.in_ok-names.names in
    let p = err_from_is_err_and c.from_residual-in_err-type_tree.result c.from_residual-in_err-type_tree.ensures.1 in
    rw (p.1, p.2) (fails_on c.in_err-type_tree.field-0.0 _ _ (λ d e. sym c.loop-found.invariant.gives ∙ groups_untyped c.args.limit gs xs d c.in_ok-names.ensures.gives e) c.in_err-type_tree.ensures.gives)

pub returns-in_default : goal.returns-in_default
returns-in_default c =
    let gs : Found Groups = (groups_of c.loop-found.found.value.items, 0, tokens_of c.loop-found.found.rest.now) in
    let xs = found_of (λ v. names_of v.items) c.in_ok-names.names in
    let t = found_of type_of c.in_ok-type_tree.type_tree in
    let e = groups_last c.args.limit gs xs t c.in_ok-names.ensures.gives c.in_ok-type_tree.ensures.gives c.in_default.ensures.value in
    let p = groups_push c.loop-found.found.value.items (record { names = c.in_ok-names.names.value; type_tree = c.in_ok-type_tree.type_tree.value }) in
    let q = c.loop-found.invariant.gives in
    let r = c.in_ok-push.ensures.items in
    let z = c.loop-found.invariant.low in
    cc

pub returns-then-is_some : goal.returns-then-is_some
returns-then-is_some c =
    let gs : Found Groups = (groups_of c.loop-found.found.value.items, 0, tokens_of c.loop-found.found.rest.now) in
    let xs = found_of (λ v. names_of v.items) c.in_ok-names.names in
    let t = found_of type_of c.in_ok-type_tree.type_tree in
    let m = is_there c.after-in-loop-found.result _ c.is_some.result c.after-in-loop-found.ensures.value c.is_some.ensures c.if-is_some.true in
    let e = groups_trail c.args.limit gs xs t (tokens_of c.in-Some.more.now) m.0 c.in_ok-names.ensures.gives c.in_ok-type_tree.ensures.gives c.in-Some.ensures.value m.1 in
    let p = groups_push c.loop-found.found.value.items (record { names = c.in_ok-names.names.value; type_tree = c.in_ok-type_tree.type_tree.value }) in
    let q = c.loop-found.invariant.gives in
    let r = c.in_ok-push.ensures.items in
    let z = c.loop-found.invariant.low in
    cc

pub loop-found-preserved : goal.loop-found-preserved
loop-found-preserved c =
    let gs : Found Groups = (groups_of c.loop-found.found.value.items, 0, tokens_of c.loop-found.found.rest.now) in
    let xs = found_of (λ v. names_of v.items) c.in_ok-names.names in
    let t = found_of type_of c.in_ok-type_tree.type_tree in
    let m = is_none c.after-in-loop-found.result _ c.is_some.result c.after-in-loop-found.ensures.value c.is_some.ensures c.if-is_some.false in
    let e = groups_go c.args.limit gs xs t (tokens_of c.in-Some.more.now) c.in_ok-names.ensures.gives c.in_ok-type_tree.ensures.gives c.in-Some.ensures.value m in
    let p = groups_push c.loop-found.found.value.items (record { names = c.in_ok-names.names.value; type_tree = c.in_ok-type_tree.type_tree.value }) in
    let q = c.loop-found.invariant.gives in
    let r = c.in_ok-push.ensures.items in
    record { gives = cc; low = c.loop-found.invariant.low }

pub loop-found-smaller : goal.loop-found-smaller
loop-found-smaller c =
    omega (
      arith,
      c.in_ok-names.ensures.shorter,
      type_shorter c.args.limit c.in_ok-names.names.rest.now c.in_ok-type_tree.type_tree.rest.now (type_of c.in_ok-type_tree.type_tree.value) c.in_ok-type_tree.type_tree.height c.in_ok-type_tree.ensures.gives,
      c.in-Some.ensures.shorter,
    )
