use Rattle.std.proofs.Common.{sym, ◌∙◌, true≢false, eqb-true, eq-eqb}
use Rattle.gr_tree.specs.Exprs.{names_of}
use Rattle.gr_tree.specs.Statements.{optional}
use Rattle.gr_program.specs.TypeViews.{ty_of}
use Rattle.gr_exprs.specs.Tables.{scope_of}
use Rattle.gr_program.specs.Views.{expr_of}
use Rattle.gr_types.specs.Declaring.{all_placed}
use Rattle.gr_exprs.specs.Checking.{meaning_of, meanings_of}
use Rattle.gr_types.proofs.Declaring.{free_on, place_on, place_end, place_over}
use Rattle.gr_types.proofs.assigning.declaration.declare_each.Goals as goal

pub loop-name-preserved : goal.loop-name-preserved
loop-name-preserved c =
    let l = c.loop-name in
    let t = optional ty_of c.args.written.now in
    let m = scope_of l.scope in
    let o = all_placed t (names_of c.args.names.now) (meanings_of c.args.values.items) (scope_of c.args.scope.now) in
    let k = c.in_ok-variable.variable in
    let p = c.in_ok-variable.term in
    let n = scope_of c.declare_one.new.scope in record {
      free = free_on c.args.names.now l.name-index t l.values.items m l.variables.items l.terms.items c.name-item.result c.deref.result.now (meaning_of c.in-Some.value) (k, expr_of p) n c.loop-name-test.true c.name-item.is c.deref.ensures.value c.in_ok-variable.ensures l.invariant.free;
      so_far = place_on c.args.names.now l.name-index t l.values.items m l.variables.items l.terms.items o l.invariant.so_far c.name-item.result c.deref.result.now c.in-Some.value c.pop_front.new.self.items k p n c.push.new.self.items c.push-in-loop-name.new.self.items c.loop-name-test.true c.name-item.is c.deref.ensures.value c.in-Some.ensures.items c.in_ok-variable.ensures c.in_ok-push.ensures.items c.in_ok-push-2.ensures.items;
    }

pub returns-then-not-is_empty : goal.returns-then-not-is_empty
returns-then-not-is_empty c =
    let l = c.loop-name in
    let t = optional ty_of c.args.written.now in
    let o = all_placed t (names_of c.args.names.now) (meanings_of c.args.values.items) (scope_of c.args.scope.now) in
    place_over c.args.names.now l.name-index t l.values.items (scope_of l.scope) l.variables.items l.terms.items o l.invariant.so_far c.loop-name-test.false
    (λ none. true≢false (sym (eq-eqb l.values.len 0 (l.values.ok.0 ∙ none)) ∙ sym c.is_empty.ensures ∙ c.if-not-is_empty.true))

pub returns : goal.returns
returns c =
    let l = c.loop-name in
    let t = optional ty_of c.args.written.now in
    let o = all_placed t (names_of c.args.names.now) (meanings_of c.args.values.items) (scope_of c.args.scope.now) in
    place_end c.args.names.now l.name-index t l.values.items (scope_of l.scope) l.variables.items l.terms.items o l.invariant.so_far c.loop-name-test.false
    (sym l.values.ok.0 ∙ eqb-true l.values.len 0 (sym c.is_empty.ensures ∙ c.if-not-is_empty.false))
