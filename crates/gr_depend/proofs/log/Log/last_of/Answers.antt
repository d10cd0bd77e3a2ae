use Rattle.std.proofs.Common.{◌≡◌, ◌+◌, ◌-◌, ◌∙◌, slice_get, Some, subst, arith}
use Rattle.gr_base.specs.declared.objects.Object.TheVariants.{Go}
use Rattle.gr_touches.specs.declared.touch.Touch.{Touch}
use Rattle.gr_record.specs.declared.record.Record.{Record}
use Rattle.gr_depend.specs.Named.{IsNamed}
use Rattle.gr_depend.proofs.NamedLemmas.{NoneAfter, none_more, none_at_all, last_there}
use Rattle.gr_depend.proofs.log.Log.last_of.Goals as goal

pub loop-left-preserved : goal.loop-left-preserved
loop-left-preserved c =
    let rs = c.args.self.now.records.items in
    let is = c.list-touches.ensures ∙ c.args.self.now.touches (Go c.args.go.now) in
    let more : c.loop-left.left ≡ (c.loop-left.left - 1) + 1 = omega arith in
    let touch = c.index-touches-left in
    record {
      within = omega arith;
      none = none_more rs c.args.go.now c.list-touches.result.now is (c.loop-left.left - 1) touch.result (omega arith)
          (subst (λ (t : Touch). (r : Record) → slice_get rs t.place ≡ Some r → r.id.go ≡ c.args.go.now → ⊥) touch.is
          (rw c.place.ensures at c.in_default.ensures.missing))
          (subst (NoneAfter rs c.args.go.now c.list-touches.result.now is) more c.loop-left.invariant.none);
    }

pub returns-in-Some-clause-found : goal.returns-in-Some-clause-found
returns-in-Some-clause-found c =
    let rs = c.args.self.now.records.items in
    let is = c.list-touches.ensures ∙ c.args.self.now.touches (Go c.args.go.now) in
    let more : c.loop-left.left ≡ (c.loop-left.left - 1) + 1 = omega arith in
    let touch = c.index-touches-left in
    last_there rs c.args.go.now c.list-touches.result.now is (c.loop-left.left - 1) touch.result c.in-Some.id.now (omega arith)
    (subst (λ (t : Touch). IsNamed rs t.place c.in-Some.id.now) touch.is (rw c.place.ensures at c.in-Some.ensures.found.0)) c.in-Some.ensures.found.1
    (subst (NoneAfter rs c.args.go.now c.list-touches.result.now is) more c.loop-left.invariant.none)

pub returns-clause-missing : goal.returns-clause-missing
returns-clause-missing c =
    let rs = c.args.self.now.records.items in
    let is = c.list-touches.ensures ∙ c.args.self.now.touches (Go c.args.go.now) in
    let none : c.loop-left.left ≡ 0 = omega arith in
    none_at_all rs c.args.go.now c.list-touches.result.now is
    (subst (NoneAfter rs c.args.go.now c.list-touches.result.now is) none c.loop-left.invariant.none)
