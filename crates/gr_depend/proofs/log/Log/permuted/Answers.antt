use Rattle.std.proofs.Common.{◌∙◌, ℕ, map, subst, sym, ap}
use Rattle.gr_causal.specs.Orders.{IsOrder}
use Rattle.gr_record.specs.Conflicts.{conflict_of}
use Rattle.gr_depend.specs.Ordering.{name, elements_at}
use Rattle.gr_depend.specs.Turned.{AreTurned, AreFirstTurned}
use Rattle.gr_depend.proofs.OrderingLemmas.{once, keeps, breaks_at, names_in_order}
use Rattle.gr_depend.proofs.log.Log.permuted.Goals as goal

pub returns-in-Some-clause-why : goal.returns-in-Some-clause-why
returns-in-Some-clause-why c =
    let rs = c.args.self.now.records.items in
    breaks_at rs c.args.order.now c.in_ok-moves.moves.from.items c.in_ok-moves.moves.to.items c.requires c.in_ok-moves.ensures.ok c.in-Some.earlier c.in-Some.later
    (subst (λ to. AreFirstTurned rs to c.in-Some.earlier c.in-Some.later) c.deref-2.ensures.value c.in-Some.ensures)

pub rearrange-requires-clause-distinct : goal.rearrange-requires-clause-distinct
rearrange-requires-clause-distinct c =
    once c.args.self.now.records.items c.args.order.now c.in_ok-moves.moves.from.items c.in_ok-moves.moves.to.items c.requires c.in_ok-moves.ensures.ok

pub rearrange-requires-clause-order : goal.rearrange-requires-clause-order
rearrange-requires-clause-order c =
    let rs = c.args.self.now.records.items in
    subst (λ from. IsOrder conflict_of rs (elements_at from rs)) (sym c.deref-3.ensures.value)
    (keeps rs c.args.order.now c.in_ok-moves.moves.from.items c.in_ok-moves.moves.to.items c.requires c.in_ok-moves.ensures.ok
    (subst (λ to. (p q : ℕ) → AreTurned rs to p q → ⊥) c.deref-2.ensures.value c.in_default.ensures))

pub returns-clause-order : goal.returns-clause-order
returns-clause-order c =
    let rs = c.args.self.now.records.items in
    subst (IsOrder conflict_of rs)
    (sym (c.in_ok-rearrange.ensures.ok ∙ ap (λ from. elements_at from rs) c.deref-3.ensures.value))
    (keeps rs c.args.order.now c.in_ok-moves.moves.from.items c.in_ok-moves.moves.to.items c.requires c.in_ok-moves.ensures.ok
    (subst (λ to. (p q : ℕ) → AreTurned rs to p q → ⊥) c.deref-2.ensures.value c.in_default.ensures))

pub returns-clause-names : goal.returns-clause-names
returns-clause-names c =
    let rs = c.args.self.now.records.items in
    ap (map name) (c.in_ok-rearrange.ensures.ok ∙ ap (λ from. elements_at from rs) c.deref-3.ensures.value)
    ∙ names_in_order rs c.args.order.now c.in_ok-moves.moves.from.items c.in_ok-moves.ensures.ok.count c.in_ok-moves.ensures.ok.named
