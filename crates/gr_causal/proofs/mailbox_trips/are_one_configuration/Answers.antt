use Rattle.std.proofs.Common.{◌≡◌, ◌<◌, ◌↔◌, ℕ, suc, List, [], ◌∷◌, IsTrue, drop, get_or, length, sym, ◌∙◌, ap, subst, add-one, ◌≤◌, ◌==◌, Bool, eqb-true, eq-eqb}
use Rattle.std.proofs.lemmas.List.{drop_all, nil_from_length}
use Rattle.gr_causal.specs.Orders.Swaps.{none}
use Rattle.std.proofs.Math.Seq.{drop-cons}
use Rattle.std.specs.List.{remove}
use Rattle.gr_causal.specs.declared.mailboxes.Event.{Event}
use Rattle.gr_causal.specs.Orders.{Swaps}
use Rattle.gr_causal.specs.Mailboxes.{clash}
use Rattle.gr_causal.proofs.FrontLemmas.{after_front, none_left, apart_events}
use Rattle.gr_causal.proofs.mailbox_trips.are_one_configuration.Goals as goal

-- one step further: the first step is found in what is left
next : (P : Type 0) (L : List Event) (k : ℕ) (other : Event) (seen left after : List Event) (i : ℕ) → k < length L → seen ≡ left → after ≡ remove left i
    → Swaps clash (get_or L k other ∷ remove seen i) seen
    → P ↔ Swaps clash (drop k L) left → P ↔ Swaps clash (drop (suc k) L) after
next P L k other seen left after i l e r w h =
    let s : Swaps clash (get_or L k other ∷ after) left = subst (λ z. Swaps clash (get_or L k other ∷ z) left) (sym r) (subst (λ z. Swaps clash (get_or L k other ∷ remove z i) z) e w) in
    let f = after_front clash apart_events (get_or L k other) (drop (suc k) L) left after s in
    let d : drop k L ≡ get_or L k other ∷ drop (suc k) L = drop-cons L k other l in (
      λ p. f.0 (subst (λ z. Swaps clash z left) d (h.0 p)),
      λ v. h.1 (subst (λ z. Swaps clash z left) (sym d) (f.1 v)),
    )

pub loop-event-preserved : goal.loop-event-preserved
loop-event-preserved c = rw add-one (next _ c.args.first.now c.loop-event.event-index _ c.deref.result.now c.loop-event.left.items _ c.in-Some.place c.loop-event-test.true c.deref.ensures.value c.remove.ensures.items c.in-Some.ensures.some.1 c.loop-event.invariant)

-- at the end nothing may be left
ended : (P : Type 0) (L : List Event) (k : ℕ) (left : List Event) (n : ℕ) (b : Bool) → length L ≤ k → n ≡ length left → b ≡ (n == 0) → P ↔ Swaps clash (drop k L) left → IsTrue b ↔ P
ended P L k left n b l len is h =
    let d = drop_all k L l in (
      λ t.
          let z : n ≡ 0 = eqb-true n 0 (sym is ∙ t) in
          let e : left ≡ [] = nil_from_length left (sym len ∙ z) in
          h.1 (subst (λ z. Swaps clash z left) (sym d) (subst (Swaps clash []) (sym e) none)),
      λ p.
          let e : left ≡ [] = none_left clash apart_events left (subst (λ z. Swaps clash z left) d (h.0 p)) in
          let z : n ≡ 0 = len ∙ ap length e in
          is ∙ eq-eqb n 0 z,
    )

pub returns : goal.returns
returns c = ended _ c.args.first.now c.loop-event.event-index c.loop-event.left.items _ c.is_empty.result c.loop-event-test.false c.loop-event.left.ok.0 c.is_empty.ensures c.loop-event.invariant
