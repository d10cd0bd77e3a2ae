use Rattle.std.proofs.Common.{◌≡◌, ◌++◌, ap, sym, subst, length, arith, [], ◌∷◌}
use Rattle.std.specs.Vec.Iter.{into_iter_items}
use Rattle.gr_tables.specs.NamedGoroutines.{goroutines_of}
use Rattle.gr_step.specs.Wakes.{LeadsOver}
use Rattle.gr_step.proofs.WakeLemmas.{leads_join, live_next, woken_next, names_next}
use Rattle.gr_step.proofs.waking.wake_each.Goals as goal

pub loop-go-preserved : goal.loop-go-preserved
loop-go-preserved c =
    let steps = c.in-Some.ensures.steps in
    let gone = steps.1 in
    let short = ap length steps.0 in
    let f = goroutines_of c.loop-go.goroutines in
    let g = goroutines_of c.wake-undo.new.goroutines in
    let all = into_iter_items c.loop-go.go-iterator in
    let rest = into_iter_items c.next.new.self in
    let pushed : c.push_reserved.new.self.items ≡ c.loop-go.met.items ++ (c.in-Some.go, c.wake-undo.result) ∷ [] = c.push_reserved.ensures.items in
    record {
      live = live_next f g c.in-Some.go all rest steps.0 c.wake-undo.ensures.woken c.loop-go.invariant.live;
      woken = woken_next f g c.in-Some.go all rest steps.0 _ c.wake-undo.ensures.woken c.loop-go.invariant.woken;
      back = subst (λ us. LeadsOver us (goroutines_of c.args.goroutines.now) g) (sym pushed)
          (leads_join c.loop-go.met.items ((c.in-Some.go, c.wake-undo.result) ∷ []) (goroutines_of c.args.goroutines.now) f g
          c.loop-go.invariant.back c.wake-undo.ensures.back);
      names = names_next c.loop-go.met.items c.push_reserved.new.self.items all rest c.in-Some.go c.wake-undo.result _ pushed steps.0 c.loop-go.invariant.names;
      counted = omega arith;
      room = omega (arith, c.push_reserved.ensures.capacity, c.push_reserved.ensures.len);
    }
