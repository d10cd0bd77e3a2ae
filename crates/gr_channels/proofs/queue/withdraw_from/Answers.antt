use Rattle.std.proofs.Common.{◌≡◌, ◌<◌, ◌-◌, length, sym, ◌∙◌, arith, true, false}
use Rattle.gr_channels.specs.Queues.{is_of}
use Rattle.gr_channels.proofs.QueueLemmas.{rotated_start, rotated_out, rotated_stay, rotated_room, rotated_end}
use Rattle.gr_channels.proofs.queue.withdraw_from.Goals.{then-eq, else-eq}
use Rattle.gr_channels.proofs.queue.withdraw_from.Goals as goal

pub loop-turn-init : goal.loop-turn-init
loop-turn-init g c = record {
  rotated = rw (c.in_ok-gone.ensures.items) (rotated_start c.args.name.now c.args.queue.now.items);
  fits = omega (arith, c.in_ok-gone.ensures.exact, c.count_of.ensures);
  len = omega (arith, c.in_ok-gone.ensures.len);
  same = omega arith;
}

pub unwrap-requires : goal.unwrap-requires
unwrap-requires g c =
    let front = rw c.unwrap-waiter.ensures at c.pop_front.ensures.items in
    let less : c.loop-turn.turn < length c.args.queue.now.items = omega arith in
    let is : is_of c.args.name.now c.unwrap-waiter.result ≡ true = sym c.eq.ensures ∙ c.if-eq.true in
    let room = rotated_room _ _ _ _ _ _ _ (c.loop-turn.invariant.rotated) less front is in
    c.push.ensures.succeeds (omega (arith, room, c.loop-turn.invariant.fits))

pub loop-turn-preserved : goal.loop-turn-preserved
loop-turn-preserved g c =
    let front = rw c.unwrap-waiter.ensures at c.pop_front.ensures.items in
    let less : c.loop-turn.turn < length c.args.queue.now.items = omega arith in
    let popped = rw c.unwrap-waiter.ensures at c.pop_front.ensures.len in
    elim c.if-eq.branch [
      | then-eq w ↦
          let is : is_of c.args.name.now c.unwrap-waiter.result ≡ true = sym c.eq.ensures ∙ w.if-eq.true in
          let place : c.loop-turn.turn - w.len.result ≡ c.loop-turn.turn - length c.loop-turn.gone.items = omega (arith, w.len.ensures) in
          let more = rotated_out _ _ _ _ _ _ _ _ (c.loop-turn.invariant.rotated) less front is place in
          let pushed = rw w.unwrap.ensures at w.push.ensures.items in
          let longer = rw w.unwrap.ensures at w.push.ensures.len in
          rw (w.queue-is, w.gone-is) (record {
            rotated = rw pushed more;
            fits = omega (arith, w.push.ensures.capacity, c.loop-turn.invariant.fits);
            len = omega (arith, longer, popped, c.loop-turn.invariant.len);
            same = omega (arith, c.pop_front.ensures.capacity, c.loop-turn.invariant.same);
          })
      | else-eq w ↦
          let is : is_of c.args.name.now c.unwrap-waiter.result ≡ false = sym c.eq.ensures ∙ w.if-eq.false in
          let more = rotated_stay _ _ _ _ _ _ _ (c.loop-turn.invariant.rotated) less front is in
          rw (w.queue-is, w.gone-is) (record {
            rotated = rw (w.push_back_reserved.ensures.items) more;
            fits = c.loop-turn.invariant.fits;
            len = omega (arith, w.push_back_reserved.ensures.len, popped, c.loop-turn.invariant.len);
            same = omega (arith, w.push_back_reserved.ensures.capacity, c.pop_front.ensures.capacity, c.loop-turn.invariant.same);
          })
    ]

pub returns-clause-back : goal.returns-clause-back
returns-clause-back g c = (rotated_end _ _ _ _ _ (c.loop-turn.invariant.rotated) (omega arith)).1

pub returns-clause-fit : goal.returns-clause-fit
returns-clause-fit g c = (rotated_end _ _ _ _ _ (c.loop-turn.invariant.rotated) (omega arith)).2
