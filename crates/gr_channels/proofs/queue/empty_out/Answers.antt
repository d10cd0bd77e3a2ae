use Rattle.std.proofs.Common.{◌∙◌, arith}
use Rattle.gr_channels.proofs.QueueLemmas.{emptied_more, emptied_fit}
use Rattle.gr_channels.proofs.queue.empty_out.Goals as goal

pub loop-waiter-preserved : goal.loop-waiter-preserved
loop-waiter-preserved g c =
    let pushed = rw c.unwrap.ensures at c.push.ensures.items in
    let longer = rw c.unwrap.ensures at c.push.ensures.len in
    record {
      back = emptied_more c.loop-waiter.gone.items c.push.new.self.items c.loop-waiter.queue.items c.pop_front.new.self.items c.in-Some.waiter pushed c.in-Some.ensures.items ∙ c.loop-waiter.invariant.back;
      fit = emptied_fit c.loop-waiter.gone.items c.push.new.self.items c.loop-waiter.queue.items c.pop_front.new.self.items c.in-Some.waiter pushed c.in-Some.ensures.items c.loop-waiter.invariant.fit;
      len = omega (arith, longer, c.in-Some.ensures.len);
      fits = omega (arith, longer, c.in-Some.ensures.len, c.push.ensures.capacity);
      same = omega (arith, c.in-Some.ensures.capacity);
    }
