use Rattle.std.proofs.Common.{sym, ◌∙◌, arith}
use Rattle.gr_channels.proofs.QueueLemmas.{back_first, fit_first}
use Rattle.gr_channels.proofs.queue.put_back.Goals as goal

pub put_at-requires-clause-within : goal.put_at-requires-clause-within
put_at-requires-clause-within g c = omega (arith, (fit_first _ _ _ _ c.in-Some.ensures.items c.loop-place.invariant.fit).0)

pub loop-place-preserved : goal.loop-place-preserved
loop-place-preserved g c = rw c.put_at.ensures.items record {
  back = sym (back_first _ _ _ _ c.in-Some.ensures.items) ∙ c.loop-place.invariant.back;
  fit = (fit_first _ _ _ _ c.in-Some.ensures.items c.loop-place.invariant.fit).1;
  len = omega (arith, c.in-Some.ensures.len);
  room = omega (arith, c.in-Some.ensures.len);
  same = omega arith;
}
