use Rattle.std.proofs.Common.{◌≡◌, ◌+◌, ◌∙◌, length, sym, ap, inr, arith}
use Rattle.gr_protocol.proofs.Rows.{tell_more, told_one, told_none}
use Rattle.gr_protocol.proofs.about.rows_from.Goals as goal

pub returns-in_default : goal.returns-in_default
returns-in_default c = λ p w s.
    let count : length c.loop-alloc.told.items ≡ c.loop-alloc.told.len = omega (arith, c.loop-alloc.told.ok.0) in
    let at = ap (λ n. c.args.place + n) (c.len-in-loop-alloc.ensures ∙ sym count) in
    record {
      all = c.loop-alloc.invariant.tell p w s;
      few = omega (arith, count, c.loop-alloc.invariant.few);
      end = inr (told_none p w.past.log _ _ _ (c.in_ok-facts.ensures p w s) c.in_default.is at);
    }

pub loop-alloc-preserved : goal.loop-alloc-preserved
loop-alloc-preserved c =
    let count : length c.loop-alloc.told.items ≡ c.loop-alloc.told.len = omega (arith, c.loop-alloc.told.ok.0) in
    let at = ap (λ n. c.args.place + n) (c.len-in-loop-alloc.ensures ∙ sym count) in
    let less = c.loop-alloc-test.true in
    record {
      tell = λ p w s. rw c.in_ok-push.ensures.items
          (tell_more p w.past.log c.args.place c.loop-alloc.told.items c.in-Some.facts (c.loop-alloc.invariant.tell p w s)
          (told_one p w.past.log _ _ _ c.in-Some.facts (c.in_ok-facts.ensures p w s) c.in-Some.is at));
      few = omega (arith, less, c.len.ensures, c.in_ok-push.ensures.len);
    }
