use Rattle.std.proofs.Common.{◌≡◌, ◌+◌, ◌-◌, ◌∙◌, length, min, sym, subst, arith}
use Rattle.gr_facts.specs.MovedAsked.{MoveAll, MovesOf}
use Rattle.gr_facts.specs.Views.{moved_in}
use Rattle.gr_follow.specs.Following.{StandsAfter}
use Rattle.gr_facts.proofs.MovedLemmas.{enough, kept_many, move_more, none_moved}
use Rattle.gr_facts.proofs.moving.moves_from.Goals as goal

pub returns-then-place-kept-clause-moves : goal.returns-then-place-kept-clause-moves
returns-then-place-kept-clause-moves c = λ p w s.
    let many = kept_many p w c.args.leader.now s in
    let count = rw c.log.ensures at c.len-kept.ensures in
    none_moved p w.past.log c.args.place c.args.most c.new-rows.result.items c.new-rows.ensures.items
    (omega (arith, many, count, c.if-place-kept.true))

pub loop-alloc-init : goal.loop-alloc-init
loop-alloc-init c = record {
  of = c.follow.ensures.of;
  few = omega (arith, c.new-rows.ensures.len);
  there = λ p w s. subst {_, _} (λ n. StandsAfter p w.past.log n c.follow.new.follower) (omega (arith, c.new-rows.ensures.len))
      (c.in_ok-follow.ensures.there p w s);
  moves = λ p w s. subst {_, _} (MoveAll p w.past.log c.args.place) (sym c.new-rows.ensures.items) tt;
}

pub loop-alloc-preserved : goal.loop-alloc-preserved
loop-alloc-preserved c =
    let count : length c.loop-alloc.rows.items ≡ c.loop-alloc.rows.len = omega (arith, c.loop-alloc.rows.ok.0) in
    let at : c.args.place + c.loop-alloc.rows.len ≡ c.args.place + c.len-in-loop-alloc.result = omega (arith, c.len-in-loop-alloc.ensures) in
    record {
      of = c.move_on.ensures.of;
      few = omega (arith, c.loop-alloc-test.true, c.len.ensures, c.in_ok-push.ensures.len);
      there = λ p w s.
          subst {_, _} (λ n. StandsAfter p w.past.log n c.move_on.new.follower) (omega (arith, c.len-in-loop-alloc.ensures, c.in_ok-push.ensures.len))
          (c.in_ok-row.ensures.there p w s
          (subst {_, _} (λ n. StandsAfter p w.past.log n c.loop-alloc.follower) at (c.loop-alloc.invariant.there p w s)));
      moves = λ p w s. rw c.in_ok-push.ensures.items
          (move_more p w.past.log c.args.place c.loop-alloc.rows.items c.in_ok-row.row (c.loop-alloc.invariant.moves p w s)
          (subst {_, _} (λ n. MovesOf p w.past.log n (moved_in c.in_ok-row.row)) (omega (arith, count, c.len-in-loop-alloc.ensures))
          (c.in_ok-row.ensures.moves p w s
          (subst {_, _} (λ n. StandsAfter p w.past.log n c.loop-alloc.follower) at (c.loop-alloc.invariant.there p w s)))));
    }

pub returns-clause-moves : goal.returns-clause-moves
returns-clause-moves c = λ p w s.
    let many = kept_many p w c.args.leader.now s in
    let kept = rw c.log.ensures at c.len-kept.ensures in
    let count : length c.loop-alloc.rows.items ≡ c.loop-alloc.rows.len = omega (arith, c.loop-alloc.rows.ok.0) in
    let all : length c.loop-alloc.rows.items ≡ c.min-count.result =
    omega (arith, count, c.loop-alloc.invariant.few, c.loop-alloc-test.false, c.len.ensures) in
    let same : c.len-kept.result ≡ length w.past.log = omega (arith, many, kept) in
    let is : length c.loop-alloc.rows.items ≡ min c.args.most (length w.past.log - c.args.place) =
    all ∙ subst {_, _} (λ n. c.min-count.result ≡ min c.args.most (n - c.args.place)) same c.min-count.ensures in
    record {
      all = c.loop-alloc.invariant.moves p w s;
      few = omega (arith, all, c.min-count.ensures);
      end = enough (length c.loop-alloc.rows.items) c.args.most (length w.past.log) c.args.place is (omega (arith, same, c.if-place-kept.false));
    }
