use Rattle.std.proofs.Common.{[], ◌∷◌, ◌++◌, arith, sym, ap, ◌∙◌, append-nil}
use Rattle.gr_touches.proofs.StretchLemmas.{one_further}
use Rattle.gr_touches.proofs.lane.extend.Goals as goal

pub loop-i-init : goal.loop-i-init
loop-i-init c = record { so_far = sym (append-nil c.args.touches.now.items); room = omega (arith, c.requires.room) }

pub loop-i-preserved : goal.loop-i-preserved
loop-i-preserved c = record {
  so_far = one_further c.loop-i.touches.items c.args.touches.now.items c.push_reserved.new.self.items c.args.writes c.args.place c.loop-i.i
      c.loop-i.invariant.so_far (c.push_reserved.ensures.items ∙ ap (λ t. c.loop-i.touches.items ++ t ∷ []) c.new.ensures);
  room = let room = c.loop-i.invariant.room in omega (arith, room, c.push_reserved.ensures.len, c.push_reserved.ensures.capacity);
}
