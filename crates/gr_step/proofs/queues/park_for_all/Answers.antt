use Rattle.std.proofs.Common.{[], ◌∷◌, sym, append-nil, arith}
use Rattle.gr_step.proofs.QueueLemmas.{none_queued, here_made, queueing_next, all_queued, queued_fit, queued_room, unqueued}
use Rattle.gr_step.proofs.queues.park_for_all.Goals as goal

pub loop-clause-init : goal.loop-clause-init
loop-clause-init c = record {
  queueing = rw c.in_ok-undos.ensures.items (none_queued c.args.go.now c.args.pending.now c.args.channels.now c.requires);
  few = omega (arith, c.in_ok-undos.ensures.len);
  room = omega (arith, c.in_ok-undos.ensures.capacity);
}

pub park_for-requires : goal.park_for-requires
park_for-requires c =
    here_made c.args.go.now c.args.pending.now c.loop-clause.clause-index c.loop-clause.undos.items c.args.channels.now c.loop-clause.channels
    c.loop-clause.invariant.queueing c.loop-clause-item.result c.loop-clause-test.true c.loop-clause-item.is

pub put_all_back-requires-clause-fits : goal.put_all_back-requires-clause-fits
put_all_back-requires-clause-fits c =
    queued_fit c.args.go.now c.args.pending.now c.loop-clause.clause-index c.loop-clause.undos.items c.args.channels.now c.loop-clause.channels
    c.loop-clause.invariant.queueing c.park_for.new.channels c.in-Err.ensures.err

pub put_all_back-requires-clause-room : goal.put_all_back-requires-clause-room
put_all_back-requires-clause-room c =
    queued_room c.args.go.now c.args.pending.now c.loop-clause.clause-index c.loop-clause.undos.items c.args.channels.now c.loop-clause.channels
    c.loop-clause.invariant.queueing c.park_for.new.channels c.in-Err.ensures.err

pub returns-in-Err-clause-err : goal.returns-in-Err-clause-err
returns-in-Err-clause-err c =
    unqueued c.args.go.now c.args.pending.now c.loop-clause.clause-index c.loop-clause.undos.items c.args.channels.now c.loop-clause.channels
    c.loop-clause.invariant.queueing c.park_for.new.channels c.in-Err.ensures.err c.put_all_back.new.self c.put_all_back.ensures

pub loop-clause-preserved-in_default : goal.loop-clause-preserved-in_default
loop-clause-preserved-in_default c =
    let undos = c.loop-clause.undos.items in
    record {
      queueing = queueing_next c.args.go.now c.args.pending.now c.loop-clause.clause-index undos c.args.channels.now c.loop-clause.channels
          c.loop-clause.invariant.queueing c.loop-clause-item.result [] undos c.park_for.new.channels c.loop-clause-test.true
          c.loop-clause-item.is c.in-Ok.ensures.contents (rw c.in_default.is at c.in-Ok.ensures.back) (rw c.in_default.is at c.in-Ok.ensures.room)
          (rw c.in_default.is at c.in-Ok.ensures.gate)
          (sym (append-nil undos));
      few = omega arith;
      room = c.loop-clause.invariant.room;
    }

pub loop-clause-preserved : goal.loop-clause-preserved
loop-clause-preserved c =
    let undos = c.loop-clause.undos.items in
    record {
      queueing = queueing_next c.args.go.now c.args.pending.now c.loop-clause.clause-index undos c.args.channels.now c.loop-clause.channels
          c.loop-clause.invariant.queueing c.loop-clause-item.result (c.in-Some.change ∷ []) c.push_reserved.new.self.items c.park_for.new.channels
          c.loop-clause-test.true c.loop-clause-item.is c.in-Ok.ensures.contents (rw c.in-Some.is at c.in-Ok.ensures.back)
          (rw c.in-Some.is at c.in-Ok.ensures.room) (rw c.in-Some.is at c.in-Ok.ensures.gate) c.push_reserved.ensures.items;
      few = omega arith;
      room = omega (arith, c.push_reserved.ensures.capacity, c.loop-clause.invariant.room);
    }

pub returns-clause-contents : goal.returns-clause-contents
returns-clause-contents c =
    all_queued c.args.go.now c.args.pending.now c.loop-clause.clause-index c.loop-clause.undos.items c.args.channels.now c.loop-clause.channels
    c.loop-clause.invariant.queueing c.loop-clause-test.false
