use Rattle.std.proofs.Common.{◌∙◌, ◌++◌, ◌∷◌, [], sym, ap, refl, arith, append-nil}
use Rattle.gr_tables.specs.NamedChannels.{contents_of, rooms_of}
use Rattle.gr_tables.proofs.RoomLemmas.{within_self}
use Rattle.gr_tables.proofs.Withdrawals.{told_more, told_all, one_more_at_gate, follows_more, still_fit, still_have_rooms, took_all}
use Rattle.gr_tables.proofs.channels.Channels.withdraw_after.Goals as goal

pub put_all_back-requires-in-Err-clause-fits : goal.put_all_back-requires-in-Err-clause-fits
put_all_back-requires-in-Err-clause-fits c =
    still_fit c.args.done.items c.loop-name.undos.items c.args.self.now c.loop-name.self c.loop-name.invariant.follows c.loop-name.self c.requires.fits refl

pub put_all_back-requires-in-Err-clause-room : goal.put_all_back-requires-in-Err-clause-room
put_all_back-requires-in-Err-clause-room c =
    still_have_rooms c.args.done.items c.loop-name.undos.items c.args.self.now c.loop-name.self c.loop-name.invariant.follows c.loop-name.self
    c.requires.room (λ q. within_self (rooms_of c.loop-name.self q))

pub returns-in-Err-clause-err : goal.returns-in-Err-clause-err
returns-in-Err-clause-err c =
    took_all c.args.done.items c.loop-name.undos.items c.args.self.now c.loop-name.self c.loop-name.invariant.follows c.loop-name.self
    c.put_all_back-in-Err.new.self
    refl (λ q. within_self (rooms_of c.loop-name.self q)) c.put_all_back-in-Err.ensures

pub put_all_back-requires-in-Err-withdraw_at-clause-fits :
    goal.put_all_back-requires-in-Err-withdraw_at-clause-fits
put_all_back-requires-in-Err-withdraw_at-clause-fits c =
    still_fit c.args.done.items c.loop-name.undos.items c.args.self.now c.loop-name.self c.loop-name.invariant.follows c.withdraw_at.new.self
    c.requires.fits c.in-Err-withdraw_at.ensures.err

pub put_all_back-requires-in-Err-withdraw_at-clause-room :
    goal.put_all_back-requires-in-Err-withdraw_at-clause-room
put_all_back-requires-in-Err-withdraw_at-clause-room c =
    still_have_rooms c.args.done.items c.loop-name.undos.items c.args.self.now c.loop-name.self c.loop-name.invariant.follows
    c.withdraw_at.new.self c.requires.room c.in-Err-withdraw_at.ensures.err_rooms

pub returns-in-Err-withdraw_at-clause-err : goal.returns-in-Err-withdraw_at-clause-err
returns-in-Err-withdraw_at-clause-err c =
    took_all c.args.done.items c.loop-name.undos.items c.args.self.now c.loop-name.self c.loop-name.invariant.follows c.withdraw_at.new.self
    c.put_all_back-in-Err-withdraw_at.new.self
    c.in-Err-withdraw_at.ensures.err c.in-Err-withdraw_at.ensures.err_rooms c.put_all_back-in-Err-withdraw_at.ensures

pub loop-name-preserved-in_default : goal.loop-name-preserved-in_default
loop-name-preserved-in_default c =
    let undos = c.loop-name.undos.items in
    record {
      told = told_more c.args.go.now c.args.names.now c.loop-name.name-index c.name-item.result (contents_of c.loop-name.self)
          (contents_of c.withdraw_at.new.self) c.loop-name-test.true c.name-item.is c.in-Ok-withdraw_at.ensures.contents
          ∙ c.loop-name.invariant.told;
      follows = follows_more c.args.done.items undos c.args.self.now c.loop-name.self c.loop-name.invariant.follows [] undos c.withdraw_at.new.self
          (sym (append-nil undos)) (rw c.in_default.is at c.in-Ok-withdraw_at.ensures.back);
      gates = c.loop-name.invariant.gates;
      few = omega arith;
      room = omega arith;
    }

pub loop-name-preserved : goal.loop-name-preserved
loop-name-preserved c =
    let undos = c.loop-name.undos.items in
    let pushed = rw c.unwrap.ensures at c.push.ensures.items in
    let longer = rw c.unwrap.ensures at c.push.ensures.len in
    let more = pushed ∙ ap (λ x. undos ++ (x, c.in-Some.undo) ∷ []) c.in-Ok.ensures in
    record {
      told = told_more c.args.go.now c.args.names.now c.loop-name.name-index c.name-item.result (contents_of c.loop-name.self)
          (contents_of c.withdraw_at.new.self) c.loop-name-test.true c.name-item.is c.in-Ok-withdraw_at.ensures.contents
          ∙ c.loop-name.invariant.told;
      follows = follows_more c.args.done.items undos c.args.self.now c.loop-name.self c.loop-name.invariant.follows
          ((c.name-item.result, c.in-Some.undo) ∷ []) c.push.new.self.items c.withdraw_at.new.self more
          (rw c.in-Some.is at c.in-Ok-withdraw_at.ensures.back);
      gates = one_more_at_gate c.args.names.now c.loop-name.name-index c.name-item.result c.args.done.items undos c.push.new.self.items c.in-Some.undo
          c.loop-name-test.true c.name-item.is more (rw c.in-Some.is at c.in-Ok-withdraw_at.ensures.gate) c.loop-name.invariant.gates;
      few = omega (arith, longer);
      room = omega (arith, c.push.ensures.capacity);
    }

pub returns-clause-contents : goal.returns-clause-contents
returns-clause-contents c =
    told_all c.args.go.now c.args.names.now c.loop-name.name-index (contents_of c.loop-name.self) c.loop-name-test.false ∙ c.loop-name.invariant.told
