use Rattle.std.proofs.Common.{sym, ◌∙◌, refl}
use Rattle.gr_tables.specs.NamedChannels.{without}
use Rattle.gr_tables.proofs.SeenLemmas.{lent_at, same_contents, keeps_rooms, goes_back}
use Rattle.gr_tables.proofs.AnswerLemmas.{on_err}
use Rattle.gr_tables.proofs.Validity.{lent_valid, gate_valid}
use Rattle.gr_tables.proofs.Withdrawals.{withdrawn_one, nobody_back, withdrawn_at_gate}
use Rattle.gr_tables.proofs.channels.Channels.withdraw_at.Goals as goal

pub returns-in_err-undo-clause-err : goal.returns-in_err-undo-clause-err
returns-in_err-undo-clause-err c =
    let new = c.get_mut.follows.lender c.withdraw.new.self in
    let writes = (c.get_mut.follows.holds c.withdraw.new.self).3 in
    on_err c.from_residual.result _ (same_contents (lent_at c.args.name.now c.in-Some.channel.now c.withdraw.new.self c.args.self.now.map new
    (sym c.in-Some.ensures.value) writes) c.in_err-undo.ensures.err)

pub returns-in_err-undo-clause-err_rooms : goal.returns-in_err-undo-clause-err_rooms
returns-in_err-undo-clause-err_rooms c =
    let new = c.get_mut.follows.lender c.withdraw.new.self in
    let writes = (c.get_mut.follows.holds c.withdraw.new.self).3 in
    on_err c.from_residual.result _ (keeps_rooms (lent_at c.args.name.now c.in-Some.channel.now c.withdraw.new.self c.args.self.now.map new
    (sym c.in-Some.ensures.value) writes) c.in_err-undo.ensures.err_room)

pub returns-then-takes_nothing_back-clause-contents : goal.returns-then-takes_nothing_back-clause-contents
returns-then-takes_nothing_back-clause-contents c =
    let new = c.get_mut.follows.lender c.withdraw.new.self in
    let writes = (c.get_mut.follows.holds c.withdraw.new.self).3 in
    withdrawn_one (lent_at c.args.name.now c.in-Some.channel.now c.withdraw.new.self c.args.self.now.map new (sym c.in-Some.ensures.value) writes)
    c.args.go.now c.in_ok-undo.ensures.ok

pub returns-then-takes_nothing_back-clause-back : goal.returns-then-takes_nothing_back-clause-back
returns-then-takes_nothing_back-clause-back c =
    let new = c.get_mut.follows.lender c.withdraw.new.self in
    let writes = (c.get_mut.follows.holds c.withdraw.new.self).3 in
    nobody_back c.args.self.now _ (lent_at c.args.name.now c.in-Some.channel.now c.withdraw.new.self c.args.self.now.map new
    (sym c.in-Some.ensures.value) writes) c.in_ok-undo.undo (sym c.takes_nothing_back.ensures ∙ c.if-takes_nothing_back.true) c.in_ok-undo.ensures.undone

pub returns-clause-contents : goal.returns-clause-contents
returns-clause-contents c =
    let new = c.get_mut.follows.lender c.withdraw.new.self in
    let writes = (c.get_mut.follows.holds c.withdraw.new.self).3 in
    withdrawn_one (lent_at c.args.name.now c.in-Some.channel.now c.withdraw.new.self c.args.self.now.map new (sym c.in-Some.ensures.value) writes)
    c.args.go.now c.in_ok-undo.ensures.ok

pub returns-clause-back : goal.returns-clause-back
returns-clause-back c =
    let new = c.get_mut.follows.lender c.withdraw.new.self in
    let writes = (c.get_mut.follows.holds c.withdraw.new.self).3 in
    goes_back c.args.self.now _ (lent_at c.args.name.now c.in-Some.channel.now c.withdraw.new.self c.args.self.now.map new
    (sym c.in-Some.ensures.value) writes) c.in_ok-undo.undo c.in_ok-undo.ensures.undone

pub returns-clause-gate : goal.returns-clause-gate
returns-clause-gate c = withdrawn_at_gate c.in_ok-undo.undo c.in_ok-undo.ensures.undo_value

pub invariant_of-self-2 : goal.invariant_of-self-2
invariant_of-self-2 c =
    let old = c.args.self.now in
    let a = c.in-Some.channel.now in
    record {
      are_channels = lent_valid old.map (c.get_mut.follows.lender c.withdraw.new.self) c.args.name.now a c.withdraw.new.self old.are_channels
          (sym c.in-Some.ensures.value) (c.get_mut.follows.holds c.withdraw.new.self).3
          (λ valid. gate_valid a.content c.withdraw.new.self.content
          (without c.args.go.now a.content) c.withdraw.result valid refl refl refl c.withdraw.ensures.ok c.withdraw.ensures.err);
    }
