use Rattle.std.proofs.Common.{◌∙◌, ◌∷◌, [], ap, subst}
use Rattle.gr_tables.specs.NamedChannels.{contents_of, rooms_of, withdrawn, MoreAtGates}
use Rattle.gr_tables.proofs.RoomLemmas.{within_self}
use Rattle.gr_tables.proofs.Withdrawals.{still_fit, still_have_rooms, took_all}
use Rattle.gr_record.specs.Fews.{members}
use Rattle.gr_step.proofs.objects.Objects.exchange_with_more.Goals as goal

pub put_back-requires-clause-fits : goal.put_back-requires-clause-fits
put_back-requires-clause-fits c =
    still_fit ((c.args.selecting.channel, c.args.undo) ∷ []) (members c.in_ok-done.done) c.args.self.now.channels c.leave_after.new.channels
    c.in_ok-done.ensures.back c.both_arrive.new.self.channels c.requires.fits (ap contents_of c.both_arrive.ensures.channels)

pub put_back-requires-clause-room : goal.put_back-requires-clause-room
put_back-requires-clause-room c =
    still_have_rooms ((c.args.selecting.channel, c.args.undo) ∷ []) (members c.in_ok-done.done) c.args.self.now.channels c.leave_after.new.channels
    c.in_ok-done.ensures.back c.both_arrive.new.self.channels c.requires.room
    (rw c.both_arrive.ensures.channels (λ q. within_self (rooms_of c.leave_after.new.channels q)))

pub returns-in-Err-clause-err_channels : goal.returns-in-Err-clause-err_channels
returns-in-Err-clause-err_channels c =
    took_all ((c.args.selecting.channel, c.args.undo) ∷ []) (members c.in_ok-done.done) c.args.self.now.channels c.leave_after.new.channels
    c.in_ok-done.ensures.back c.both_arrive.new.self.channels c.put_back.new.channels (ap contents_of c.both_arrive.ensures.channels)
    (rw c.both_arrive.ensures.channels (λ q. within_self (rooms_of c.leave_after.new.channels q))) c.put_back.ensures

pub returns-in-Ok-clause-ok : goal.returns-in-Ok-clause-ok
returns-in-Ok-clause-ok c = λ operation reads writes h. record {
  own = c.in-Ok.own;
  met = c.in-Ok.met;
  changed = members c.in_ok-done.done;
  tells = c.told_with.ensures operation reads writes h;
  exchanges = record {
    both = c.in-Ok.ensures.after;
    withdraws = ap contents_of c.both_arrive.ensures.channels ∙ c.in_ok-done.ensures.contents
        ∙ ap (λ names. withdrawn c.args.selecting.go names (contents_of c.args.self.now.channels)) c.deref.ensures.value;
    follows = rw c.both_arrive.ensures.channels c.in_ok-done.ensures.back;
    gates = subst {_, _}
        (λ names. MoreAtGates names ((c.args.selecting.channel, c.args.undo) ∷ []) (members c.in_ok-done.done)) c.deref.ensures.value
        c.in_ok-done.ensures.gates;
    run = c.both_arrive.ensures.run;
  };
}
