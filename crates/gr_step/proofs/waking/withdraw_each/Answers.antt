use Rattle.std.proofs.Common.{refl, ap, ◌∙◌}
use Rattle.gr_rules.specs.Actors.{channels_but}
use Rattle.gr_tables.specs.NamedChannels.{contents_of, rooms_of, withdrawn}
use Rattle.gr_tables.specs.NamedGoroutines.{goroutines_of}
use Rattle.gr_tables.proofs.AnswerLemmas.{on_err}
use Rattle.gr_tables.proofs.RoomLemmas.{within_self}
use Rattle.gr_tables.proofs.Withdrawals.{follows_more, still_fit, still_have_rooms, took_all}
use Rattle.gr_step.specs.Wakes.{waits_known}
use Rattle.gr_step.proofs.WakeLemmas.{withdrawn_next, gates_next}
use Rattle.gr_step.proofs.waking.withdraw_each.Goals as goal

pub put_all_back-requires-clause-fits : goal.put_all_back-requires-clause-fits
put_all_back-requires-clause-fits c =
    still_fit c.args.done.items c.loop-go.undos.items c.args.channels.now c.loop-go.channels c.loop-go.invariant.follows c.loop-go.channels
    c.requires.fits refl

pub put_all_back-requires-clause-room : goal.put_all_back-requires-clause-room
put_all_back-requires-clause-room c =
    still_have_rooms c.args.done.items c.loop-go.undos.items c.args.channels.now c.loop-go.channels c.loop-go.invariant.follows c.loop-go.channels
    c.requires.room (λ q. within_self (rooms_of c.loop-go.channels q))

pub returns-in-Err-clause-err : goal.returns-in-Err-clause-err
returns-in-Err-clause-err c =
    took_all c.args.done.items c.loop-go.undos.items c.args.channels.now c.loop-go.channels c.loop-go.invariant.follows c.loop-go.channels
    c.put_all_back.new.self refl (λ q. within_self (rooms_of c.loop-go.channels q)) c.put_all_back.ensures

pub withdraw_after-requires-clause-fits : goal.withdraw_after-requires-clause-fits
withdraw_after-requires-clause-fits c =
    still_fit c.args.done.items c.loop-go.undos.items c.args.channels.now c.loop-go.channels c.loop-go.invariant.follows c.loop-go.channels
    c.requires.fits refl

pub withdraw_after-requires-clause-room : goal.withdraw_after-requires-clause-room
withdraw_after-requires-clause-room c =
    still_have_rooms c.args.done.items c.loop-go.undos.items c.args.channels.now c.loop-go.channels c.loop-go.invariant.follows c.loop-go.channels
    c.requires.room (λ q. within_self (rooms_of c.loop-go.channels q))

pub returns-in_err-undos-clause-err : goal.returns-in_err-undos-clause-err
returns-in_err-undos-clause-err c =
    on_err c.from_residual.result _
    (took_all c.args.done.items c.loop-go.undos.items c.args.channels.now c.loop-go.channels c.loop-go.invariant.follows c.loop-go.channels
    c.withdraw_after.new.self refl (λ q. within_self (rooms_of c.loop-go.channels q)) c.in_err-undos.ensures.err)

pub loop-go-preserved : goal.loop-go-preserved
loop-go-preserved c =
    let f = goroutines_of c.args.goroutines.now in
    let undos = c.loop-go.undos.items in
    let follows = c.in_ok-undos.ensures.back in
    record {
      told = withdrawn_next c.args.but.now f c.args.names.now c.loop-go.go-index (contents_of c.loop-go.channels) (contents_of c.withdraw_after.new.self) _
          c.go-item.result c.loop-go-test.true c.go-item.is
          (c.in_ok-undos.ensures.contents ∙ ap (λ names. withdrawn c.go-item.result names (contents_of c.loop-go.channels))
          (c.deref.ensures.value ∙ c.in-Ok.ensures ∙ ap (λ seen. channels_but seen (waits_known (f c.go-item.result))) c.from_ref.ensures.value))
          c.loop-go.invariant.told;
      gates = gates_next c.args.but.now f c.args.names.now c.loop-go.go-index c.go-item.result _ c.args.done.items undos c.in_ok-undos.undos.items
          c.loop-go-test.true c.go-item.is
          (c.deref.ensures.value ∙ c.in-Ok.ensures ∙ ap (λ seen. channels_but seen (waits_known (f c.go-item.result))) c.from_ref.ensures.value)
          c.loop-go.invariant.gates c.in_ok-undos.ensures.gates;
      follows = follows_more c.args.done.items undos c.args.channels.now c.loop-go.channels c.loop-go.invariant.follows follows.more
          c.in_ok-undos.undos.items c.withdraw_after.new.self follows.are follows.goes;
    }
