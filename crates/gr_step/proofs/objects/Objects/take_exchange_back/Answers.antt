use Rattle.std.proofs.Common.{◌≡◌, ◌∙◌, ap, sym, subst}
use Rattle.gr_tables.specs.NamedChannels.{listed, TookBack}
use Rattle.gr_record.specs.declared.record.Exchange.{Exchange}
use Rattle.gr_record.specs.Parts.{channel_in}
use Rattle.gr_step.proofs.BeyondLemmas.{exchange_taken}
use Rattle.gr_step.proofs.objects.Objects.take_exchange_back.Goals as goal

pub returns-clause-back : goal.returns-clause-back
returns-clause-back c =
    let is = c.into_inner-passage.ensures in
    let same : listed c.channel.result.now c.into_inner-passage.result.passage.undo
    ≡ listed (channel_in c.args.exchange.value.passage.contact.operation) c.args.exchange.value.passage.undo =
    ap (λ k. listed k c.into_inner-passage.result.passage.undo) c.channel.ensures
    ∙ ap (λ (e : Exchange). listed (channel_in e.passage.contact.operation) e.passage.undo) is in
    let own : c.into_inner-passage.result.passage.own ≡ c.args.exchange.value.passage.own = ap (λ (e : Exchange). e.passage.own) is in
    exchange_taken c.args.go.now c.args.kind c.args.exchange.value.passage.own c.args.exchange.value c.args.self.now c.make_room.new.channels
    c.take_both_back.new.self
    (rw (own, ap (λ (e : Exchange). e.met) is) at c.take_both_back.ensures.goroutines) c.make_room.ensures.contents
    (subst {_, _} (λ after. TookBack (listed (channel_in c.args.exchange.value.passage.contact.operation) c.args.exchange.value.passage.undo)
    c.make_room.new.channels after) (sym c.take_both_back.ensures.channels)
    (subst {_, _} (λ us. TookBack us c.make_room.new.channels c.put_one_back.new.channels) same c.put_one_back.ensures)) c.take_both_back.ensures.run
