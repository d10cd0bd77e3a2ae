use Rattle.std.proofs.Common.{◌≡◌, ◌∙◌, refl, ap, subst}
use Rattle.gr_tables.specs.NamedChannels.{listed, TookBack}
use Rattle.gr_record.specs.declared.record.Passage.{Passage}
use Rattle.gr_record.specs.Parts.{channel_in}
use Rattle.gr_step.proofs.BeyondLemmas.{passage_taken}
use Rattle.gr_step.proofs.objects.Objects.take_passage_back.Goals as goal

pub returns-clause-back : goal.returns-clause-back
returns-clause-back c =
    let same : listed c.channel.result.now c.into_inner-own.result.undo
    ≡ listed (channel_in c.args.passage.value.contact.operation) c.args.passage.value.undo =
    ap (λ k. listed k c.into_inner-own.result.undo) c.channel.ensures
    ∙ ap (λ (p : Passage). listed (channel_in p.contact.operation) p.undo) c.into_inner-own.ensures in
    let own : c.into_inner-own.result.own ≡ c.args.passage.value.own = ap (λ (p : Passage). p.own) c.into_inner-own.ensures in
    passage_taken c.args.go.now c.args.kind c.args.passage.value.own c.args.passage.value c.args.self.now c.make_room.new.channels
    (record (c.args.self.now) { goroutines = c.undo_at.new.goroutines; channels = c.put_one_back.new.channels })
    (rw (c.unwrap.ensures, own) at c.undo_at.ensures.ok) c.make_room.ensures.contents
    (subst {_, _} (λ us. TookBack us c.make_room.new.channels c.put_one_back.new.channels) same c.put_one_back.ensures) refl
