use Rattle.std.proofs.Common.{◌≡◌, sym, ap, ◌∙◌, false, Some, [], ◌∷◌, length}
use Rattle.std.specs.Prelude.{option_copied}
use Rattle.gr_base.specs.declared.objects.Object.TheVariants as objects
use Rattle.gr_channels.specs.Channels.{Content}
use Rattle.gr_step.specs.Beyonds.{Reaches}
use Rattle.gr_record.specs.declared.record.Operation.TheVariants.{TakesLenOf}
use Rattle.gr_record.specs.Listings.{program_in}
use Rattle.gr_step.proofs.CountLemmas.{len_there, len_takes, len_room, nil_len_there, nil_len_takes, nil_room}
use Rattle.gr_step.proofs.ReachesLemmas.{reaches_some}
use Rattle.gr_step.proofs.ChannelLemmas.{some_there, some_found, same_there}
use Rattle.gr_tables.proofs.ByNumber.{if_ok}
use Rattle.gr_step.proofs.objects.Objects.len.Goals as goal

pub count-requires : goal.count-requires
count-requires c =
    let acting = c.requires.may.acting in
    let p = program_in c.args.turn.now.listing.now in
    let task = rw c.in_default.is at (c.requires.task acting.goroutine acting.there) in
    rw c.requires.may.coded (nil_len_there p c.args.turn.now.event.now c.args.turn.now.number c.args.self.now acting c.requires.plain task)

pub returns-in_default-clause-ok : goal.returns-in_default-clause-ok
returns-in_default-clause-ok c =
    let acting = c.requires.may.acting in
    let p = program_in c.args.turn.now.listing.now in
    let task = rw c.in_default.is at (c.requires.task acting.goroutine acting.there) in
    if_ok c.count.result _ _ (λ change h.
    nil_len_takes p c.args.turn.now.event.now c.args.turn.now.number c.args.self.now acting c.requires.plain change c.count.new.self
    (rw c.requires.may.coded at h.2) h.0 h.1 task)
    c.count.ensures.ok

pub returns-in_default-clause-room : goal.returns-in_default-clause-room
returns-in_default-clause-room c =
    let acting = c.requires.may.acting in
    let p = program_in c.args.turn.now.listing.now in
    if_ok c.count.result _ _ (λ change h.
    nil_room p c.args.turn.now.event.now c.args.turn.now.number c.args.self.now acting c.requires.plain 0 change c.count.new.self (rw c.requires.may.coded at h.2) h.1)
    c.count.ensures.ok

pub unwrap-requires : goal.unwrap-requires
unwrap-requires c =
    let acting = c.requires.may.acting in
    let task = rw c.in-Some.is at (c.requires.task acting.goroutine acting.there) in
    let there = len_there (program_in c.args.turn.now.listing.now) c.args.turn.now.event.now c.args.turn.now.number c.args.self.now acting c.requires.plain c.in-Some.channel
    task in
    let found = some_there _ there.0 there.1 in
    some_found c.get.result found.0 (c.get.ensures ∙ found.1)

pub count-requires-2 : goal.count-requires-2
count-requires-2 c =
    let acting = c.requires.may.acting in
    let task = rw c.in-Some.is at (c.requires.task acting.goroutine acting.there) in
    let there = len_there (program_in c.args.turn.now.listing.now) c.args.turn.now.event.now c.args.turn.now.number c.args.self.now acting c.requires.plain c.in-Some.channel
    task in
    let same = same_there _ there.0 c.unwrap.result.now there.1 (sym c.get.ensures ∙ ap option_copied c.unwrap.ensures) in
    let counts : c.items_of-items.result ≡ length there.0.items = c.items_of-items.ensures ∙ ap (λ (x : Content). length x.items) same in
    rw (c.requires.may.coded, counts) there.2

pub returns-clause-ok : goal.returns-clause-ok
returns-clause-ok c =
    let acting = c.requires.may.acting in
    let p = program_in c.args.turn.now.listing.now in
    let task = rw c.in-Some.is at (c.requires.task acting.goroutine acting.there) in
    let there = len_there p c.args.turn.now.event.now c.args.turn.now.number c.args.self.now acting c.requires.plain c.in-Some.channel task in
    let same = same_there _ there.0 c.unwrap.result.now there.1 (sym c.get.ensures ∙ ap option_copied c.unwrap.ensures) in
    let counts : c.items_of-items.result ≡ length there.0.items = c.items_of-items.ensures ∙ ap (λ (x : Content). length x.items) same in
    let reads : Reaches (Some (TakesLenOf c.in-Some.channel))
    (objects.Gate c.in-Some.channel ∷ objects.Head c.in-Some.channel ∷ objects.Tail c.in-Some.channel ∷ []) [] false c.in_ok-further.further.value.beyond =
    rw (← c.in_ok-reads.ensures) c.in_ok-further.ensures in
    if_ok c.count-2.result _ _ (λ change h.
    len_takes p c.args.turn.now.event.now c.args.turn.now.number c.args.self.now acting c.requires.plain c.items_of-items.result change c.count-2.new.self
    (rw c.requires.may.coded at h.2)
    c.in-Some.channel there.0 task there.1 (sym counts) h.0 (reaches_some _ _ _ _ change c.in_ok-further.further.value.beyond h.1 reads))
    c.count-2.ensures.ok

pub returns-clause-room : goal.returns-clause-room
returns-clause-room c =
    let acting = c.requires.may.acting in
    let p = program_in c.args.turn.now.listing.now in
    if_ok c.count-2.result _ _ (λ change h.
    len_room p c.args.turn.now.event.now c.args.turn.now.number c.args.self.now acting c.requires.plain c.items_of-items.result change c.count-2.new.self
    (rw c.requires.may.coded at h.2)
    c.in-Some.channel c.in_ok-reads.reads.items
    (reaches_some _ _ _ _ change c.in_ok-further.further.value.beyond h.1 c.in_ok-further.ensures))
    c.count-2.ensures.ok
