use Rattle.std.proofs.Common.{◌≡◌, ◌<◌, ◌+◌, ◌^◌, Some, sym, ap, ◌∙◌}
use Rattle.std.specs.Prelude.{option_map}
use Rattle.gr_base.specs.declared.values.Value.TheVariants.{Chan}
use Rattle.gr_code.specs.CodeViews.{program_code_of}
use Rattle.gr_code.specs.Goroutines.{Channel}
use Rattle.gr_refine.specs.CodeSteps.{next_channel}
use Rattle.gr_tables.specs.NamedChannels.{contents_of}
use Rattle.gr_record.specs.Listings.{program_in}
use Rattle.gr_step.specs.Objects.{run_of}
use Rattle.gr_step.proofs.ArrivalLemmas.{arrived_here}
use Rattle.gr_step.proofs.MakeLemmas.{make_arrives, next_is_new, make_takes}
use Rattle.gr_step.proofs.PlaceLemmas.{can_undo, has_room, named_after, placed_at, placed_back}
use Rattle.gr_step.proofs.objects.Objects.make_next.Goals as goal

pub deliver-requires : goal.deliver-requires
deliver-requires c =
    let acting = c.requires.may.acting in
    let few = c.requires.few acting.goroutine acting.there in
    let code = ap program_code_of c.deref.ensures ∙ c.requires.may.coded in
    let name : c.in_ok-copy.field-0 ≡ next_channel c.args.turn.now.event.now acting.goroutine =
    c.in_ok-copy.ensures ∙ (λ j. record { go = c.in_ok-go.ensures j; n = sym few.0 j }) in
    let fits : acting.goroutine.channels + 1 < 2 ^ 32 = rw few.0 c.ranges.count.fits in
    rw (code, name) (make_arrives (program_in c.args.turn.now.listing.now) c.args.turn.now.event.now c.args.turn.now.number c.args.self.now acting c.requires.plain c.args.places
    (c.requires.task acting.goroutine acting.there) c.requires.small few.1 fits)

pub add-requires : goal.add-requires
add-requires c =
    let acting = c.requires.may.acting in
    let few = c.requires.few acting.goroutine acting.there in
    (λ j. contents_of c.args.self.now.channels (record { go = c.in_ok-go.ensures j; n = sym few.0 j }))
    ∙ next_is_new (program_in c.args.turn.now.listing.now) c.args.turn.now.event.now c.args.turn.now.number c.args.self.now acting c.requires.plain

pub undo-requires : goal.undo-requires
undo-requires c =
    let acting = c.requires.may.acting in
    let change = c.in_ok-own.ensures.after in
    can_undo c.args.turn.now.number c.args.turn.now.event.now.go c.args.self.now.goroutines c.deliver.new.self acting.named acting.goroutine acting.there change.0
    change.1
    c.in_ok-own.own change.2 change.3.1

pub unwrap-requires : goal.unwrap-requires
unwrap-requires c =
    let acting = c.requires.may.acting in
    let change = c.in_ok-own.ensures.after in
    c.undo.ensures.succeeds
    (has_room c.args.turn.now.number c.args.turn.now.event.now.go c.args.self.now.goroutines c.deliver.new.self acting.named acting.goroutine acting.there
    change.0 change.1 c.in_ok-own.own change.2 change.3.1)

pub returns-in-Err-clause-err : goal.returns-in-Err-clause-err
returns-in-Err-clause-err c =
    let acting = c.requires.may.acting in
    let o = c.args.self.now in
    let go = c.args.turn.now.event.now.go in
    let change = c.in_ok-own.ensures.after in
    let own = placed_at c.args.turn.now.number go o.goroutines c.deliver.new.self acting.named acting.goroutine acting.there change.0 change.1 change.1.content
    c.in_ok-own.own change.2 (λ j. change.1.content) change.3.1 in
    let named = named_after c.args.turn.now.number go o.goroutines c.deliver.new.self acting.named acting.goroutine acting.there change.0 change.1 change.2 in
    let back = placed_back c.args.turn.now.number go acting.goroutine change.1.content c.in_ok-own.own o.goroutines c.deliver.new.self c.undo.new.self named
    acting.there own (rw c.unwrap.ensures at c.undo.ensures.ok) in
    λ j. record { run = run_of o.run; goroutines = back j; channels = λ q. option_map (λ x. x.content) (c.in-Err.ensures.err j q) }

pub returns-clause-ok : goal.returns-clause-ok
returns-clause-ok c =
    let acting = c.requires.may.acting in
    let p = program_in c.args.turn.now.listing.now in
    let few = c.requires.few acting.goroutine acting.there in
    let next = next_channel c.args.turn.now.event.now acting.goroutine in
    let code = ap program_code_of c.deref.ensures ∙ c.requires.may.coded in
    let is : record { go = c.in_ok-go.go; n = c.args.count } ≡ next = λ j. record { go = c.in_ok-go.ensures j; n = sym few.0 j } in
    let name : c.in_ok-copy.field-0 ≡ next = c.in_ok-copy.ensures ∙ is in
    let on = arrived_here p c.args.turn.now.event.now c.args.turn.now.number c.args.self.now acting (Channel (Chan (Some next))) c.in_ok-own.own c.deliver.new.self
    (rw (code, name) at c.in_ok-own.ensures.after) in
    rw c.further.ensures (make_takes p c.args.turn.now.event.now c.args.turn.now.number c.args.self.now acting c.requires.plain c.args.places (c.requires.task acting.goroutine acting.there)
    c.requires.small few.1 c.in_ok-own.own c.in_ok-further.further.value.beyond (rw is at c.in_ok-further.ensures) c.deliver.new.self on c.add.new.self
    (rw is at c.in_default.ensures.contents))
