use Rattle.std.proofs.Common.{◌≡◌, ℕ, List, [], ◌∷◌, false, None, Some, sym, ap, subst, ◌∙◌}
use Rattle.std.specs.Prelude.{option_copied}
use Rattle.std.proofs.lemmas.Result.{IfOk-weaker}
use Rattle.gr_base.specs.declared.kinds.Fault.TheVariants.{CloseOfClosed, CloseOfNil}
use Rattle.gr_base.specs.declared.objects.Object.TheVariants.{Gate}
use Rattle.gr_channels.specs.Channels.{Content}
use Rattle.gr_code.specs.CodeFrames.{ProgramCode, Wants}
use Rattle.gr_code.specs.CodeViews.{program_code_of}
use Rattle.gr_code.specs.Goroutines.{CodeGoroutine, Completion}
use Rattle.gr_rules.specs.Deeds as deeds
use Rattle.gr_rules.specs.Outcomes.{gives}
use Rattle.gr_rules.specs.Steps.{attempt}
use Rattle.gr_tables.specs.NamedChannels.{contents_of, seen_of}
use Rattle.gr_tables.specs.NamedGoroutines.{name_at, seen_at, At, CanArrive}
use Rattle.gr_record.specs.declared.record.Operation.TheVariants.{Closes}
use Rattle.gr_step.specs.Beyonds.{Stops}
use Rattle.gr_record.specs.Listings.{program_in}
use Rattle.gr_step.specs.Objects.{contents_in}
use Rattle.gr_step.specs.Room.{HasRoom}
use Rattle.gr_record.specs.Taking.{Takes}
use Rattle.gr_step.specs.Wakes.{Closing}
use Rattle.gr_step.proofs.ChannelLemmas.{some_there, some_found}
use Rattle.gr_step.proofs.CloseLemmas.{nil_takes, twice_takes, channel_there, can_complete, waiters_live, closing_takes, closing_has_room, content_is, content_seen}
use Rattle.gr_step.proofs.PlaceLemmas.{counted_there}
use Rattle.gr_step.proofs.objects.Objects.close.Goals as goal

pub plain_fault-requires : goal.plain_fault-requires
plain_fault-requires c = counted_there (program_in c.args.turn.now.listing.now) c.args.turn.now.event.now c.args.turn.now.number c.args.self.now c.requires.may.acting

pub returns-in_default-clause-ok : goal.returns-in_default-clause-ok
returns-in_default-clause-ok c =
    let p = program_in c.args.turn.now.listing.now in
    let e = c.args.turn.now.event.now in
    let old = c.args.self.now in
    let s = contents_in old in
    let t = contents_in c.plain_fault.new.self in
    IfOk-weaker c.plain_fault.result
    (λ change. (n : List ℕ) (g : CodeGoroutine) → name_at old.goroutines c.args.turn.now.number ≡ Some n → s.goroutines n ≡ Some g
    → Stops n CloseOfNil None [] s g change t)
    (λ change. Takes p e (attempt p e) s change t)
    (λ change stops. nil_takes p e c.args.turn.now.number old c.requires.may.acting c.requires.plain change t
    (λ g there. c.requires.task g there ∙ ap (λ ch. gives (Wants (deeds.Closes ch))) c.in_default.is)
    (stops e.go c.requires.may.acting.goroutine c.requires.may.acting.named c.requires.may.acting.there))
    c.plain_fault.ensures.ok

pub unwrap-requires : goal.unwrap-requires
unwrap-requires c =
    let p = program_in c.args.turn.now.listing.now in
    let old = c.args.self.now in
    let there = channel_there p c.args.turn.now.event.now c.args.turn.now.number old c.requires.may.acting c.requires.plain c.in-Some.channel
    (λ g there. c.requires.task g there ∙ ap (λ ch. gives (Wants (deeds.Closes ch))) c.in-Some.is) in
    let seen = some_there (seen_of old.channels c.in-Some.channel) there.0 there.1 in
    some_found c.get.result seen.0 (c.get.ensures ∙ seen.1)

pub close_twice-requires : goal.close_twice-requires
close_twice-requires c = counted_there (program_in c.args.turn.now.listing.now) c.args.turn.now.event.now c.args.turn.now.number c.args.self.now c.requires.may.acting

pub returns-then-is_closed-clause-ok : goal.returns-then-is_closed-clause-ok
returns-then-is_closed-clause-ok c =
    let p = program_in c.args.turn.now.listing.now in
    let e = c.args.turn.now.event.now in
    let old = c.args.self.now in
    let channel = c.in-Some.channel in
    let s = contents_in old in
    let t = contents_in c.close_twice.new.self in
    let seen : seen_of old.channels channel ≡ Some c.unwrap.result.now = sym c.get.ensures ∙ ap option_copied c.unwrap.ensures in
    IfOk-weaker c.close_twice.result
    (λ change. (n : List ℕ) (g : CodeGoroutine) → name_at old.goroutines c.args.turn.now.number ≡ Some n → s.goroutines n ≡ Some g
    → Stops n CloseOfClosed (Some (Closes channel)) (Gate channel ∷ []) s g change t)
    (λ change. Takes p e (attempt p e) s change t)
    (λ change stops. twice_takes p e c.args.turn.now.number old c.requires.may.acting c.requires.plain channel
    (λ g there. c.requires.task g there ∙ ap (λ ch. gives (Wants (deeds.Closes ch))) c.in-Some.is)
    c.unwrap.result.now.content (content_seen old.channels channel c.unwrap.result.now seen) change t (sym c.if-is_closed.ensures)
    (stops e.go c.requires.may.acting.goroutine c.requires.may.acting.named c.requires.may.acting.there))
    c.close_twice.ensures.ok

pub close_open-requires-clause-arrives : goal.close_open-requires-clause-arrives
close_open-requires-clause-arrives c =
    let p = program_in c.args.turn.now.listing.now in
    let old = c.args.self.now in
    let channel = c.in-Some.channel in
    let seen : seen_of old.channels channel ≡ Some c.unwrap.result.now = sym c.get.ensures ∙ ap option_copied c.unwrap.ensures in
    subst (λ (code : ProgramCode). At (CanArrive code Completion) (seen_at old.goroutines c.args.turn.now.number)) (sym c.requires.may.coded)
    (can_complete p c.args.turn.now.event.now c.args.turn.now.number old c.requires.may.acting c.requires.plain channel
    (λ g there. c.requires.task g there ∙ ap (λ ch. gives (Wants (deeds.Closes ch))) c.in-Some.is)
    c.unwrap.result.now.content (content_seen old.channels channel c.unwrap.result.now seen) (sym c.if-is_closed.ensures))

pub close_open-requires-clause-live : goal.close_open-requires-clause-live
close_open-requires-clause-live c x there =
    let p = program_in c.args.turn.now.listing.now in
    let old = c.args.self.now in
    let channel = c.in-Some.channel in
    let seen : seen_of old.channels channel ≡ Some c.unwrap.result.now = sym c.get.ensures ∙ ap option_copied c.unwrap.ensures in
    let is_open : x.closed ≡ false =
    ap (λ (y : Content). y.closed) (sym (content_is old.channels channel c.unwrap.result.now x seen there)) ∙ sym c.if-is_closed.ensures in
    waiters_live p c.args.turn.now.event.now c.args.turn.now.number old c.requires.may.acting c.requires.plain channel
    (λ g there. c.requires.task g there ∙ ap (λ ch. gives (Wants (deeds.Closes ch))) c.in-Some.is) x there is_open

pub returns-clause-ok : goal.returns-clause-ok
returns-clause-ok c =
    let p = program_in c.args.turn.now.listing.now in
    let e = c.args.turn.now.event.now in
    let old = c.args.self.now in
    let new = c.close_open.new.self in
    let channel = c.in-Some.channel in
    let x = c.unwrap.result.now.content in
    let seen : seen_of old.channels channel ≡ Some c.unwrap.result.now = sym c.get.ensures ∙ ap option_copied c.unwrap.ensures in
    let there = content_seen old.channels channel c.unwrap.result.now seen in
    IfOk-weaker c.close_open.result
    (λ change. (x : Content) → contents_of old.channels channel ≡ Some x → Closing (program_code_of c.args.turn.now.listing.now.code.value) e channel x change old new)
    (λ change. Takes p e (attempt p e) (contents_in old) change (contents_in new))
    (λ change closing. closing_takes p e c.args.turn.now.number old new c.requires.may.acting channel x change
    (subst (λ (code : ProgramCode). Closing code e channel x change old new) c.requires.may.coded (closing x there)) c.requires.plain
    (λ g there. c.requires.task g there ∙ ap (λ ch. gives (Wants (deeds.Closes ch))) c.in-Some.is) there (sym c.if-is_closed.ensures))
    c.close_open.ensures.ok

pub returns-clause-room : goal.returns-clause-room
returns-clause-room c =
    let p = program_in c.args.turn.now.listing.now in
    let e = c.args.turn.now.event.now in
    let old = c.args.self.now in
    let new = c.close_open.new.self in
    let channel = c.in-Some.channel in
    let x = c.unwrap.result.now.content in
    let seen : seen_of old.channels channel ≡ Some c.unwrap.result.now = sym c.get.ensures ∙ ap option_copied c.unwrap.ensures in
    let there = content_seen old.channels channel c.unwrap.result.now seen in
    IfOk-weaker c.close_open.result
    (λ change. (x : Content) → contents_of old.channels channel ≡ Some x → Closing (program_code_of c.args.turn.now.listing.now.code.value) e channel x change old new)
    (λ change. HasRoom e.go change new)
    (λ change closing. closing_has_room p e c.args.turn.now.number old new c.requires.may.acting channel x change
    (subst (λ (code : ProgramCode). Closing code e channel x change old new) c.requires.may.coded (closing x there)) c.requires.plain
    (λ g there. c.requires.task g there ∙ ap (λ ch. gives (Wants (deeds.Closes ch))) c.in-Some.is) there (sym c.if-is_closed.ensures))
    c.close_open.ensures.ok
