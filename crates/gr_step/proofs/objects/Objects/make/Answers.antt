use Rattle.std.proofs.Common.{◌≡◌, ◌≤◌, sym, ap, ◌∙◌, pos, w64, arith}
use Rattle.std.proofs.lemmas.Int.{to_z-of_z}
use Rattle.std.specs.Prelude.{option_copied}
use Rattle.gr_code.specs.Goroutines.{CodeGoroutine}
use Rattle.gr_rules.specs.Limits.{greatest_count}
use Rattle.gr_record.specs.Listings.{program_in}
use Rattle.gr_step.specs.Objects.{contents_in}
use Rattle.gr_step.proofs.MakeLemmas.{size_takes, many_takes}
use Rattle.gr_step.proofs.PlaceLemmas.{counted_there, found_content}
use Rattle.gr_tables.proofs.ByNumber.{if_ok}
use Rattle.gr_step.proofs.objects.Objects.make.Goals as goal

pub plain_fault-requires : goal.plain_fault-requires
plain_fault-requires c = counted_there (program_in c.args.turn.now.listing.now) c.args.turn.now.event.now c.args.turn.now.number c.args.self.now c.requires.may.acting

pub returns-in_default-clause-ok : goal.returns-in_default-clause-ok
returns-in_default-clause-ok c =
    let acting = c.requires.may.acting in
    if_ok c.plain_fault.result _ _ (λ change h.
    size_takes (program_in c.args.turn.now.listing.now) c.args.turn.now.event.now c.args.turn.now.number c.args.self.now acting c.requires.plain c.args.size change
    (contents_in c.plain_fault.new.self) (c.requires.task acting.goroutine acting.there)
    (rw (to_z-of_z w64 c.args.size c.ranges.size) at c.in_default.ensures)
    (h c.args.turn.now.event.now.go acting.goroutine acting.named acting.there))
    c.plain_fault.ensures.ok

pub returns-then-made-clause-ok : goal.returns-then-made-clause-ok
returns-then-made-clause-ok c =
    let acting = c.requires.may.acting in
    let p = program_in c.args.turn.now.listing.now in
    let size : c.args.size ≡ pos c.in-Some.places = sym (to_z-of_z w64 c.args.size c.ranges.size) ∙ c.in-Some.ensures.0 in
    let here = found_content p c.args.turn.now.event.now c.args.turn.now.number c.args.self.now acting (option_copied c.get.result) c.unwrap.result.now
    (c.get.ensures.named c.args.turn.now.event.now.go acting.named) (ap option_copied c.unwrap.ensures) in
    let made = sym (ap (λ (g : CodeGoroutine). g.channels) here) ∙ sym c.channels-made.ensures ∙ c.if-made.true in
    let many : greatest_count ≤ acting.goroutine.channels = omega (arith, made) in
    if_ok c.plain_fault-then-made.result _ _ (λ change h.
    many_takes p c.args.turn.now.event.now c.args.turn.now.number c.args.self.now acting c.requires.plain c.in-Some.places change
    (contents_in c.plain_fault-then-made.new.self) (rw size at (c.requires.task acting.goroutine acting.there)) c.in-Some.ensures.1 many
    (h c.args.turn.now.event.now.go acting.goroutine acting.named acting.there))
    c.plain_fault-then-made.ensures.ok
