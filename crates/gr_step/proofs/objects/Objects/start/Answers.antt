use Rattle.std.proofs.Common.{◌≤◌, ◌<◌, length, sym, ap, ◌∙◌, arith}
use Rattle.std.specs.Prelude.{option_copied}
use Rattle.gr_code.specs.Goroutines.{CodeGoroutine}
use Rattle.gr_rules.specs.Limits.{most_counts, greatest_count}
use Rattle.gr_record.specs.Listings.{program_in}
use Rattle.gr_step.specs.Objects.{contents_in}
use Rattle.gr_step.proofs.PlaceLemmas.{counted_there, found_content}
use Rattle.gr_step.proofs.StartNextLemmas.{deep_takes, many_takes}
use Rattle.gr_tables.proofs.ByNumber.{if_ok}
use Rattle.gr_step.proofs.objects.Objects.start.Goals as goal

pub plain_fault-requires : goal.plain_fault-requires
plain_fault-requires c = counted_there (program_in c.args.turn.now.listing.now) c.args.turn.now.event.now c.args.turn.now.number c.args.self.now c.requires.may.acting

pub returns-then-counts-ge-MOST_COUNTS-clause-ok : goal.returns-then-counts-ge-MOST_COUNTS-clause-ok
returns-then-counts-ge-MOST_COUNTS-clause-ok c =
    let acting = c.requires.may.acting in
    let long : most_counts ≤ length c.args.turn.now.event.now.go = omega (arith, ap length c.counts.ensures.value) in
    if_ok c.plain_fault.result _ _ (λ change h.
    deep_takes (program_in c.args.turn.now.listing.now) c.args.turn.now.event.now c.args.turn.now.number c.args.self.now acting c.requires.plain c.args.function
    c.args.arguments.items (c.requires.task acting.goroutine acting.there) change (contents_in c.plain_fault.new.self) long
    (h c.args.turn.now.event.now.go acting.goroutine acting.named acting.there))
    c.plain_fault.ensures.ok

pub returns-then-started-clause-ok : goal.returns-then-started-clause-ok
returns-then-started-clause-ok c =
    let acting = c.requires.may.acting in
    let p = program_in c.args.turn.now.listing.now in
    let short : length c.args.turn.now.event.now.go < most_counts = omega (arith, ap length c.counts.ensures.value) in
    let here = found_content p c.args.turn.now.event.now c.args.turn.now.number c.args.self.now acting (option_copied c.get.result) c.unwrap.result.now
    (c.get.ensures.named c.args.turn.now.event.now.go acting.named) (ap option_copied c.unwrap.ensures) in
    let began = sym (ap (λ (g : CodeGoroutine). g.children) here) ∙ sym c.children-started.ensures ∙ c.if-started.true in
    let many : greatest_count ≤ acting.goroutine.children = omega (arith, began) in
    if_ok c.plain_fault-then-started.result _ _ (λ change h.
    many_takes p c.args.turn.now.event.now c.args.turn.now.number c.args.self.now acting c.requires.plain c.args.function
    c.args.arguments.items (c.requires.task acting.goroutine acting.there) change (contents_in c.plain_fault-then-started.new.self) short many
    (h c.args.turn.now.event.now.go acting.goroutine acting.named acting.there))
    c.plain_fault-then-started.ensures.ok
