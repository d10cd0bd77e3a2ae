use Rattle.std.proofs.Common.{◌≡◌, ap, sym, subst}
use Rattle.gr_rules.specs.Outcomes.{wrong}
use Rattle.gr_code.specs.CodeViews.{program_code_of}
use Rattle.gr_code.specs.Goroutines.{CodeGoroutine, arrived, CanCount}
use Rattle.gr_goros.specs.Views.{arrival_of}
use Rattle.gr_tables.specs.NamedGoroutines.{At, goroutines_of}
use Rattle.gr_step.proofs.ArrivesAtLemmas.{at_number, arrives_at, still_named, others_stay, can_undo, has_room, undone_is}
use Rattle.gr_step.proofs.objects.Objects.both_arrive.Goals as goal

pub deliver-requires : goal.deliver-requires
deliver-requires c =
    at_number (λ g. (¬ (arrived (program_code_of c.deref-code.result.now) (arrival_of c.args.passes) g ≡ wrong)) × CanCount (arrival_of c.args.passes) g)
    c.args.turn.now.number c.args.turn.now.event.now.go c.args.self.now.goroutines c.requires.named
    (rw (ap program_code_of c.deref-code.ensures) c.requires.can)

pub deliver-requires-2 : goal.deliver-requires-2
deliver-requires-2 c =
    let code = program_code_of c.deref-code.result.now in
    let fits = λ (g : CodeGoroutine). (¬ (arrived code (arrival_of c.args.meets) g ≡ wrong)) × CanCount (arrival_of c.args.meets) g in
    let n = c.args.turn.now.event.now.go in
    let old = c.args.self.now.goroutines in
    let new = c.deliver.new.self in
    at_number fits c.args.partner c.args.go.now new
    (still_named code c.args.turn.now.number n (arrival_of c.args.passes) c.in_ok-own.own old new c.requires.named c.in_ok-own.ensures.after
    c.args.partner c.args.go.now c.requires.partner_named)
    (subst {_, _} (At fits) (sym (others_stay code c.args.turn.now.number n (arrival_of c.args.passes) c.in_ok-own.own old new c.requires.named
    c.in_ok-own.ensures.after c.args.go.now c.requires.apart)) (rw (ap program_code_of c.deref-code.ensures) c.requires.partner_can))

pub undo-requires : goal.undo-requires
undo-requires c =
    can_undo (program_code_of c.deref-code.result.now) c.args.turn.now.number c.args.turn.now.event.now.go (arrival_of c.args.passes) c.in_ok-own.own
    c.args.self.now.goroutines c.deliver.new.self c.requires.named c.in_ok-own.ensures.after c.deliver-2.new.self c.in-Err.ensures.err

pub unwrap-requires : goal.unwrap-requires
unwrap-requires c = c.undo.ensures.succeeds
    (has_room (program_code_of c.deref-code.result.now) c.args.turn.now.number c.args.turn.now.event.now.go (arrival_of c.args.passes) c.in_ok-own.own
    c.args.self.now.goroutines c.deliver.new.self c.requires.named c.in_ok-own.ensures.after c.deliver-2.new.self c.in-Err.ensures.err)

pub returns-in-Ok-clause-after : goal.returns-in-Ok-clause-after
returns-in-Ok-clause-after c =
    let is = ap program_code_of c.deref-code.ensures in
    let code = program_code_of c.args.turn.now.listing.now.code.value in
    let n = c.args.turn.now.event.now.go in
    let old = c.args.self.now.goroutines in
    let mid = c.deliver.new.self in
    let first = rw is at c.in_ok-own.ensures.after in
    let second = rw is at c.in-Ok.ensures.after in
    record {
      between = goroutines_of mid;
      goes = arrives_at code c.args.turn.now.number n (arrival_of c.args.passes) c.in_ok-own.own old mid c.requires.named first;
      meeting = arrives_at code c.args.partner c.args.go.now (arrival_of c.args.meets) c.in-Ok.met mid c.deliver-2.new.self
          (still_named code c.args.turn.now.number n (arrival_of c.args.passes) c.in_ok-own.own old mid c.requires.named first
          c.args.partner c.args.go.now c.requires.partner_named) second;
    }

pub returns-in-Err-clause-err : goal.returns-in-Err-clause-err
returns-in-Err-clause-err c =
    undone_is (program_code_of c.deref-code.result.now) c.args.turn.now.number c.args.turn.now.event.now.go (arrival_of c.args.passes) c.in_ok-own.own
    c.args.self.now.goroutines c.deliver.new.self c.requires.named c.in_ok-own.ensures.after c.deliver-2.new.self c.in-Err.ensures.err
    c.undo.new.self (rw c.unwrap.ensures at c.undo.ensures.ok)
