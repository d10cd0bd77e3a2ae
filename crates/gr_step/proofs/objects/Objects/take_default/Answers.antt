use Rattle.std.proofs.Common.{◌≡◌, false, Some, refl, sym, ◌∙◌}
use Rattle.std.specs.List.{list_any}
use Rattle.gr_rules.specs.Selects.{default_from}
use Rattle.gr_refine.specs.Partners.{can_proceed}
use Rattle.gr_goros.specs.Views.{communications_of}
use Rattle.gr_step.specs.Choices.{IsFaultOf, LooksAt}
use Rattle.gr_record.specs.Listings.{frame_in, program_in}
use Rattle.gr_step.specs.Objects.{contents_in}
use Rattle.gr_step.proofs.SelectListLemmas.{values_given, value_faults}
use Rattle.gr_step.proofs.SelectLemmas.{of_actor, no_default, default_looks, default_late, default_made, default_at_fault, default_arrives, default_takes, default_room}
use Rattle.gr_step.proofs.objects.Objects.take_default.Goals as goal

pub returns-in_default-clause-taken : goal.returns-in_default-clause-taken
returns-in_default-clause-taken c =
    let p = program_in c.args.turn.now.listing.now in
    let e = c.args.turn.now.event.now in
    let acting = c.requires.may.acting in
    let ws = communications_of c.args.clauses.now in
    let task = c.requires.task acting.goroutine acting.there in
    (refl, no_default p e c.args.turn.now.number c.args.self.now acting ws task c.requires.choice (sym c.default_clause.ensures ∙ c.in_default.is))

pub returns-then-any_can_proceed-clause-taken : goal.returns-then-any_can_proceed-clause-taken
returns-then-any_can_proceed-clause-taken c =
    let p = program_in c.args.turn.now.listing.now in
    let e = c.args.turn.now.event.now in
    let acting = c.requires.may.acting in
    let ws = communications_of c.args.clauses.now in
    let task = c.requires.task acting.goroutine acting.there in
    let there : default_from 1 ws ≡ Some c.in-Some.place = sym c.default_clause.ensures ∙ c.in-Some.is in (
      refl,
      default_late p e c.args.turn.now.number c.args.self.now acting ws task c.requires.choice c.in-Some.place there
          (sym c.any_can_proceed.ensures ∙ c.if-any_can_proceed.true),
    )

pub fail_at_select-requires-clause-made : goal.fail_at_select-requires-clause-made
fail_at_select-requires-clause-made c =
    let p = program_in c.args.turn.now.listing.now in
    let e = c.args.turn.now.event.now in
    let acting = c.requires.may.acting in
    let ws = communications_of c.args.clauses.now in
    let task = c.requires.task acting.goroutine acting.there in
    let there : default_from 1 ws ≡ Some c.in-Some.place = sym c.default_clause.ensures ∙ c.in-Some.is in
    let none : list_any (can_proceed (contents_in c.args.self.now)) ws ≡ false = sym c.any_can_proceed.ensures ∙ c.if-any_can_proceed.false in
    default_made p e c.args.turn.now.number c.args.self.now acting ws task c.requires.choice c.in-Some.place there none

pub fail_at_select-requires-clause-looks : goal.fail_at_select-requires-clause-looks
fail_at_select-requires-clause-looks c =
    let p = program_in c.args.turn.now.listing.now in
    let e = c.args.turn.now.event.now in
    let acting = c.requires.may.acting in
    let ws = communications_of c.args.clauses.now in
    let task = c.requires.task acting.goroutine acting.there in
    of_actor p e c.args.turn.now.number c.args.self.now acting (LooksAt p e ws) (default_looks p e c.args.turn.now.number c.args.self.now acting ws task c.requires.choice)

pub fail_at_select-requires-clause-step : goal.fail_at_select-requires-clause-step
fail_at_select-requires-clause-step c =
    let p = program_in c.args.turn.now.listing.now in
    let e = c.args.turn.now.event.now in
    let acting = c.requires.may.acting in
    let ws = communications_of c.args.clauses.now in
    let task = c.requires.task acting.goroutine acting.there in
    let there : default_from 1 ws ≡ Some c.in-Some.place = sym c.default_clause.ensures ∙ c.in-Some.is in
    let none : list_any (can_proceed (contents_in c.args.self.now)) ws ≡ false = sym c.any_can_proceed.ensures ∙ c.if-any_can_proceed.false in
    let fault = c.in-Some-first_fault.fault in
    of_actor p e c.args.turn.now.number c.args.self.now acting (λ g. IsFaultOf p e (contents_in c.args.self.now) g fault)
    (default_at_fault p e c.args.turn.now.number c.args.self.now acting ws task c.requires.choice c.in-Some.place there none fault
    (value_faults c.args.clauses.now fault (sym c.first_fault.ensures ∙ c.in-Some-first_fault.is)))

pub looked_at-requires : goal.looked_at-requires
looked_at-requires c =
    let p = program_in c.args.turn.now.listing.now in
    let e = c.args.turn.now.event.now in
    let acting = c.requires.may.acting in
    let ws = communications_of c.args.clauses.now in
    let task = c.requires.task acting.goroutine acting.there in
    let there : default_from 1 ws ≡ Some c.in-Some.place = sym c.default_clause.ensures ∙ c.in-Some.is in
    let none : list_any (can_proceed (contents_in c.args.self.now)) ws ≡ false = sym c.any_can_proceed.ensures ∙ c.if-any_can_proceed.false in
    default_made p e c.args.turn.now.number c.args.self.now acting ws task c.requires.choice c.in-Some.place there none

pub pass_default-requires : goal.pass_default-requires
pass_default-requires c =
    let p = program_in c.args.turn.now.listing.now in
    let e = c.args.turn.now.event.now in
    let acting = c.requires.may.acting in
    let ws = communications_of c.args.clauses.now in
    let task = c.requires.task acting.goroutine acting.there in
    let there : default_from 1 ws ≡ Some c.in-Some.place = sym c.default_clause.ensures ∙ c.in-Some.is in
    let none : list_any (can_proceed (contents_in c.args.self.now)) ws ≡ false = sym c.any_can_proceed.ensures ∙ c.if-any_can_proceed.false in
    let given = values_given c.args.clauses.now (sym c.first_fault.ensures ∙ c.in_default-first_fault.is) in
    let coded = c.requires.may.coded in
    let is : c.in-Ok.case ≡ c.in-Some.place = c.in-Ok.ensures.1 in
    rw (coded, is) (default_arrives p e c.args.turn.now.number c.args.self.now acting ws task c.requires.choice c.in-Some.place there none given.0 given.1)

pub returns-clause-taken : goal.returns-clause-taken
returns-clause-taken c =
    let p = program_in c.args.turn.now.listing.now in
    let e = c.args.turn.now.event.now in
    let acting = c.requires.may.acting in
    let ws = communications_of c.args.clauses.now in
    let task = c.requires.task acting.goroutine acting.there in
    let there : default_from 1 ws ≡ Some c.in-Some.place = sym c.default_clause.ensures ∙ c.in-Some.is in
    let none : list_any (can_proceed (contents_in c.args.self.now)) ws ≡ false = sym c.any_can_proceed.ensures ∙ c.if-any_can_proceed.false in
    let given = values_given c.args.clauses.now (sym c.first_fault.ensures ∙ c.in_default-first_fault.is) in
    let coded = c.requires.may.coded in
    let is : c.in-Ok.case ≡ c.in-Some.place = c.in-Ok.ensures.1 in
    let done = c.in_ok-change-2.ensures.ok in
    default_takes p e c.args.turn.now.number c.args.self.now acting ws task c.requires.choice c.in-Some.place there none given.0 given.1 c.in_ok-reads.reads.items
    c.in_ok-change-2.change c.pass_default.new.self done.0 done.1 (rw (coded, is) at done.2) (c.in_ok-reads.ensures (frame_in p))

pub returns-clause-room : goal.returns-clause-room
returns-clause-room c =
    let p = program_in c.args.turn.now.listing.now in
    let e = c.args.turn.now.event.now in
    let acting = c.requires.may.acting in
    let ws = communications_of c.args.clauses.now in
    let task = c.requires.task acting.goroutine acting.there in
    let there : default_from 1 ws ≡ Some c.in-Some.place = sym c.default_clause.ensures ∙ c.in-Some.is in
    let none : list_any (can_proceed (contents_in c.args.self.now)) ws ≡ false = sym c.any_can_proceed.ensures ∙ c.if-any_can_proceed.false in
    let given = values_given c.args.clauses.now (sym c.first_fault.ensures ∙ c.in_default-first_fault.is) in
    let coded = c.requires.may.coded in
    let is : c.in-Ok.case ≡ c.in-Some.place = c.in-Ok.ensures.1 in
    let done = c.in_ok-change-2.ensures.ok in
    default_room p e c.args.turn.now.number c.args.self.now acting ws task c.requires.choice c.in-Some.place there none given.0 given.1 c.in_ok-reads.reads.items
    c.in_ok-change-2.change c.pass_default.new.self done.0 done.1 (rw (coded, is) at done.2)
