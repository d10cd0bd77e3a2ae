use Rattle.std.proofs.Common.{◌≡◌, false, None, refl, sym, ap, ◌∙◌}
use Rattle.std.specs.List.{list_any}
use Rattle.gr_base.specs.declared.kinds.Kind.TheVariants.{SelectWait}
use Rattle.gr_rules.specs.Communications.{wait}
use Rattle.gr_rules.specs.Selects.{default_from, numbered}
use Rattle.gr_rules.specs.Steps.{attempt}
use Rattle.gr_refine.specs.Partners.{can_proceed}
use Rattle.gr_refine.specs.Presence.{Sound}
use Rattle.gr_goros.specs.Views.{communications_of}
use Rattle.gr_step.specs.Choices.{IsFaultOf, LooksAt, fault_in}
use Rattle.gr_record.specs.Listings.{frame_in, program_in}
use Rattle.gr_step.specs.Objects.{contents_in}
use Rattle.gr_step.proofs.RunningLemmas.{never_unsound}
use Rattle.gr_step.proofs.SelectListLemmas.{values_given, value_faults}
use Rattle.gr_step.proofs.SelectLemmas.{a, here, of_actor, of_actor_now, taken_alike, has_default, park_looks, park_late, park_made, park_at_fault, park_waits}
use Rattle.gr_step.proofs.objects.Objects.wait_for_any.Goals as goal

pub returns-in-Some-clause-taken : goal.returns-in-Some-clause-taken
returns-in-Some-clause-taken c =
    let p = program_in c.args.turn.now.listing.now in
    let e = c.args.turn.now.event.now in
    let acting = c.requires.may.acting in
    let ws = communications_of c.args.clauses.items in
    let task = c.requires.task acting.goroutine acting.there in (
      refl,
      has_default p e c.args.turn.now.number c.args.self.now acting ws task c.requires.choice c.in-Some.field-0
          (ap (λ cs. default_from 1 (communications_of cs)) (sym c.deref.ensures.value) ∙ sym c.default_clause.ensures ∙ c.in-Some.is),
    )

pub returns-then-any_can_proceed-clause-taken : goal.returns-then-any_can_proceed-clause-taken
returns-then-any_can_proceed-clause-taken c =
    let p = program_in c.args.turn.now.listing.now in
    let e = c.args.turn.now.event.now in
    let acting = c.requires.may.acting in
    let ws = communications_of c.args.clauses.items in
    let task = c.requires.task acting.goroutine acting.there in
    let there : default_from 1 ws ≡ None =
    ap (λ cs. default_from 1 (communications_of cs)) (sym c.deref.ensures.value) ∙ sym c.default_clause.ensures ∙ c.in_default.is in (
      refl,
      park_late p e c.args.turn.now.number c.args.self.now acting ws task c.requires.choice there
          (ap (λ cs. list_any (can_proceed (contents_in c.args.self.now)) (communications_of cs)) (sym c.deref-2.ensures.value)
          ∙ sym c.any_can_proceed.ensures ∙ c.if-any_can_proceed.true),
    )

pub fail_at_select-requires-clause-made : goal.fail_at_select-requires-clause-made
fail_at_select-requires-clause-made c =
    let p = program_in c.args.turn.now.listing.now in
    let e = c.args.turn.now.event.now in
    let acting = c.requires.may.acting in
    let ws = communications_of c.args.clauses.items in
    let task = c.requires.task acting.goroutine acting.there in
    let there : default_from 1 ws ≡ None =
    ap (λ cs. default_from 1 (communications_of cs)) (sym c.deref.ensures.value) ∙ sym c.default_clause.ensures ∙ c.in_default.is in
    let none : list_any (can_proceed (contents_in c.args.self.now)) ws ≡ false =
    ap (λ cs. list_any (can_proceed (contents_in c.args.self.now)) (communications_of cs)) (sym c.deref-2.ensures.value)
    ∙ sym c.any_can_proceed.ensures ∙ c.if-any_can_proceed.false in
    rw c.deref-in-Some-first_fault.ensures.value (park_made p e c.args.turn.now.number c.args.self.now acting ws task c.requires.choice there none)

pub fail_at_select-requires-clause-looks : goal.fail_at_select-requires-clause-looks
fail_at_select-requires-clause-looks c =
    let p = program_in c.args.turn.now.listing.now in
    let e = c.args.turn.now.event.now in
    let acting = c.requires.may.acting in
    let ws = communications_of c.args.clauses.items in
    let task = c.requires.task acting.goroutine acting.there in
    rw c.deref-in-Some-first_fault.ensures.value
    (of_actor p e c.args.turn.now.number c.args.self.now acting (LooksAt p e ws)
    (park_looks p e c.args.turn.now.number c.args.self.now acting ws task c.requires.choice))

pub fail_at_select-requires-clause-step : goal.fail_at_select-requires-clause-step
fail_at_select-requires-clause-step c =
    let p = program_in c.args.turn.now.listing.now in
    let e = c.args.turn.now.event.now in
    let acting = c.requires.may.acting in
    let ws = communications_of c.args.clauses.items in
    let task = c.requires.task acting.goroutine acting.there in
    let there : default_from 1 ws ≡ None =
    ap (λ cs. default_from 1 (communications_of cs)) (sym c.deref.ensures.value) ∙ sym c.default_clause.ensures ∙ c.in_default.is in
    let none : list_any (can_proceed (contents_in c.args.self.now)) ws ≡ false =
    ap (λ cs. list_any (can_proceed (contents_in c.args.self.now)) (communications_of cs)) (sym c.deref-2.ensures.value)
    ∙ sym c.any_can_proceed.ensures ∙ c.if-any_can_proceed.false in
    let fault = c.in-Some-first_fault.fault in
    of_actor p e c.args.turn.now.number c.args.self.now acting (λ g. IsFaultOf p e (contents_in c.args.self.now) g fault)
    (park_at_fault p e c.args.turn.now.number c.args.self.now acting ws task c.requires.choice there none fault
    (value_faults c.args.clauses.items fault (ap fault_in (sym c.deref-3.ensures.value) ∙ sym c.first_fault.ensures ∙ c.in-Some-first_fault.is)))

pub wait_in_select-requires-clause-given : goal.wait_in_select-requires-clause-given
wait_in_select-requires-clause-given c =
    values_given c.args.clauses.items (ap fault_in (sym c.deref-3.ensures.value) ∙ sym c.first_fault.ensures ∙ c.in_default-first_fault.is)

pub wait_in_select-requires-clause-sound : goal.wait_in_select-requires-clause-sound
wait_in_select-requires-clause-sound c =
    let p = program_in c.args.turn.now.listing.now in
    let e = c.args.turn.now.event.now in
    let acting = c.requires.may.acting in
    let ws = communications_of c.args.clauses.items in
    let task = c.requires.task acting.goroutine acting.there in
    let there : default_from 1 ws ≡ None =
    ap (λ cs. default_from 1 (communications_of cs)) (sym c.deref.ensures.value) ∙ sym c.default_clause.ensures ∙ c.in_default.is in
    let none : list_any (can_proceed (contents_in c.args.self.now)) ws ≡ false =
    ap (λ cs. list_any (can_proceed (contents_in c.args.self.now)) (communications_of cs)) (sym c.deref-2.ensures.value)
    ∙ sym c.any_can_proceed.ensures ∙ c.if-any_can_proceed.false in
    let given = values_given c.args.clauses.items
    (ap fault_in (sym c.deref-3.ensures.value) ∙ sym c.first_fault.ensures ∙ c.in_default-first_fault.is) in
    of_actor_now p e c.args.turn.now.number c.args.self.now acting
    (λ a. Sound (frame_in p) (contents_in c.args.self.now) (wait a None SelectWait (numbered 1 ws)))
    (λ q. never_unsound p (contents_in c.args.self.now) acting.running e
    (park_waits p e c.args.turn.now.number c.args.self.now acting ws task c.requires.choice there none given.0 given.1 ∙ q))

pub returns-clause-taken : goal.returns-clause-taken
returns-clause-taken c =
    let p = program_in c.args.turn.now.listing.now in
    let e = c.args.turn.now.event.now in
    let acting = c.requires.may.acting in
    let ws = communications_of c.args.clauses.items in
    let task = c.requires.task acting.goroutine acting.there in
    let there : default_from 1 ws ≡ None =
    ap (λ cs. default_from 1 (communications_of cs)) (sym c.deref.ensures.value) ∙ sym c.default_clause.ensures ∙ c.in_default.is in
    let none : list_any (can_proceed (contents_in c.args.self.now)) ws ≡ false =
    ap (λ cs. list_any (can_proceed (contents_in c.args.self.now)) (communications_of cs)) (sym c.deref-2.ensures.value)
    ∙ sym c.any_can_proceed.ensures ∙ c.if-any_can_proceed.false in
    let given = values_given c.args.clauses.items
    (ap fault_in (sym c.deref-3.ensures.value) ∙ sym c.first_fault.ensures ∙ c.in_default-first_fault.is) in
    let now = here p e c.args.turn.now.number c.args.self.now acting in
    taken_alike p e (attempt p e) (wait (a p e c.args.turn.now.number c.args.self.now acting) None SelectWait (numbered 1 ws))
    (contents_in c.args.self.now) _ _
    (park_waits p e c.args.turn.now.number c.args.self.now acting ws task c.requires.choice there none given.0 given.1)
    (c.in_ok-change-2.ensures.ok acting.goroutine now.f now.below acting.there now.acts.up.frames)
