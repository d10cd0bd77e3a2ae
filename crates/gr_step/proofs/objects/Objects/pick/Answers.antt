use Rattle.std.proofs.Common.{◌≡◌, [], ◌∷◌, Some, option_map, refl, sym, ap, ◌∙◌}
use Rattle.gr_rules.specs.Actors.{clause_at}
use Rattle.gr_rules.specs.Attempts.{no_such_choice, refuse}
use Rattle.gr_rules.specs.Communications.{communicate}
use Rattle.gr_rules.specs.Outcomes.{faults}
use Rattle.gr_rules.specs.Selects.{values_of}
use Rattle.gr_rules.specs.Steps.{attempt}
use Rattle.gr_code.specs.Programs.{IsClause}
use Rattle.gr_refine.specs.Arriving.{HasClauseHere}
use Rattle.gr_refine.specs.Looks.{Ends}
use Rattle.gr_goros.specs.Views.{communication_of, communications_of}
use Rattle.gr_lower.specs.Lowered.{lowered}
use Rattle.gr_step.specs.Choices.{IsFaultOf, LooksAt, fault_in}
use Rattle.gr_record.specs.Listings.{frame_in, program_in}
use Rattle.gr_step.specs.Objects.{contents_in}
use Rattle.gr_step.proofs.SelectListLemmas.{values_given, value_faults}
use Rattle.gr_step.proofs.SelectLemmas.{of_actor, of_actor_now, pick_of_none, pick_communicates, pick_faults, pick_cannot, pick_looks, pick_has_clause}
use Rattle.gr_step.proofs.objects.Objects.pick.Goals as goal

pub returns-in_default-clause-taken : goal.returns-in_default-clause-taken
returns-in_default-clause-taken c =
    let p = program_in c.args.turn.now.listing.now in
    let e = c.args.turn.now.event.now in
    let acting = c.requires.may.acting in
    let ws = communications_of c.args.clauses.items in
    let task = c.requires.task acting.goroutine acting.there in (
      refl,
      pick_of_none p e c.args.turn.now.number c.args.self.now acting ws task c.args.case c.requires.choice
          (sym c.take_clause.ensures ∙ ap (option_map communication_of) c.in_default.is),
    )

pub communicate-requires-clause-clause : goal.communicate-requires-clause-clause
communicate-requires-clause-clause c =
    let p = program_in c.args.turn.now.listing.now in
    let e = c.args.turn.now.event.now in
    let acting = c.requires.may.acting in
    let ws = communications_of c.args.clauses.items in
    let task = c.requires.task acting.goroutine acting.there in
    let w = communication_of c.in-Some.clause in
    let clause : clause_at ws c.args.case ≡ Some w = sym c.take_clause.ensures ∙ ap (option_map communication_of) c.in-Some.is in
    of_actor p e c.args.turn.now.number c.args.self.now acting (λ g. IsClause (Some c.args.case) × HasClauseHere (lowered p) g.frames (Some c.args.case))
    (pick_has_clause p e c.args.turn.now.number c.args.self.now acting ws task c.args.case c.requires.choice w clause)

pub communicate-requires-clause-step : goal.communicate-requires-clause-step
communicate-requires-clause-step c =
    let p = program_in c.args.turn.now.listing.now in
    let e = c.args.turn.now.event.now in
    let acting = c.requires.may.acting in
    let ws = communications_of c.args.clauses.items in
    let task = c.requires.task acting.goroutine acting.there in
    let w = communication_of c.in-Some.clause in
    let clause : clause_at ws c.args.case ≡ Some w = sym c.take_clause.ensures ∙ ap (option_map communication_of) c.in-Some.is in
    let given = values_given c.args.clauses.items
    (ap fault_in (sym c.deref.ensures.value) ∙ sym c.first_fault-fault.ensures ∙ c.in_default-fault.is) in
    of_actor_now p e c.args.turn.now.number c.args.self.now acting
    (λ a. Ends (frame_in p) (contents_in c.args.self.now) (attempt p e) (communicate a (Some c.args.case) w (refuse no_such_choice)))
    (pick_communicates p e c.args.turn.now.number c.args.self.now acting ws task c.args.case c.requires.choice w clause given.0 given.1)

pub returns-then-not-can_proceed-clause-taken : goal.returns-then-not-can_proceed-clause-taken
returns-then-not-can_proceed-clause-taken c =
    let p = program_in c.args.turn.now.listing.now in
    let e = c.args.turn.now.event.now in
    let acting = c.requires.may.acting in
    let ws = communications_of c.args.clauses.items in
    let task = c.requires.task acting.goroutine acting.there in
    let w = communication_of c.in-Some.clause in
    let clause : clause_at ws c.args.case ≡ Some w = sym c.take_clause.ensures ∙ ap (option_map communication_of) c.in-Some.is in
    let fault = c.in-Some-fault.fault in
    let values : values_of ws ≡ faults fault =
    value_faults c.args.clauses.items fault (ap fault_in (sym c.deref.ensures.value) ∙ sym c.first_fault-fault.ensures ∙ c.in-Some-fault.is) in (
      refl,
      pick_cannot p e c.args.turn.now.number c.args.self.now acting ws task c.args.case c.requires.choice w clause fault values
          (sym c.can_proceed.ensures ∙ c.if-not-can_proceed.true),
    )

pub fail_at_select-requires-clause-looks : goal.fail_at_select-requires-clause-looks
fail_at_select-requires-clause-looks c =
    let p = program_in c.args.turn.now.listing.now in
    let e = c.args.turn.now.event.now in
    let acting = c.requires.may.acting in
    let ws = communications_of c.args.clauses.items in
    let task = c.requires.task acting.goroutine acting.there in
    let w = communication_of c.in-Some.clause in
    let clause : clause_at ws c.args.case ≡ Some w = sym c.take_clause.ensures ∙ ap (option_map communication_of) c.in-Some.is in
    of_actor p e c.args.turn.now.number c.args.self.now acting (LooksAt p e (w ∷ []))
    (pick_looks p e c.args.turn.now.number c.args.self.now acting ws task c.args.case c.requires.choice w clause)

pub fail_at_select-requires-clause-step : goal.fail_at_select-requires-clause-step
fail_at_select-requires-clause-step c =
    let p = program_in c.args.turn.now.listing.now in
    let e = c.args.turn.now.event.now in
    let acting = c.requires.may.acting in
    let ws = communications_of c.args.clauses.items in
    let task = c.requires.task acting.goroutine acting.there in
    let w = communication_of c.in-Some.clause in
    let clause : clause_at ws c.args.case ≡ Some w = sym c.take_clause.ensures ∙ ap (option_map communication_of) c.in-Some.is in
    let fault = c.in-Some-fault.fault in
    let values : values_of ws ≡ faults fault =
    value_faults c.args.clauses.items fault (ap fault_in (sym c.deref.ensures.value) ∙ sym c.first_fault-fault.ensures ∙ c.in-Some-fault.is) in
    of_actor p e c.args.turn.now.number c.args.self.now acting (λ g. IsFaultOf p e (contents_in c.args.self.now) g fault)
    (pick_faults p e c.args.turn.now.number c.args.self.now acting ws task c.args.case c.requires.choice w clause fault values
    (sym c.can_proceed.ensures ∙ c.if-not-can_proceed.false))
