-- Steps that are taken back, taken again, and put in another order, as replies tell it.
use Rattle.std.proofs.Common.{◌≡◌, ℕ, List, [], ◌∷◌, length, Some, None, Vec, refl, sym, ap, subst, ◌∙◌}
use Rattle.std.specs.Prelude.{Result, Ok, Err}
use Rattle.std.proofs.Common.{Global}
use Rattle.std.proofs.lemmas.List.{length-map}
use Rattle.gr_base.specs.declared.events.Event.{Event}
use Rattle.gr_base.specs.declared.names.StepId.{StepId}
use Rattle.gr_causal.specs.Dependence.{dependents}
use Rattle.gr_program.specs.Programs.{Program}
use Rattle.gr_laws.specs.Dependence.{clash}
use Rattle.gr_command.specs.declared.command.Command.{Command}
use Rattle.gr_command.specs.declared.command.Command.TheVariants as commands
use Rattle.gr_command.specs.declared.target.Target.{Target}
use Rattle.gr_command.specs.declared.refusal.Refusal.TheVariants.{NotKept}
use Rattle.gr_command.specs.declared.reply.Reply.{Reply}
use Rattle.gr_command.specs.Replies.{Said, said_of}
use Rattle.gr_command.specs.Replies as said
use Rattle.gr_rollback.specs.declared.refusal.BackRefused.{BackRefused}
use Rattle.gr_rollback.specs.declared.refusal.BackRefused.TheVariants as refusals
use Rattle.gr_rollback.specs.Pasts.{Past, id_of, ids_of, events_in}
use Rattle.gr_rollback.specs.Machines as machines
use Rattle.gr_rollback.specs.Backs.{IsNamed, NamesNone, again_after, Undone, TakenBack, TakenAgain, Reordered}
use Rattle.gr_session.specs.declared.debuggee.Debuggee.{Debuggee}
use Rattle.gr_session.specs.declared.journal.Memory.{Memory}
use Rattle.gr_session.specs.declared.journal.Memory.TheVariants.{Enough, EnoughFor}
use Rattle.gr_session.specs.Journal.{World, course_of, moved, IsAsked, Leads, undoes, has_no_step, cannot_undo, takes_back, takes_some_back, asks_for_none, takes_again, takes_some_again, has_none_again, orders, has_other_steps, breaks_dependence, cannot_order}
use Rattle.gr_session.specs.Targets.{step_asked}
use Rattle.gr_session.specs.Debuggees.{Stands, HasLines}
use Rattle.gr_session.specs.Carried.{LeadsTo, Tells, refusal_said}
use Rattle.gr_session.specs.Wants.{TellsNoStep}
use Rattle.gr_session.proofs.Basics.{some_inj}

-- what is answered for what the machine answers
abbrev pub undo_answer : Result StepId BackRefused → Memory × Said
undo_answer (Ok id) = (Enough, said.Undone id)
undo_answer (Err why) = refusal_said why

abbrev pub steps_answer : Result (Vec StepId Global) BackRefused → Memory × Said
steps_answer (Ok ids) = (Enough, said.Steps ids.items)
steps_answer (Err why) = refusal_said why

abbrev pub order_answer : Result (Unit {0}) BackRefused → Memory × Said
order_answer (Ok done) = (Enough, said.Acknowledged)
order_answer (Err why) = refusal_said why

abbrev pub LeadsBy : (p : Program) → World p → Command → Memory × Said → Debuggee → Type 0
LeadsBy p w command answer d = LeadsTo p w command answer.0 answer.1 d

module _ (p : Program) (w : World p) (d : Debuggee) (lines : HasLines w.lines d.lines) (grant : d.grant ≡ w.grant) where
  -- where the machine stands, with the lines and the grant as they were
  at_machine : (u : Past p) (again : List Event) → machines.Stands p (record { past = u; again = again }) d.machine → Stands p (moved p w u again) d
  at_machine u again s = record { machine = s; lines = lines; grant = grant }

  stays : machines.Stands p (course_of p w) d.machine → Stands p w d
  stays s = record { machine = s; lines = lines; grant = grant }

  partly : (command : Command) (world : World p) (ids some : List StepId) → ids ≡ some → Leads p w command (EnoughFor (length some)) world (said.PartlyDone some)
      → Stands p world d → LeadsTo p w command (EnoughFor (length ids)) (said.PartlyDone ids) d
  partly command world ids some is leads s = record {
    world = world;
    leads = subst (λ xs. Leads p w command (EnoughFor (length xs)) world (said.PartlyDone xs)) (sym is) leads;
    stands = s;
  }

  pub undo_leads : (r : Result StepId BackRefused) → Undone p (course_of p w) r d.machine → LeadsBy p w commands.Undo (undo_answer r) d
  undo_leads (Ok id) done =
      let after : World p = moved p w done.past (done.step.event ∷ []) in
      record {
        world = after;
        leads = subst (λ x. Leads p w commands.Undo Enough after (said.Undone x)) done.named (undoes done.step done.loses);
        stands = at_machine done.past (done.step.event ∷ []) done.stands;
      }
  undo_leads (Err refusals.NothingToUndo) done = record { world = w; leads = has_no_step done.0; stands = stays done.1 }
  undo_leads (Err refusals.NotKept) done = absurd done
  undo_leads (Err refusals.NotTheSteps) done = absurd done
  undo_leads (Err (refusals.BreaksDependence x y)) done = absurd done
  undo_leads (Err refusals.NothingToRedo) done = absurd done
  undo_leads (Err (refusals.NoMemory ids)) done = partly commands.Undo w ids.items [] done.1 (cannot_undo done.0) (stays done.2)

  pub no_target_leads : (target : Target) → step_asked p w.log target ≡ None → machines.Stands p (course_of p w) d.machine
      → LeadsTo p w (commands.Back target) Enough (said.No NotKept) d
  no_target_leads target none s = record {
    world = w;
    leads = asks_for_none (λ place asks. let e : None ≡ Some asks.id = sym none ∙ asks.asked in cc);
    stands = stays s;
  }

  module _ (target : Target) (id : StepId) (asked : step_asked p w.log target ≡ Some id) where
    asks : (place : ℕ) → IsNamed p w.log id place → IsAsked p w.log target place
    asks place named = record { id = id; asked = asked; named = named }

    pub back_leads : (r : Result (Vec StepId Global) BackRefused) → TakenBack p (course_of p w) id r d.machine
        → LeadsBy p w (commands.Back target) (steps_answer r) d
    back_leads (Ok ids) done =
        let again : List Event = events_in p (dependents (clash p) w.log done.place) in
        let after : World p = moved p w done.past again in
        record {
          world = after;
          leads = subst (λ xs. Leads p w (commands.Back target) Enough after (said.Steps xs)) (sym done.names)
              (takes_back done.place (asks done.place done.named) done.loses);
          stands = at_machine done.past again done.stands;
        }
    back_leads (Err refusals.NotKept) done = record {
      world = w;
      leads = asks_for_none (λ place a. done.0 place (subst (λ x. IsNamed p w.log x place) (some_inj (sym a.asked ∙ asked)) a.named));
      stands = stays done.1;
    }
    back_leads (Err refusals.NothingToUndo) done = absurd done
    back_leads (Err refusals.NotTheSteps) done = absurd done
    back_leads (Err (refusals.BreaksDependence x y)) done = absurd done
    back_leads (Err refusals.NothingToRedo) done = absurd done
    back_leads (Err (refusals.NoMemory ids)) done =
        let again : List Event = again_after (events_in p done.gone) w.again in
        let after : World p = moved p w done.world.past again in
        let counted : length done.gone ≡ length (ids_of p done.gone) = sym (length-map done.gone (id_of p)) in
        partly (commands.Back target) after ids.items (ids_of p done.gone) done.names
        (takes_some_back done.place done.gone (asks done.place done.named) done.loses counted)
        (at_machine done.world.past again (subst (λ es. machines.Stands p (record { past = done.world.past; again = es }) d.machine) done.again done.stands))

  pub redo_leads : (r : Result (Vec StepId Global) BackRefused) → TakenAgain p (course_of p w) r d.machine
      → LeadsBy p w commands.Redo (steps_answer r) d
  redo_leads (Ok ids) done = record {
    world = moved p w done.past [];
    leads = takes_again done.some done.redoes;
    stands = at_machine done.past [] done.stands;
  }
  redo_leads (Err refusals.NothingToRedo) done = record { world = w; leads = has_none_again done.0; stands = stays done.1 }
  redo_leads (Err refusals.NothingToUndo) done = absurd done
  redo_leads (Err refusals.NotKept) done = absurd done
  redo_leads (Err refusals.NotTheSteps) done = absurd done
  redo_leads (Err (refusals.BreaksDependence x y)) done = absurd done
  redo_leads (Err (refusals.NoMemory ids)) done = record {
    world = moved p w done.world.past done.world.again;
    leads = takes_some_again done.left done.redoes refl;
    stands = at_machine done.world.past done.world.again done.stands;
  }

  pub order_leads : (ids : List StepId) (r : Result (Unit {0}) BackRefused) → Reordered p (course_of p w) ids r d.machine
      → LeadsBy p w (commands.Order ids) (order_answer r) d
  order_leads ids (Ok done) is = record {
    world = moved p w (record { log = is.log; state = w.state }) [];
    leads = orders is.log is.order;
    stands = at_machine (record { log = is.log; state = w.state }) [] is.stands;
  }
  order_leads ids (Err refusals.NotTheSteps) is = record { world = w; leads = has_other_steps is.0; stands = stays is.1 }
  order_leads ids (Err (refusals.BreaksDependence first second)) is = record {
    world = w;
    leads = subst (λ z. Leads p w (commands.Order ids) Enough w (said.BreaksDependence first z)) is.0.second_is
        (subst (λ x. Leads p w (commands.Order ids) Enough w (said.BreaksDependence x (id_of p is.0.later))) is.0.first_is
        (breaks_dependence is.0.earlier is.0.later is.0.order));
    stands = stays is.1;
  }
  order_leads ids (Err refusals.NothingToUndo) is = absurd is
  order_leads ids (Err refusals.NotKept) is = absurd is
  order_leads ids (Err refusals.NothingToRedo) is = absurd is
  order_leads ids (Err (refusals.NoMemory taken)) is = partly (commands.Order ids) w taken.items [] is.0 (cannot_order is.1) (stays is.2)

-- what is answered leads where what it says does
pub by_answer : (p : Program) (w : World p) (d : Debuggee) (command : Command) (answer said : Memory × Said) → answer ≡ said
    → LeadsBy p w command said d → LeadsBy p w command answer d
by_answer p w d command answer said is leads = subst (λ a. LeadsBy p w command a d) (sym is) leads

-- a reply that tells of no step is that of a refusal which names none
pub names_none : (answer : Memory × Reply) (why : BackRefused) → Tells answer why → TellsNoStep (said_of answer.1) → NamesNone why
names_none answer why tells none = by_reason why (subst TellsNoStep (ap (λ (x : Memory × Said). x.1) tells) none)
  where
    by_reason : (why : BackRefused) → TellsNoStep (refusal_said why).1 → NamesNone why
    by_reason (refusals.NoMemory ids) none = none
    by_reason refusals.NothingToUndo none = tt
    by_reason refusals.NotKept none = tt
    by_reason refusals.NotTheSteps none = tt
    by_reason (refusals.BreaksDependence earlier later) none = tt
    by_reason refusals.NothingToRedo none = tt
