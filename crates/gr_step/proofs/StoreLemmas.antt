-- A run of a program that goes on by the step of an event.
use Rattle.std.proofs.Common.{◌++◌, ◌∷◌, []}
use Rattle.gr_base.specs.declared.events.Event.{Event}
use Rattle.gr_causal.specs.Machine.{saved_of}
use Rattle.gr_causal.proofs.PathLemmas.{log_push, step_log}
use Rattle.gr_program.specs.Programs.{Program}
use Rattle.gr_rules.specs.States.{start}
use Rattle.gr_rules.specs.Steps.{attempt, machine}
use Rattle.gr_refine.specs.Contents.{Contents}
use Rattle.gr_refine.specs.Machines.{note_of}
use Rattle.gr_refine.proofs.AttemptLemmas.{step_is_of_the_machine}
use Rattle.gr_record.specs.Effects.{Effect}
use Rattle.gr_record.specs.Listings.{frame_in, state_in}
use Rattle.gr_record.specs.Running.{Running}
use Rattle.gr_record.specs.Taking.{Takes}

pub runs_on : (p : Program) (e : Event) (s t : Contents) (c : Effect) → Running p s → Takes p e (attempt p e) s c t → Running p t
runs_on p e s t c run takes =
    let n = note_of (state_in p s) (attempt p e) takes.report takes.steps.cells in
    let step = step_is_of_the_machine (frame_in p) s t p e takes.report takes.steps in
    let saved = saved_of (machine p) (state_in p s) ((machine p).writes n) in
    record {
      program = run.program;
      reached = record {
        log = run.reached.log ++ record { event = e; note = n; saved = saved } ∷ [];
        leads =
            log_push (machine p) (start p) run.reached.log (state_in p s) (record { event = e; note = n; saved = saved }) (state_in p t)
            run.reached.leads (step_log (machine p) (state_in p s) (state_in p t) e n step);
      };
      stand = takes.stand;
    }
