-- The steps that were taken back last are taken again in one way.
use Rattle.std.proofs.Common.{◌≡◌, List, [], ◌++◌, length, sym, ◌∙◌, ap, subst}
use Rattle.std.proofs.lemmas.List.{append-nil, length-map}
use Rattle.gr_base.specs.declared.events.Event.{Event}
use Rattle.gr_base.specs.declared.names.StepId.{StepId}
use Rattle.gr_causal.specs.Machine.{IsLog, replay}
use Rattle.gr_causal.proofs.ListLemmas.{some_is}
use Rattle.gr_causal.proofs.PathLemmas.{log_join}
use Rattle.gr_program.specs.Programs.{Program}
use Rattle.gr_rules.specs.States.{State, start}
use Rattle.gr_rules.specs.Steps.{machine}
use Rattle.gr_laws.specs.Reached.{Logged, IsRun}
use Rattle.gr_rollback.specs.Backs.{Redoes}
use Rattle.gr_rollback.specs.Pasts.{Timeline, id_of, ids_of, events_in}
use Rattle.gr_session.proofs.OneMeaningLists.{same_parts}
use Rattle.gr_session.proofs.OneMeaningPasts.{same_past}

-- the steps of the same events from one state are the same, and so is the end
pub same_steps : (p : Program) (s t u : State) (steps more : List (Logged p)) → IsLog (machine p) s steps t → IsLog (machine p) s more u
    → events_in p steps ≡ events_in p more → (t ≡ u) × (steps ≡ more)
same_steps p s t u steps more leads goes e =
    let both = some_is _ _ (sym leads ∙ ap (replay (machine p) s) e ∙ goes) in
    (ap (λ (x : State × List (Logged p)). x.0) both, ap (λ (x : State × List (Logged p)). x.1) both)

-- steps that are taken again lead on from what a run leads to
pub redo_leads_on : (p : Program) (w u : Timeline p) (ids : List StepId) → IsRun p w.past.log w.past.state → Redoes p w ids u → IsRun p u.past.log u.past.state
redo_leads_on p w u ids run redoes =
    subst (λ l. IsRun p l u.past.state) (sym redoes.log)
    (log_join (machine p) (start p) w.past.state u.past.state w.past.log redoes.steps run redoes.leads)

-- two ways to take steps again that are one
pub record SameRedo (p : Program) (u v : Timeline p) (ids others : List StepId) : Type 0 where
  pub past : u.past ≡ v.past
  pub again : u.again ≡ v.again
  pub names : ids ≡ others

module _ (p : Program) (w u v : Timeline p) (ids others : List StepId) (first : Redoes p w ids u) (second : Redoes p w others v) where
  -- the steps of one list of events, to its end or not, are taken again in one way
  of_events : (events_in p first.steps ≡ events_in p second.steps) × (u.again ≡ v.again) → SameRedo p u v ids others
  of_events e =
      let same = same_steps p w.past.state u.past.state v.past.state first.steps second.steps first.leads second.leads e.0 in
      record {
        past = same_past p u.past v.past (first.log ∙ ap (λ xs. w.past.log ++ xs) same.1 ∙ sym second.log) same.0;
        again = e.1;
        names = first.names ∙ ap (ids_of p) same.1 ∙ sym second.names;
      }

  -- all of them
  pub one_redo : u.again ≡ [] → v.again ≡ [] → SameRedo p u v ids others
  one_redo all every = of_events (ends first.steps u.again all ∙ sym first.events ∙ second.events ∙ sym (ends second.steps v.again every), all ∙ sym every)
    where
      ends : (steps : List (Logged p)) (rest : List Event) → rest ≡ [] → events_in p steps ≡ events_in p steps ++ rest
      ends steps rest none = sym (append-nil (events_in p steps)) ∙ ap (λ xs. events_in p steps ++ xs) (sym none)

  -- as many as were asked for
  pub one_redo_of_some : length ids ≡ length others → SameRedo p u v ids others
  one_redo_of_some count =
      of_events (same_parts (events_in p first.steps) (events_in p second.steps) u.again v.again
      (counted ids first.steps first.names ∙ count ∙ sym (counted others second.steps second.names)) (sym first.events ∙ second.events))
    where
      counted : (ids : List StepId) (steps : List (Logged p)) → ids ≡ ids_of p steps → length (events_in p steps) ≡ length ids
      counted ids steps e = length-map steps (λ r. r.event) ∙ sym (length-map steps (id_of p)) ∙ ap length (sym e)
