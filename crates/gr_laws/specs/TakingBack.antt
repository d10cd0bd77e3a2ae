-- When the record of a step may be taken back.
use Rattle.std.specs.Prelude.{◌≡◌, [], ◌∷◌}
use Rattle.gr_base.specs.declared.objects.Object.{Object}
use Rattle.gr_causal.specs.Machine.{IsLog, undo}
use Rattle.gr_causal.specs.Sequences.{In}
use Rattle.gr_program.specs.Programs.{Program}
use Rattle.gr_rules.specs.States.{State, look, put}
use Rattle.gr_rules.specs.Steps.{machine}
use Rattle.gr_laws.specs.Reached.{Logged, Reached}

-- A record of a step, from the state before it to the state after it, may be taken back on two conditions. What the step
-- wrote stands as the step left it. The state that putting back leaves is one that the program reaches.
pub record MayGoBack (p : Program) (s : State) (r : Logged p) : Type 0 where
  pub before : State
  pub after : State
  pub step : IsLog (machine p) before (r ∷ []) after
  pub stands : (o : Object) → In o r.note.writes → look s o ≡ look after o
  pub leaves : Reached p (undo put s (r ∷ []))
