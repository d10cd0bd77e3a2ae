-- What the change of a goroutine tells of it, by what the change replaced.
use Rattle.std.specs.Prelude.{◌≡◌, Bool, true, false, Option, Some, None}
use Rattle.gr_rules.specs.Goroutines.{Status, ready}
use Rattle.gr_code.specs.Goroutines.{CodeGoroutine}
use Rattle.gr_goros.specs.Undoing.{spot_of, undone}
use Rattle.gr_goros.specs.declared.kept.Prior.{Prior}
use Rattle.gr_goros.specs.declared.kept.Prior.TheVariants as priors
use Rattle.gr_goros.specs.declared.undo.Spot.{Spot}
use Rattle.gr_goros.specs.declared.undo.GoUndo.{GoUndo}
use Rattle.gr_goros.specs.declared.undo.GoUndo.TheVariants as undos

-- where the innermost frame stood before the change, if that keeps it
abbrev pub spot_in : GoUndo → Option Spot
spot_in (undos.Went f u) = Some (record { function = f; number = u.number })
spot_in (undos.Printed s) = Some s
spot_in (undos.Entered s) = Some s
spot_in (undos.Left l) = Some (spot_of l.value.frame)
spot_in (undos.Made f u) = Some (record { function = f; number = u.number })
spot_in (undos.Began s) = Some s
spot_in (undos.Met m) = Some (record { function = m.value.function; number = m.value.frame.number })
spot_in (undos.Parked s) = Some s
spot_in (undos.Finished f) = Some (spot_of f.value)
spot_in (undos.Faulted s) = Some s
spot_in (undos.Retried s) = None

-- what is told of the status before a change, beside the one after it
abbrev pub IsPrior : Prior → Status → Status → Type 0
IsPrior priors.Ready before after = before ≡ ready
IsPrior priors.Unready before after = before ≡ ready → ⊥
IsPrior priors.Same before after = before ≡ after

-- what is told of the status before the change that replaced this, in each goroutine
abbrev pub TellsPrior : Prior → GoUndo → Type 0
TellsPrior prior u = (g : CodeGoroutine) → IsPrior prior (undone u g).status g.status

-- whether a line was printed
abbrev pub is_printed : GoUndo → Bool
is_printed u = elim u [ undos.Printed n ↦ true | _ ↦ false ]
