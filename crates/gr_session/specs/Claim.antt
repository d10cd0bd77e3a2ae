-- The whole claim: what each `undo` and each `back` of a journal comes to.
use Rattle.std.specs.Prelude.{◌≡◌, List, [], ◌∷◌, ◌++◌, Some}
use Rattle.gr_causal.specs.Sequences.{In}
use Rattle.gr_causal.specs.Machine.{IsLog}
use Rattle.gr_program.specs.Programs.{Program}
use Rattle.gr_rules.specs.Steps.{machine}
use Rattle.gr_laws.specs.Claim.{GoesWithAll, GoesInPart}
use Rattle.gr_laws.specs.Reached.{Logged}
use Rattle.gr_command.specs.declared.command.Command.TheVariants as commands
use Rattle.gr_command.specs.declared.refusal.Refusal.TheVariants.{NothingToUndo, NotKept}
use Rattle.gr_command.specs.declared.target.Target.{Target}
use Rattle.gr_command.specs.Replies.{Said, Undone, Steps, PartlyDone, No}
use Rattle.gr_rollback.specs.Pasts.{id_of, ids_of}
use Rattle.gr_session.specs.declared.journal.Asked.{Asked}
use Rattle.gr_session.specs.declared.journal.Asked.TheVariants as asks
use Rattle.gr_session.specs.declared.journal.Entry.{Entry}
use Rattle.gr_session.specs.Targets.{step_asked}
use Rattle.gr_session.specs.Journal.{World, first_world}
use Rattle.gr_session.specs.Entries.{Means, Lead}

-- the step is kept, and it is the one that is asked for
abbrev pub IsStepAsked : (p : Program) → List (Logged p) → Target → Logged p → Type 0
IsStepAsked p log target x = In x log × (step_asked p log target ≡ Some (id_of p x))

-- what `undo` comes to, from one world to the next, by its reply
pub data UndoComesTo (p : Program) (w u : World p) : Said → Type 0 where
  -- the last step goes, alone; it had led from the state after the `undo` to the one before it
  last_goes : (x : Logged p) → w.log ≡ u.log ++ x ∷ [] → GoesWithAll p w.log x (x ∷ []) u.log u.state → IsLog (machine p) u.state (x ∷ []) w.state
      → UndoComesTo p w u (Undone (id_of p x))
  -- no step is kept, and nothing changes
  none_is_kept : w.log ≡ [] → u ≡ w → UndoComesTo p w u (No NothingToUndo)
  -- memory ran out, and nothing changes
  undo_finds_no_memory : ¬ (w.log ≡ []) → u ≡ w → UndoComesTo p w u (PartlyDone [])

-- what `back` comes to, from one world to the next, by its reply
pub data BackComesTo (p : Program) (target : Target) (w u : World p) : Said → Type 0 where
  -- the step that is asked for goes with exactly the steps that depend on it, which the reply names
  all_go : (x : Logged p) (gone : List (Logged p)) → IsStepAsked p w.log target x → GoesWithAll p w.log x gone u.log u.state
      → BackComesTo p target w u (Steps (ids_of p gone))
  -- memory ran out: only the last of these steps go, which the reply names
  some_go : (x : Logged p) (gone : List (Logged p)) → IsStepAsked p w.log target x → GoesInPart p w.log x gone u.log u.state
      → BackComesTo p target w u (PartlyDone (ids_of p gone))
  -- no such step is kept, and nothing changes
  none_is_asked : ((x : Logged p) → ¬ IsStepAsked p w.log target x) → u ≡ w → BackComesTo p target w u (No NotKept)

-- what is claimed of what was asked; of others than `undo` and `back` nothing
abbrev pub IsAsClaimed : (p : Program) → Asked → World p → World p → Said → Type 0
IsAsClaimed p (asks.Command commands.Undo) w u reply = UndoComesTo p w u reply
IsAsClaimed p (asks.Command (commands.Back target)) w u reply = BackComesTo p target w u reply
IsAsClaimed p asked w u reply = Unit {0}

-- The entry behind these entries of a journal: from their world it leads to the next one, with a reply, and this is as is claimed.
pub record MeetsTheClaim (p : Program) (before : List Entry) (e : Entry) : Type 0 where
  pub old : World p
  pub new : World p
  pub reply : Said
  pub stood : Lead p (first_world p) before old
  pub meant : Means p old e.asked e.memory new reply
  pub comes : IsAsClaimed p e.asked old new reply
