-- What comes of a batch: of steps that a goroutine took by itself on a copy of it, and that are to join the log.
use Rattle.std.specs.Prelude.{◌+◌, ◌-◌, ◌<◌, ◌≤◌, Bool, true, false, List, ◌++◌, length}
use Rattle.gr_program.specs.Programs.{Program}
use Rattle.gr_rules.specs.Limits.{most_steps}
use Rattle.gr_rules.specs.States.{State}
use Rattle.gr_laws.specs.Reached.{Logged}
use Rattle.gr_rollback.specs.Contents.{Contents}
use Rattle.gr_command.specs.declared.refusal.Refusal.TheVariants.{LogFull}
use Rattle.gr_command.specs.Replies.{Said, Committed, Stale, No}
use Rattle.gr_rollback.specs.StepLeasing.{Loan, IsAsLentIn}
use Rattle.gr_rollback.specs.Leasing.{Contains, JoinAll}
use Rattle.gr_session.specs.declared.journal.Memory.{Memory}
use Rattle.gr_session.specs.declared.journal.Memory.TheVariants.{Enough, EnoughFor}
use Rattle.gr_session.specs.Journal.{World, past_of, moved, again_past}

-- the world after the steps of a loan, which the grant no longer has
abbrev pub with_steps : (p : Program) → World p → Loan → List (Logged p) → State → World p
with_steps p w b steps t =
    record (moved p w (record { log = w.log ++ steps; state = t }) (again_past b.steps w.again)) { grant = w.grant - b.steps }

-- the steps of a loan may join the log: its goroutine is as it was lent, and grant and log have room for them
pub record MayJoin (p : Program) (w : World p) (s : Contents) (b : Loan) : Type 0 where
  pub as_lent : IsAsLentIn b p s
  pub some : 0 < b.steps
  pub granted : b.steps ≤ w.grant
  pub room : length w.log + b.steps ≤ most_steps

-- What comes of the steps of a loan in a world, as far as memory allowed, and whether the goroutine stood as it was lent. For
-- that, a run of the same program must go on. The rules do not see how a goroutine stands in code. So its content is that of a
-- store to which the steps lead.
pub data Commits (p : Program) (w : World p) (b : Loan) : Bool → Memory → World p → Said → Type 0 where
  -- it did: the steps, of which there are some, join the log, each where the ones before it lead
  all_join : {t : State} (s : Contents) (steps : List (Logged p))
      → Contains p (past_of p w) s → IsAsLentIn b p s → 0 < b.steps → b.steps ≤ w.grant → JoinAll p (past_of p w) b.name b.steps steps t
      → Commits p w b true Enough (with_steps p w b steps t) (Committed b.steps)
  -- a growth for them was refused, and none of them joins
  has_no_memory : (s : Contents) → Contains p (past_of p w) s → MayJoin p w s b → Commits p w b true (EnoughFor 0) w (Committed 0)
  -- the log has no room for all steps of the batch
  has_no_room_for_all : (s : Contents)
      → Contains p (past_of p w) s → IsAsLentIn b p s → b.steps ≤ w.grant → most_steps < length w.log + b.steps
      → Commits p w b true Enough w (No LogFull)
  -- it did not
  has_changed : (s : Contents) → Contains p (past_of p w) s → ¬ IsAsLentIn b p s → Commits p w b false Enough w Stale
  -- the steps are more than the workers may take
  passes_grant : {stood : Bool} → w.grant < b.steps → Commits p w b stood Enough w Stale
