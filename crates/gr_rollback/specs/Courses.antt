-- The course of a program: the records of the steps that are kept, what the store contains, and the goroutines that are ready.
use Rattle.std.specs.Prelude.{◌≡◌, ◌≤◌, [], length}
use Rattle.gr_program.specs.Programs.{Program}
use Rattle.gr_rules.specs.States.{start}
use Rattle.gr_refine.specs.Contents.{Contents}
use Rattle.gr_refine.specs.Standing.{ContentsStand}
use Rattle.gr_step.specs.Lowered.{lowered, meaning}
use Rattle.gr_step.specs.Kept.{Kept}
use Rattle.gr_step.specs.Listings.{state_in}
use Rattle.gr_step.specs.Stores.{program_at, contents_at, IsRun}
use Rattle.gr_depend.specs.Logs.{records_of}
use Rattle.gr_rollback.specs.declared.TheConstants.{LOG_LIMIT}
use Rattle.gr_rollback.specs.declared.course.Course.{Course}
use Rattle.gr_rollback.specs.Pasts.{Past}
use Rattle.gr_rollback.specs.Readiness.{HasReady}

-- what a program starts with
pub record Begins (p : Program) (s : Contents) : Type 0 where
  pub state : state_in p s ≡ start p
  pub stand : ContentsStand (meaning p) (lowered p) s

-- the course is that of a past of a program: its records are those of the steps, and the store has the state to which they lead
pub record Holds (p : Program) (w : Past p) (c : Course) : Type 0 where
  pub program : program_at c.store ≡ p
  pub run : IsRun c.store
  pub begins : Contents
  pub begun : Begins p begins
  pub kept : Kept p begins (records_of c.log) w.log (contents_at c.store)
  pub state : w.state ≡ state_in p (contents_at c.store)
  pub pool : HasReady c.pool (contents_at c.store)
  pub short : length (records_of c.log) ≤ LOG_LIMIT
  pub first : c.first ≡ []

-- the course is that of some past
pub record IsCourse (c : Course) : Type 0 where
  pub past : Past (program_at c.store)
  pub holds : Holds (program_at c.store) past c
