-- When a change of what a store contains is the step of an attempt, and what the change leaves in a record.
use Rattle.std.specs.Prelude.{◌≡◌, ◌+◌, is_some}
use Rattle.gr_base.specs.declared.events.Event.{Event}
use Rattle.gr_program.specs.Programs.{Program}
use Rattle.gr_rules.specs.Attempts.{Attempt, Report, kind_of}
use Rattle.gr_rules.specs.Steps.{attempt, count}
use Rattle.gr_rules.specs.Touches.{table}
use Rattle.gr_laws.specs.Touched.{each_once}
use Rattle.gr_refine.specs.Contents.{Contents}
use Rattle.gr_refine.specs.Performing.{StepsTo}
use Rattle.gr_refine.specs.Standing.{ContentsStand}
use Rattle.gr_lower.specs.Lowered.{lowered, meaning}
use Rattle.gr_record.specs.Effects.{Effect}
use Rattle.gr_record.specs.declared.record.Record.{Record}
use Rattle.gr_record.specs.Listings.{frame_in, state_in}
use Rattle.gr_tables.specs.Before.{is_printed}
use Rattle.gr_record.specs.Records.{event_of, operation_in, writes_of, reads_of, taken_back, CanGoBack}
use Rattle.gr_record.specs.Within.{ChangesWithin}

-- The attempt of an event is the step from the first contents to the second. The change tells what the report does, has
-- touched what the table says, and goes back.
pub record Takes (p : Program) (e : Event) (attempt : Attempt) (s : Contents) (c : Effect) (t : Contents) : Type 0 where
  pub report : Report
  pub steps : StepsTo (frame_in p) attempt s t report
  pub ordinal : report.ordinal ≡ count (state_in p s) e.go + 1
  pub kind : c.kind ≡ kind_of report
  pub printed : is_printed c.own ≡ is_some report.printed
  pub operation : operation_in c ≡ report.operation
  pub writes : writes_of e.go c ≡ (table (state_in p s) e report).writes
  pub reads : reads_of c ≡ each_once (table (state_in p s) e report).writes (table (state_in p s) e report).reads
  pub back : taken_back e.go c t ≡ s
  pub fits : CanGoBack e.go c t
  pub stand : ContentsStand (meaning p) (lowered p) t
  pub within : ChangesWithin e.go c t

-- A record is that of a step of its event, from the first contents to the second.
pub record IsRecord (p : Program) (s : Contents) (r : Record) (t : Contents) : Type 0 where
  pub takes : Takes p (event_of r) (attempt p (event_of r)) s r.change t
  pub named : r.id.n ≡ count (state_in p s) r.id.go + 1
