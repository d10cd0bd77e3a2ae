-- The records that a session keeps, and the log of the rules that they are.
use Rattle.std.specs.Prelude.{◌≡◌, is_some, List, [], ◌∷◌, ◌++◌}
use Rattle.gr_causal.specs.Machine.{IsLog}
use Rattle.gr_program.specs.Programs.{Program}
use Rattle.gr_rules.specs.Attempts.{kind_of}
use Rattle.gr_rules.specs.Steps.{machine}
use Rattle.gr_laws.specs.Reached.{Logged}
use Rattle.gr_refine.specs.Contents.{Contents}
use Rattle.gr_record.specs.declared.record.Record.{Record}
use Rattle.gr_record.specs.Listings.{state_in}
use Rattle.gr_tables.specs.Before.{is_printed}
use Rattle.gr_record.specs.Records.{event_of}
use Rattle.gr_record.specs.Taking.{IsRecord}

-- a record is that of a step of the log, from the first contents to the second
pub record Tells (p : Program) (s : Contents) (r : Record) (l : Logged p) (t : Contents) : Type 0 where
  pub is : IsRecord p s r t
  pub step : IsLog (machine p) (state_in p s) (l ∷ []) (state_in p t)
  pub event : l.event ≡ event_of r
  pub kind : kind_of l.note.kind ≡ r.change.kind
  pub ordinal : l.note.kind.ordinal ≡ r.id.n
  pub printed : is_some l.note.kind.printed ≡ is_printed r.change.own

-- records of steps, one after the other, and the log that they are
pub data Kept (p : Program) (s : Contents) : List Record → List (Logged p) → Contents → Type 0 where
  none : Kept p s [] [] s
  one_more : {records : List Record} {log : List (Logged p)} {t : Contents} (r : Record) (l : Logged p) (u : Contents)
      → Kept p s records log t → Tells p t r l u → Kept p s (records ++ r ∷ []) (log ++ l ∷ []) u
