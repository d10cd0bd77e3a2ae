-- What is told of steps that are kept, and of the states to which they led.
use Rattle.std.specs.Prelude.{◌≡◌, ◌≤◌, ◌+◌, ◌-◌, ◌==◌, ◌&&◌, ◌⊎◌, ℕ, suc, nat_le, min, List, [], ◌∷◌, length, map, Option, Some, None, if◌then◌else◌, codes}
use Rattle.serde_json.specs.Data.{Data}
use Rattle.gr_base.specs.declared.names.StepId.{StepId}
use Rattle.gr_command.specs.declared.request.Query.{Query}
use Rattle.gr_command.specs.declared.request.Query.TheVariants.{Step, Places, At}
use Rattle.gr_facts.specs.Asked.{TellsOf, TellsNamed}
use Rattle.gr_facts.specs.Facts.{Facts}
use Rattle.gr_facts.specs.Views.{facts_in}
use Rattle.gr_facts.specs.declared.telling.Facts as told
use Rattle.gr_json.specs.Facts.{facts_data}
use Rattle.gr_json.specs.Parts.{count, list, perhaps, fields}
use Rattle.gr_laws.specs.Reached.{Logged}
use Rattle.gr_program.specs.Programs.{Program}
use Rattle.gr_protocol.specs.Earlier.{TellsAt}

-- rows of facts, and the place from which there may be more
abbrev pub about_data : List Facts → Option ℕ → Data
about_data rows next = fields ((codes "about", list facts_data rows) ∷ (codes "next", perhaps count next) ∷ [])

-- the row of a step, if it is kept
abbrev pub row_of : Option told.Facts → List Facts
row_of None = []
row_of (Some row) = facts_in row ∷ []

-- the steps from a place on are told of, one after the other
abbrev pub TellAll : (p : Program) → List (Logged p) → ℕ → List told.Facts → Type 0
TellAll p log place [] = Unit {0}
TellAll p log place (row ∷ rows) = TellsOf p log place (facts_in row) × TellAll p log (suc place) rows

-- as many as are asked for from a place on are told of, or all up to the end of the log
pub record TellsFrom (p : Program) (log : List (Logged p)) (place most : ℕ) (rows : List told.Facts) : Type 0 where
  pub all : TellAll p log place rows
  pub few : length rows ≤ most
  pub end : (length rows ≡ most) ⊎ (length log ≤ place + length rows)

-- the most rows of one answer
abbrev pub most_rows : ℕ
most_rows = 1000

-- how many rows one answer has at most for the places from the first to the last, counted from 1
abbrev pub rows_between : ℕ → ℕ → ℕ
rows_between first last = min (last + 1 - first) most_rows

-- the place from which to ask on, where an answer is full
abbrev pub next_place : ℕ → ℕ → ℕ → Option ℕ
next_place first last rows = if rows == most_rows && nat_le (first + rows) last then Some (first + rows) else None

-- the answer to a query, where these steps are kept
pub record TellsPlaces (p : Program) (log : List (Logged p)) (first last : ℕ) (d : Data) : Type 0 where
  pub rows : List told.Facts
  pub tells : TellsFrom p log (first - 1) (rows_between first last) rows
  pub is : d ≡ about_data (map facts_in rows) (next_place first last (length rows))

pub record TellsStep (p : Program) (log : List (Logged p)) (id : StepId) (d : Data) : Type 0 where
  pub row : Option told.Facts
  pub tells : TellsNamed p log id row
  pub is : d ≡ about_data (row_of row) None

abbrev pub TellsAsked : (p : Program) → List (Logged p) → Query → Data → Type 0
TellsAsked p log (Step id) d = TellsStep p log id d
TellsAsked p log (Places first last) d = TellsPlaces p log first last d
TellsAsked p log (At steps view) d = TellsAt p log steps view d
