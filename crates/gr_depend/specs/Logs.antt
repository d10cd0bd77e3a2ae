-- A log as the list of its records.
use Rattle.std.specs.Prelude.{◌≡◌, ℕ, List, None}
use Rattle.gr_base.specs.declared.objects.Object.{Object}
use Rattle.gr_record.specs.declared.record.Record.{Record}
use Rattle.gr_touches.specs.declared.lanes.Lanes.{Lanes}
use Rattle.gr_touches.specs.Lists.{list_of}
use Rattle.gr_touches.specs.Touches.{touches_in}
use Rattle.gr_depend.specs.declared.log.Log.{Log}

abbrev pub records_of : Log → List Record
records_of log = log.records.items

-- the step is one of this goroutine that reached no further
pub record IsAlone (go : List ℕ) (r : Record) : Type 0 where
  pub name : r.id.go ≡ go
  pub alone : r.change.beyond ≡ None

-- the lists of the objects are those of a log with these steps
abbrev pub AreListsOf : List Record → Lanes → Type 0
AreListsOf steps lanes = (o : Object) → list_of lanes o ≡ touches_in o 0 steps
