-- Room for taking a step back.
use Rattle.std.specs.Prelude.{◌≤◌, ℕ, List}
use Rattle.gr_goros.specs.Undoing.{need}
use Rattle.gr_tables.specs.NamedChannels.{HasRooms, rooms_of}
use Rattle.gr_tables.specs.NamedGoroutines.{go_rooms_of}
use Rattle.gr_record.specs.Effects.{Effect}
use Rattle.gr_record.specs.Records.{channels_changed}
use Rattle.gr_step.specs.declared.objects.Objects.{Objects}

-- there is room for taking it back
pub record HasRoom (n : List ℕ) (c : Effect) (o : Objects) : Type 0 where
  pub frames : need c.own ≤ go_rooms_of o.goroutines n
  pub places : HasRooms (channels_changed c) (rooms_of o.channels)
