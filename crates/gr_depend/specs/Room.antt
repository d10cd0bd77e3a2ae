-- Room in a log for steps that come, without memory.
use Rattle.std.specs.Prelude.{◌≤◌, ◌^◌, ◌++◌, List, length, vec_capacity}
use Rattle.gr_record.specs.declared.record.Record.{Record}
use Rattle.gr_touches.specs.Touches.{touches_in}
use Rattle.gr_touches.specs.Room.{Fits}
use Rattle.gr_depend.specs.declared.log.Log.{Log}

-- these records can be pushed, one after the other, without memory, and their places fit in 31 bits
pub record CanTake (log : Log) (steps : List Record) : Type 0 where
  pub records : length (log.records.items ++ steps) ≤ vec_capacity log.records
  pub places : length (log.records.items ++ steps) ≤ 2 ^ 31
  pub touches : Fits log.lanes (λ o. touches_in o 0 (log.records.items ++ steps))
