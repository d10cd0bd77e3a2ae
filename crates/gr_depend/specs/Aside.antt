-- The last step of a log, laid behind others.
use Rattle.std.specs.Prelude.{◌≡◌, ◌+◌, List, [], ◌∷◌, ◌++◌, Vec, vec_len, vec_capacity}
use Rattle.std.proofs.Common.{Global}
use Rattle.gr_record.specs.declared.record.Record.{Record}
use Rattle.gr_depend.specs.declared.log.Log.{Log}
use Rattle.gr_depend.specs.Logs.{records_of}
use Rattle.gr_depend.specs.Room.{CanTake}

-- the last step stands at the end of the others, and the log has room for it as before
pub record IsLaidAside (old : Log) (before : Vec Record Global) (new : Log) (after : Vec Record Global) : Type 0 where
  pub step : Record
  pub records : records_of old ≡ records_of new ++ step ∷ []
  pub room : (rest : List Record) → CanTake old rest → CanTake new (step ∷ rest)
  pub items : after.items ≡ before.items ++ step ∷ []
  pub len : vec_len after ≡ vec_len before + 1
  pub capacity : vec_capacity after ≡ vec_capacity before
