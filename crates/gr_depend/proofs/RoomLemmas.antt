-- A log keeps its room.
use Rattle.std.proofs.Common.{◌≡◌, ◌≤◌, ◌^◌, ◌++◌, List, length, vec_capacity, sym, ap, subst, arith}
use Rattle.gr_record.specs.declared.record.Record.{Record}
use Rattle.gr_touches.specs.Touches.{touches_in}
use Rattle.gr_touches.specs.Room.{Fits, KeepsRoom}
use Rattle.gr_depend.specs.declared.log.Log.{Log}
use Rattle.gr_depend.specs.Room.{CanTake}

-- a log with the same steps in all and no less room can take the steps that are left
pub takes_on : (old new : Log) (steps left : List Record) → new.records.items ++ left ≡ old.records.items ++ steps
    → vec_capacity old.records ≤ vec_capacity new.records → KeepsRoom old.lanes new.lanes → CanTake old steps → CanTake new left
takes_on old new steps left is more room can = record {
  records = let same : length (new.records.items ++ left) ≡ length (old.records.items ++ steps) = ap length is in let a = can.records in omega (arith, same, a, more);
  places = subst (λ l. length l ≤ 2 ^ 31) (sym is) can.places;
  touches = room (λ o. touches_in o 0 (new.records.items ++ left)) (subst (λ l. Fits old.lanes (λ o. touches_in o 0 l)) (sym is) can.touches);
}
