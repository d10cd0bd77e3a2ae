-- How a search for a bad state of the fewest steps ends.
use Rattle.std.specs.Prelude.{◌≡◌, ◌⊎◌, ◌+◌, ℕ, List, [], IfSome}
use Rattle.gr_search.specs.System.{System, IsSafe}
use Rattle.gr_search.specs.Going.{Met, HasClosed, IsHome}
use Rattle.gr_search.specs.Bounds.{IsSafeWithin, IsFewest, HasBad, bounded, MeansWithin, OffersWithin}
use Rattle.gr_search.specs.declared.searched.Limit.{Limit}
use Rattle.gr_search.specs.declared.search.Answer.TheVariants as answers
use Rattle.gr_search.specs.declared.shortest.Shortest.{Shortest}
use Rattle.gr_search.specs.declared.shortest.Shortest.TheVariants.{Nothing, Found, Limited}
use Rattle.gr_search.specs.declared.shortest.Unfinished.{Unfinished}

module _ {State Event Matter : Type 0} (Y : System State Event Matter) (means : List ℕ → Matter → Type 0) (offers : State → List Event → Type 0) (longest states turns : ℕ) where
  -- the search of the runs of at most so many steps met the limit; beyond the greatest number it is the search of all runs
  abbrev pub IsCut : ℕ → Limit → Type 0
  IsCut n limit =
      Met (bounded n Y) (MeansWithin means) (OffersWithin offers) longest states turns limit
      ⊎ ((n ≡ 0xFFFF_FFFF_FFFF_FFFF) × Met Y means offers longest states turns limit)

  -- what is known where a limit was met
  pub record IsUnfinished (u : Unfinished) : Type 0 where
    pub safe : IsSafeWithin Y u.safe
    pub known : IfSome u.known (HasBad Y)
    pub met : IsCut (u.safe + 1) u.limit

  -- how the search ends, with this log and in this state
  abbrev pub IsShortest : Shortest → List Event → State → Type 0
  IsShortest (Nothing count) log s = IsSafe Y × HasClosed Y means count × (log ≡ [])
  IsShortest Found log s = Y.bad s × IsFewest Y log
  IsShortest (Limited u) log s = IsUnfinished u × IsHome (answers.Limited u.limit) log
