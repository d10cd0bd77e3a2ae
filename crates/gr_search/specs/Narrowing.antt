-- How a search for a bad state of the fewest steps goes.
use Rattle.std.specs.Prelude.{◌≡◌, ◌-◌, ◌<◌, ℕ, List, [], Option, IfSome}
use Rattle.gr_search.specs.System.{System}
use Rattle.gr_search.specs.Bounds.{IsSafeWithin, HasBad}
use Rattle.gr_search.specs.Shortest.{IsCut, IsShortest}
use Rattle.gr_search.specs.declared.searched.Limit.{Limit}
use Rattle.gr_search.specs.declared.searched.Limit.TheVariants as limits
use Rattle.gr_search.specs.declared.shortest.Shortest.TheVariants.{Limited}
use Rattle.gr_search.specs.declared.shortest.End.{End}
use Rattle.gr_search.specs.declared.shortest.End.TheVariants.{Bad, Cut}
use Rattle.gr_search.specs.declared.shortest.Between.{Between}
use Rattle.gr_search.specs.declared.shortest.Narrowed.{Narrowed}
use Rattle.gr_search.specs.declared.shortest.Narrowed.TheVariants.{GoesOn, Ended}

module _ {State Event Matter : Type 0} (Y : System State Event Matter) (means : List ℕ → Matter → Type 0) (offers : State → List Event → Type 0) (longest states turns : ℕ) where
  -- why no search of more steps is needed
  abbrev pub EndsAt : ℕ → End → Type 0
  EndsAt n Bad = HasBad Y n
  EndsAt n (Cut limit) = IsCut Y means offers longest states turns n limit

  -- between these numbers the fewest steps are to be found, or where a limit is met
  pub record IsBetween (b : Between) : Type 0 where
    pub safe : IsSafeWithin Y b.safe
    pub below : b.safe < b.top
    pub end : EndsAt b.top b.end
    pub known : IfSome b.known (HasBad Y)

  -- the search goes on from the start, or it ended
  abbrev pub IsNarrowed : Narrowed → List Event → State → Type 0
  IsNarrowed (GoesOn b) log s = IsBetween b × (log ≡ [])
  IsNarrowed (Ended shortest) log s = IsShortest Y means offers longest states turns shortest log s

-- where it goes on, the numbers are closer
abbrev pub IsCloser : Between → Narrowed → Type 0
IsCloser b (GoesOn c) = c.top - c.safe < b.top - b.safe
IsCloser b (Ended shortest) = Unit {0}

-- what becomes of the numbers where the search of runs of at most so many steps met a limit
abbrev pub IsCutAt : Limit → (top safe : ℕ) → Option ℕ → Narrowed → Type 0
IsCutAt limits.Back top safe known r = r ≡ Ended (Limited (record { limit = limits.Back; safe = safe; known = known }))
IsCutAt limit top safe known r = r ≡ GoesOn (record { safe = safe; top = top; end = Cut limit; known = known })
