-- How a search for the fewest steps goes on, and how it ends.
use Rattle.std.proofs.Common.{◌≡◌, ◌<◌, ◌+◌, ◌-◌, ℕ, List, [], length, Option, Some, IfSome, sym, subst, arith, inl}
use Rattle.gr_search.specs.System.{System, Leads}
use Rattle.gr_search.specs.Going.{IsHome, RefusesBack}
use Rattle.gr_search.specs.Bounds.{IsSafeWithin, HasBad}
use Rattle.gr_search.specs.declared.shortest.End.{End}
use Rattle.gr_search.specs.Shortest.{IsCut, IsUnfinished}
use Rattle.gr_search.specs.Narrowing.{EndsAt, IsBetween, IsCutAt, IsCloser, IsNarrowed}
use Rattle.gr_search.specs.declared.searched.Limit.{Limit}
use Rattle.gr_search.specs.declared.searched.Limit.TheVariants as limits
use Rattle.gr_search.specs.declared.search.Answer.TheVariants as answers
use Rattle.gr_search.specs.declared.shortest.Shortest.TheVariants.{Found, Limited}
use Rattle.gr_search.specs.declared.shortest.End.TheVariants.{Bad, Cut}
use Rattle.gr_search.specs.declared.shortest.Between.{Between}
use Rattle.gr_search.specs.declared.shortest.Narrowed.{Narrowed}
use Rattle.gr_search.specs.declared.shortest.Narrowed.TheVariants.{GoesOn, Ended}
use Rattle.gr_search.proofs.BoundLemmas.{above, is_fewest}

module _ {State Event Matter : Type 0} (Y : System State Event Matter) (means : List ℕ → Matter → Type 0) (offers : State → List Event → Type 0) (longest states turns : ℕ) where
  abbrev Cuts : ℕ → Limit → Type 0
  Cuts n limit = IsCut Y means offers longest states turns n limit

  abbrev Narrows : Narrowed → List Event → State → Type 0
  Narrows r log s = IsNarrowed Y means offers longest states turns r log s

  -- a step that could not be taken back is a limit at every number
  pub cut_back : (n : ℕ) (limit : Limit) → RefusesBack limit → Cuts n limit
  cut_back n limits.Back h = inl tt
  cut_back n limits.Memory h = absurd h
  cut_back n limits.Steps h = absurd h
  cut_back n limits.States h = absurd h
  cut_back n limits.Turns h = absurd h

  home_back : (limit : Limit) (log : List Event) → RefusesBack limit → IsHome (answers.Limited limit) log
  home_back limits.Back log h = tt
  home_back limits.Memory log h = absurd h
  home_back limits.Steps log h = absurd h
  home_back limits.States log h = absurd h
  home_back limits.Turns log h = absurd h

  -- a run that leads to a bad state has so many steps
  module _ (few : ℕ) (log : List Event) (s : State) (steps : ℕ) (leads : Leads Y log s) (is : steps ≡ length log) (bad : Y.bad s) (safe : IsSafeWithin Y few) where
    has_bad : HasBad Y steps
    has_bad = record { log = log; at = s; leads = leads; long = sym is; bad = bad }

    pub ends_there : steps ≡ few + 1 → IsNarrowed Y means offers longest states turns (Ended Found) log s
    ends_there e = (bad, is_fewest Y few log (omega (arith, is, e)) safe)

    pub goes_closer : (far : List Event) (t : State) → far ≡ []
        → IsNarrowed Y means offers longest states turns (GoesOn (record { safe = few; top = steps; end = Bad; known = Some steps })) far t
    goes_closer far t h = (record { safe = safe; below = above Y few steps safe has_bad; end = has_bad; known = has_bad }, h)

    pub comes_closer : (b : Between) → b.safe ≡ few → length log < b.top → steps - few < b.top - b.safe
    comes_closer b at l = let more = above Y few steps safe has_bad in omega (arith, l, is, more, at)

    pub stays_there : (far : List Event) (t : State) (limit : Limit) → RefusesBack limit
        → IsNarrowed Y means offers longest states turns (Ended (Limited (record { limit = limit; safe = few; known = Some steps }))) far t
    stays_there far t limit h = (record { safe = safe; known = has_bad; met = cut_back (few + 1) limit h }, home_back limit far h)

  pub ends_bad : (n : ℕ) (end : End) → end ≡ Bad → EndsAt Y means offers longest states turns n end → HasBad Y n
  ends_bad n end e h = subst (EndsAt Y means offers longest states turns n) e h

  pub ends_cut : (n : ℕ) (end : End) (limit : Limit) → end ≡ Cut limit → EndsAt Y means offers longest states turns n end → Cuts n limit
  ends_cut n end limit e h = subst (EndsAt Y means offers longest states turns n) e h

  -- a run that leads to a bad state is known, and yet none would
  pub not_safe_there : (n : ℕ) (end : End) → end ≡ Bad → EndsAt Y means offers longest states turns n end → IsSafeWithin Y n → ⊥
  not_safe_there n end e h safe = let l = above Y n n safe (ends_bad n end e h) in omega (arith, l)

  pub unfinished : (b : Between) (limit : Limit) → b.safe + 1 ≡ b.top → IsBetween Y means offers longest states turns b → Cuts b.top limit
      → IsUnfinished Y means offers longest states turns (record { limit = limit; safe = b.safe; known = b.known })
  unfinished b limit next is cut = record { safe = is.safe; known = is.known; met = subst (λ n. Cuts n limit) (sym next) cut }

  -- what becomes of the numbers where a limit is met
  module _ (n few : ℕ) (known : Option ℕ) (safe : IsSafeWithin Y few) (is_known : IfSome known (HasBad Y)) (more : few < n) where
    pub cut_goes_on : (limit : Limit) (r : Narrowed) (log : List Event) (s : State) → Cuts n limit → IsHome (answers.Limited limit) log → IsCutAt limit n few known r
        → IsNarrowed Y means offers longest states turns r log s
    cut_goes_on limit r log s cut home at = by limit cut home at
      where
        on : (limit : Limit) → Cuts n limit → log ≡ [] → r ≡ GoesOn (record { safe = few; top = n; end = Cut limit; known = known }) → Narrows r log s
        on limit cut home e = subst (λ x. Narrows x log s) (sym e) (record { safe = safe; below = more; end = cut; known = is_known }, home)

        by : (limit : Limit) → Cuts n limit → IsHome (answers.Limited limit) log → IsCutAt limit n few known r → Narrows r log s
        by limits.Back cut home e = subst (λ x. Narrows x log s) (sym e) (record { safe = safe; known = is_known; met = inl tt }, tt)
        by limits.Memory cut home e = on limits.Memory cut home e
        by limits.Steps cut home e = on limits.Steps cut home e
        by limits.States cut home e = on limits.States cut home e
        by limits.Turns cut home e = on limits.Turns cut home e

    pub cut_comes_closer : (b : Between) → b.safe ≡ few → n < b.top → (limit : Limit) (r : Narrowed) → IsCutAt limit n few known r → IsCloser b r
    cut_comes_closer b here less limit r at = by limit at
      where
        on : (limit : Limit) → r ≡ GoesOn (record { safe = few; top = n; end = Cut limit; known = known }) → IsCloser b r
        on limit e = subst (IsCloser b) (sym e) (omega (arith, less, more, here))

        by : (limit : Limit) → IsCutAt limit n few known r → IsCloser b r
        by limits.Back e = subst (IsCloser b) (sym e) tt
        by limits.Memory e = on limits.Memory e
        by limits.Steps e = on limits.Steps e
        by limits.States e = on limits.States e
        by limits.Turns e = on limits.Turns e
