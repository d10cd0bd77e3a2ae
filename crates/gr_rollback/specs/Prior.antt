-- Which goroutines were ready before a change, by what the change replaced.
use Rattle.std.specs.Prelude.{◌≡◌, ℕ, true, false, List, Option}
use Rattle.gr_refine.specs.Contents.{Contents}
use Rattle.gr_goros.specs.declared.undo.GoUndo.{GoUndo}
use Rattle.gr_pool.specs.Goroutines as pools
use Rattle.gr_pool.specs.Goroutines.{is_among}
use Rattle.gr_step.specs.Records.{go_back, is_go, GoesFit}
use Rattle.gr_rollback.specs.Readiness.{HasAllReady}

-- the contents with these changes of goroutines taken back, the last first
abbrev pub changes_back : List (List ℕ × GoUndo) → Contents → Contents
changes_back us s = record s { goroutines = λ q. go_back us q (s.goroutines q) }

-- a pool comes from what is ready after these changes to what is ready before them
pub record BringsBack (us : List (List ℕ × GoUndo)) (old new : pools.Goroutines) : Type 0 where
  pub known : new.known ≡ old.known
  pub ready : (s : Contents) → GoesFit us s.goroutines → HasAllReady old s → HasAllReady new (changes_back us s)

-- the goroutine of a name, if there is one, is not ready in it, and all others are as they were
pub record Loses (o : Option (List ℕ)) (old new : pools.Goroutines) : Type 0 where
  pub known : new.known ≡ old.known
  pub gone : (q : List ℕ) → is_go q o ≡ true → is_among q new.ready ≡ false
  pub others : (q : List ℕ) → is_go q o ≡ false → is_among q new.ready ≡ is_among q old.ready

-- a pool comes to what is ready before a step that made these changes of goroutines, and started this one
pub record BringsStepBack (us : List (List ℕ × GoUndo)) (o : Option (List ℕ)) (old new : pools.Goroutines) : Type 0 where
  pub mid : pools.Goroutines
  pub back : BringsBack us old mid
  pub loses : Loses o mid new
