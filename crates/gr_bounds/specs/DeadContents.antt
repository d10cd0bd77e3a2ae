-- When goroutines of a store wait for ever.
use Rattle.std.specs.Prelude.{◌≡◌, ℕ, Bool, true, false, List, Some}
use Rattle.gr_causal.specs.Sequences.{In}
use Rattle.gr_program.specs.Programs.{Program}
use Rattle.gr_rules.specs.Goroutines.{Wait, waiting}
use Rattle.gr_code.specs.Goroutines.{CodeGoroutine}
use Rattle.gr_refine.specs.Contents.{Contents}
use Rattle.gr_may.specs.Uses.{Usage}
use Rattle.gr_may.specs.Dead.{MayServe}
use Rattle.gr_bounds.specs.CoveredContents.{CoversContents}

-- the goroutine waits for one of these
abbrev pub WaitsIn : Contents → List ℕ → List Wait → Type 0
WaitsIn s n ws = (g : CodeGoroutine) × (s.goroutines n ≡ Some g) × (g.status ≡ waiting ws)

-- each of them waits, and by these bounds only they may serve what they wait for
pub record AreDeadIn (p : Program) (usage : Usage) (s : Contents) (dead : List ℕ → Bool) : Type 0 where
  pub covers : CoversContents p usage s
  pub wait : (n : List ℕ) → dead n ≡ true → (ws : List Wait) × WaitsIn s n ws
  pub alone : (n : List ℕ) (ws : List Wait) (w : Wait) (m : List ℕ) (g : CodeGoroutine)
      → dead n ≡ true → WaitsIn s n ws → In w ws → s.goroutines m ≡ Some g → dead m ≡ false → ¬ MayServe usage m w
