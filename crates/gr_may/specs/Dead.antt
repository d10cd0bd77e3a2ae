-- Goroutines that wait for ever, while others may still go on. Of a set of goroutines that wait, none is served by one outside it:
-- Holt, "Some deadlock properties of computer systems" (1972), for goroutines and channels in place of processes and resources.
use Rattle.std.specs.Prelude.{◌≡◌, ◌⊎◌, ℕ, Bool, true, false, List, Some}
use Rattle.gr_causal.specs.Sequences.{In}
use Rattle.gr_program.specs.Programs.{Program}
use Rattle.gr_rules.specs.Goroutines.{Wait, ToSend, ToReceive, channel_of, waiting, Goroutine}
use Rattle.gr_rules.specs.States.{State}
use Rattle.gr_may.specs.Uses.{Use, to_send, to_receive, to_close, Usage}
use Rattle.gr_may.specs.Covers.{Covers}

-- what another has to do so that a wait ends, if it does not close the channel
abbrev pub answer : Wait → Use
answer (ToSend c clause) = to_receive
answer (ToReceive c clause) = to_send

abbrev pub MayServe : Usage → List ℕ → Wait → Type 0
MayServe usage n w = (usage.permits n (channel_of w) (answer w) ≡ true) ⊎ (usage.permits n (channel_of w) to_close ≡ true)

-- the goroutine waits for one of these
abbrev pub WaitsFor : State → List ℕ → List Wait → Type 0
WaitsFor s n ws = (g : Goroutine) × (s.goroutines n ≡ Some g) × (g.status ≡ waiting ws)

-- each of them waits, and by these bounds only they may serve what they wait for
pub record AreDead (p : Program) (usage : Usage) (s : State) (dead : List ℕ → Bool) : Type 0 where
  pub covers : Covers p usage s
  pub wait : (n : List ℕ) → dead n ≡ true → (ws : List Wait) × WaitsFor s n ws
  pub alone : (n : List ℕ) (ws : List Wait) (w : Wait) (m : List ℕ) (g : Goroutine)
      → dead n ≡ true → WaitsFor s n ws → In w ws → s.goroutines m ≡ Some g → dead m ≡ false → ¬ MayServe usage m w

-- it is in such a set, and so in the greatest, which has the members of all
pub record IsDead (p : Program) (s : State) (n : List ℕ) : Type 0 where
  pub usage : Usage
  pub dead : List ℕ → Bool
  pub are : AreDead p usage s dead
  pub member : dead n ≡ true
