-- Which goroutines are ready, as a pool of names has it.
use Rattle.std.specs.Prelude.{◌≡◌, ℕ, true, false, List, [], ◌∷◌, ◌++◌, map, Some}
use Rattle.std.specs.Option.{option_to_list}
use Rattle.gr_pool.specs.Goroutines as pools
use Rattle.gr_pool.specs.Goroutines.{is_among}
use Rattle.gr_rules.specs.Goroutines.{ready}
use Rattle.gr_code.specs.Goroutines.{CodeGoroutine}
use Rattle.gr_refine.specs.Contents.{Contents}
use Rattle.gr_goros.specs.Undoing.{undone}
use Rattle.gr_goros.specs.declared.undo.GoUndo.{GoUndo}
use Rattle.gr_step.specs.Effects.{Effect}
use Rattle.gr_step.specs.Record.{Record}
use Rattle.gr_step.specs.Fews.{members}
use Rattle.gr_step.specs.Records.{beyond, begun_by}

-- the goroutine is there, and ready
pub record IsReadyIn (s : Contents) (n : List ℕ) : Type 0 where
  pub goroutine : CodeGoroutine
  pub there : s.goroutines n ≡ Some goroutine
  pub is_ready : goroutine.status ≡ ready

-- the pool has the goroutine as ready where it is
pub record IsAsIn (pool : pools.Goroutines) (s : Contents) (n : List ℕ) : Type 0 where
  pub has : IsReadyIn s n → is_among n pool.ready ≡ true
  pub only : is_among n pool.ready ≡ true → IsReadyIn s n

-- the pool has each goroutine as ready where it is
abbrev pub HasAllReady : pools.Goroutines → Contents → Type 0
HasAllReady pool s = (n : List ℕ) → IsAsIn pool s n

-- the pool knows the goroutines that are there
abbrev pub KnowsThere : pools.Goroutines → Contents → Type 0
KnowsThere pool s = (n : List ℕ) (g : CodeGoroutine) → s.goroutines n ≡ Some g → is_among n pool.known ≡ true

-- the pool knows the goroutines that are there, and has those as ready that are
pub record HasReady (pool : pools.Goroutines) (s : Contents) : Type 0 where
  pub knows : KnowsThere pool s
  pub each : HasAllReady pool s

-- the pool has those of these names as ready that are; of others nothing has changed
pub record Settles (names : List (List ℕ)) (s : Contents) (old new : pools.Goroutines) : Type 0 where
  pub known : new.known ≡ old.known
  pub these : (n : List ℕ) → is_among n names ≡ true → IsAsIn new s n
  pub others : (n : List ℕ) → is_among n names ≡ false → is_among n new.ready ≡ is_among n old.ready

-- the names that the pool knows stay known
abbrev pub KnowsMore : pools.Goroutines → pools.Goroutines → Type 0
KnowsMore old new = (n : List ℕ) → is_among n old.known ≡ true → is_among n new.known ≡ true

-- each of these names is known
abbrev pub AllKnown : List (List ℕ) → pools.Goroutines → Type 0
AllKnown names pool = (n : List ℕ) → is_among n names ≡ true → is_among n pool.known ≡ true

-- those of these names that are ready are known
abbrev pub KnowsReady : List (List ℕ) → Contents → pools.Goroutines → Type 0
KnowsReady names s pool = (n : List ℕ) → is_among n names ≡ true → IsReadyIn s n → is_among n pool.known ≡ true

-- the change that replaced this leaves the status of a goroutine as it was
abbrev pub KeepsStatus : GoUndo → Type 0
KeepsStatus u = (g : CodeGoroutine) → (undone u g).status ≡ g.status

-- the names of goroutines with their changes
abbrev pub names_met : List (List ℕ × GoUndo) → List (List ℕ)
names_met met = map (λ e. e.0) met

-- the goroutines that a step met, and those with the one that it started
abbrev pub met_by : Effect → List (List ℕ)
met_by c = names_met (beyond [] (λ b. members b.met) c)

abbrev pub others_of : Effect → List (List ℕ)
others_of c = met_by c ++ option_to_list (begun_by c)

-- The pool after a step, or after it is taken back. The goroutines that it met and the one that it started are known. They
-- and its own are ready where they are.
pub record Follows (r : Record) (s : Contents) (old new : pools.Goroutines) : Type 0 where
  pub before : pools.Goroutines
  pub knows : AllKnown (others_of r.change) before
  pub more : KnowsMore old before
  pub same : before.ready ≡ old.ready
  pub settles : Settles (r.id.go ∷ others_of r.change) s before new
