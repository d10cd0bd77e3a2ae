-- Orders of a log that are given by the names of its steps.
use Rattle.std.specs.Prelude.{◌≡◌, ◌<◌, ℕ, List, [], ◌∷◌, length, map, Some, slice_get}
use Rattle.std.specs.Option.{option_map_or}
use Rattle.gr_base.specs.declared.names.StepId.{StepId}
use Rattle.gr_causal.specs.OrderByNames.{NamesEach, FirstToChange}
use Rattle.gr_causal.specs.Sequences.{Rearranges}
use Rattle.gr_record.specs.declared.record.Record.{Record}
use Rattle.gr_record.specs.Conflicts.{conflict_of}
use Rattle.gr_depend.specs.declared.order.OrderRefused.{OrderRefused}
use Rattle.gr_depend.specs.declared.order.OrderRefused.TheVariants.{NotTheSteps, Breaks, NoMemory}
use Rattle.gr_depend.specs.Named.{IsNamed}
use Rattle.gr_depend.specs.Turned.{place_at}

abbrev pub name : Record → StepId
name r = r.id

-- in the order of these names the steps at two places of the log are the first to change places
pub record BreaksAt (rs : List Record) (names : List StepId) (earlier later : ℕ) : Type 0 where
  pub order : List Record
  pub steps : Rearranges rs order
  pub named : map name order ≡ names
  pub first : Record
  pub second : Record
  pub first_at : slice_get rs earlier ≡ Some first
  pub second_at : slice_get rs later ≡ Some second
  pub change : FirstToChange conflict_of rs order first second

-- why these steps are not put in the order of these names; out of memory tells that there are as many names as steps
abbrev pub IsWhy : OrderRefused → List Record → List StepId → Type 0
IsWhy NotTheSteps rs names = ¬ NamesEach name rs names
IsWhy (Breaks earlier later) rs names = BreaksAt rs names earlier later
IsWhy NoMemory rs names = length names ≡ length rs

-- the elements that stand at these places
abbrev pub elements_at : {A : Type 0} → List ℕ → List A → List A
elements_at [] xs = []
elements_at (p ∷ ps) xs = option_map_or (λ x. x ∷ elements_at ps xs) (slice_get xs p) (elements_at ps xs)

-- these are places in a list of this length
abbrev pub AreBelow : ℕ → List ℕ → Type 0
AreBelow count ps = (i : ℕ) → i < length ps → place_at ps i < count

-- each of the two lists has the place at which a place stands in the other
pub record AreInverse (from to : List ℕ) : Type 0 where
  pub goes : (i : ℕ) → i < length from → (place_at from i < length to) × (place_at to (place_at from i) ≡ i)
  pub comes : (p : ℕ) → p < length to → (place_at to p < length from) × (place_at from (place_at to p) ≡ p)

-- for each place in the order of the names, the place of its step in the log; and for each place in the log, its place in the
-- order
pub record AreMoves (rs : List Record) (names : List StepId) (from to : List ℕ) : Type 0 where
  pub count : length from ≡ length names
  pub places : length to ≡ length rs
  pub named : (i : ℕ) (id : StepId) → slice_get names i ≡ Some id → IsNamed rs (place_at from i) id
  pub inverse : AreInverse from to
