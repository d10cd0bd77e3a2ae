-- What depends on a step of a log, and what it depends on (Lanese, Nishida, Palacios, Vidal, "A theory of
-- reversibility for Erlang", 2018: an action is undone with its consequences). `clash` tells which steps conflict.
use Rattle.std.specs.Prelude.{◌≡◌, ℕ, zero, suc, Bool, true, cond, List, [], ◌∷◌, ◌++◌, ◌⊎◌}
use Rattle.std.specs.List.{list_any}
use Rattle.gr_causal.specs.Sequences.{In, Before}

-- ds are steps of the log L, in log order, and with a also each b to which R leads from a
pub record IsClosedPart {A : Type 0} (R : A → A → Type 0) (L ds : List A) : Type 0 where
  pub within_log : (r : A) → In r ds → In r L
  pub in_order : (a b : A) → Before ds a b → Before L a b
  pub closed : (a b : A) → R a b → In a ds → In b ds

-- ds is the least closed part of the log L that has x
pub record IsLeastClosed {A : Type 0} (R : A → A → Type 0) (L : List A) (x : A) (ds : List A) : Type 0 where
  pub has : In x ds
  pub part : IsClosedPart R L ds
  pub least : (p : A → Bool) → p x ≡ true → ((a b : A) → R a b → p a ≡ true → p b ≡ true) → (r : A) → In r ds → p r ≡ true

-- ks are the steps of the log L that are not in ds, in log order
pub record AreTheOthers {A : Type 0} (L ds ks : List A) : Type 0 where
  pub others : (r : A) → In r ks → In r L × (¬ In r ds)
  pub each : (r : A) → In r L → In r ds ⊎ In r ks
  pub in_order : (a b : A) → Before ks a b → Before L a b

module _ {A : Type 0} (clash : A → A → Bool) where
  -- b depends directly on a: it is later in the log, and conflicts with a
  abbrev pub Depends : List A → A → A → Type 0
  Depends L b a = Before L a b × (clash a b ≡ true)

  -- the step conflicts with one of these
  abbrev pub hits : List A → A → Bool
  hits ds r = list_any (λ d. clash d r) ds

  -- ds, and in log order each step that conflicts with one collected before
  abbrev pub collect : List A → List A → List A
  collect ds [] = ds
  collect ds (r ∷ rs) = cond (hits ds r) (collect (ds ++ r ∷ []) rs) (collect ds rs)

  -- the steps that `collect` leaves
  abbrev pub left_by : List A → List A → List A
  left_by ds [] = []
  left_by ds (r ∷ rs) = cond (hits ds r) (left_by (ds ++ r ∷ []) rs) (r ∷ left_by ds rs)

  -- the step at a place and all that depends on it
  abbrev pub dependents : List A → ℕ → List A
  dependents [] i = []
  dependents (r ∷ rs) zero = collect (r ∷ []) rs
  dependents (r ∷ rs) (suc i) = dependents rs i

  -- the log without the dependents of a place
  abbrev pub kept : List A → ℕ → List A
  kept [] i = []
  kept (r ∷ rs) zero = left_by (r ∷ []) rs
  kept (r ∷ rs) (suc i) = r ∷ kept rs i

  -- the step at a place and all that it depends on
  abbrev pub causes : List A → ℕ → List A
  causes [] i = []
  causes (r ∷ rs) zero = r ∷ []
  causes (r ∷ rs) (suc i) = cond (hits (causes rs i) r) (r ∷ causes rs i) (causes rs i)
