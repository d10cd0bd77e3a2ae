-- The goroutines that a pool knows, and those among them that are ready.
use Rattle.std.specs.Prelude.{◌≡◌, ℕ, ◌+◌, ◌<◌, ◌≤◌, Bool, true, List, [], ◌∷◌, ◌++◌, length, take, drop, filter, map, nat_eq, slice_get, slice_index_or, Option}
use Rattle.std.specs.List.{list_any, AllPairs}
use Rattle.std.specs.Ordering.{is_lt, is_gt}
use Rattle.std.specs.Cmp.Lexicographic.{pointwise}
use Rattle.std.specs.declared.cmp.Ordering.TheVariants.{Less}
use Rattle.gr_base.specs.Names.{go_cmp}

-- the names that the pool knows, and the ready ones among them, in name order
pub record Goroutines : Type 0 where
  pub known : List (List ℕ)
  pub ready : List (List ℕ)

-- whether the name is among the names
abbrev pub is_among : List ℕ → List (List ℕ) → Bool
is_among name names = list_any (pointwise nat_eq name) names

-- in name order, a list of counts before its continuations, and none twice
abbrev pub IsInOrder : List (List ℕ) → Type 0
IsInOrder names = AllPairs (λ a b. go_cmp a b ≡ Less) names

-- the names that come before this one
abbrev pub lesser : List ℕ → List (List ℕ) → List (List ℕ)
lesser name names = filter (λ other. is_lt (go_cmp other name)) names

-- the names that come after this one
abbrev pub greater : List ℕ → List (List ℕ) → List (List ℕ)
greater name names = filter (λ other. is_gt (go_cmp other name)) names

-- the names with this one, in its place
abbrev pub with_name : List ℕ → List (List ℕ) → List (List ℕ)
with_name name names = lesser name names ++ name ∷ greater name names

-- the names without this one
abbrev pub without_name : List ℕ → List (List ℕ) → List (List ℕ)
without_name name names = lesser name names ++ greater name names

-- the first name after this one, else the first of all
abbrev pub next_name : List ℕ → List (List ℕ) → Option (List ℕ)
next_name name names = slice_get (greater name names ++ names) 0

-- the names that stand at these places of a list
abbrev pub names_at : List (List ℕ) → List ℕ → List (List ℕ)
names_at names places = map (λ place. slice_index_or names place []) places

-- the name stands here: before it are the lesser ones, after it the greater ones
pub record StandsAt (name : List ℕ) (names : List (List ℕ)) (place : ℕ) : Type 0 where
  pub within : place < length names
  pub here : (d : List ℕ) → slice_index_or names place d ≡ name
  pub before : take place names ≡ lesser name names
  pub after : drop (place + 1) names ≡ greater name names

-- the name is not there, and here is its place: before it are the lesser ones, from it on the greater ones
pub record BelongsAt (name : List ℕ) (names : List (List ℕ)) (place : ℕ) : Type 0 where
  pub within : place ≤ length names
  pub before : take place names ≡ lesser name names
  pub after : drop place names ≡ greater name names

-- the name has this place among the known ones
pub record IsKnownAt (known : List (List ℕ)) (name : List ℕ) (place : ℕ) : Type 0 where
  pub within : place < length known
  pub here : pointwise nat_eq name (slice_index_or known place []) ≡ true
