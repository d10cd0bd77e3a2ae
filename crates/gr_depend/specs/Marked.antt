-- The marks of dependents and causes.
use Rattle.std.specs.Prelude.{◌≡◌, ◌<◌, ◌≤◌, ◌+◌, ◌-◌, ℕ, zero, suc, Bool, true, false, cond, List, [], ◌∷◌, ◌++◌, length, take, drop, slice_get, slice_index_or}
use Rattle.std.specs.Option.{option_map_or}
use Rattle.gr_base.specs.declared.objects.Object.{Object}
use Rattle.gr_causal.specs.Dependence.{hits, causes}
use Rattle.gr_record.specs.declared.record.Record.{Record}
use Rattle.gr_record.specs.Conflicts.{written_by, touched_by, conflict_of}
use Rattle.gr_touches.specs.declared.marks.Wanted.{Wanted}
use Rattle.gr_touches.specs.declared.marks.Wanted.TheVariants.{All, Writes}

module _ {A : Type 0} (clash : A → A → Bool) where
  -- of these elements, a mark for each that conflicts with one collected before, where ds are collected
  abbrev pub marks_after : List A → List A → List Bool
  marks_after ds [] = []
  marks_after ds (r ∷ rs) = cond (hits clash ds r) (true ∷ marks_after (ds ++ r ∷ []) rs) (false ∷ marks_after ds rs)

  -- from a place on, a mark for each that depends on the one there
  abbrev pub dependent_marks : List A → ℕ → List Bool
  dependent_marks [] i = []
  dependent_marks (r ∷ rs) zero = true ∷ marks_after (r ∷ []) rs
  dependent_marks (r ∷ rs) (suc i) = dependent_marks rs i

  -- up to a place, a mark for each that the one there depends on
  abbrev pub cause_marks : List A → ℕ → List Bool
  cause_marks [] i = []
  cause_marks (r ∷ rs) zero = true ∷ []
  cause_marks (r ∷ rs) (suc i) = hits clash (causes clash rs i) r ∷ cause_marks rs i

  -- whether the one at a place conflicts with one of these
  abbrev pub hits_at : List A → List A → ℕ → Bool
  hits_at ds rs p = option_map_or (hits clash ds) (slice_get rs p) false

-- the objects that a step touched in the wanted way
abbrev pub reached_by : Wanted → Record → List Object
reached_by All r = touched_by r
reached_by Writes r = written_by r

-- whether the steps at two places conflict
abbrev pub conflict_at : List Record → ℕ → ℕ → Bool
conflict_at rs i p = option_map_or (λ r. hits_at conflict_of (r ∷ []) rs p) (slice_get rs i) false

-- while dependents are marked: the marks before the place k are those of the dependents, and from it on each step is marked that
-- conflicts with a dependent before it
pub record IsSpread (rs : List Record) (start k : ℕ) (marks : List Bool) : Type 0 where
  pub found : List Record
  pub before : take (k - start) marks ++ marks_after conflict_of found (drop k rs) ≡ dependent_marks conflict_of rs start
  pub rest : (j : ℕ) → k ≤ start + j → j < length marks → slice_index_or marks j false ≡ hits_at conflict_of found rs (start + j)

-- while causes are marked: the marks from the place k on are those of the causes, and before it each step is marked that
-- conflicts with a cause after it
pub record IsTraced (rs : List Record) (end k : ℕ) (marks : List Bool) : Type 0 where
  pub after : drop k marks ≡ cause_marks conflict_of (drop k rs) (end - k)
  pub rest : (j : ℕ) → j < k → slice_index_or marks j false ≡ hits_at conflict_of (causes conflict_of (drop k rs) (end - k)) rs j
