-- Of every run: no count is greater than the number of its steps.
use Rattle.std.proofs.Common.{◌≡◌, ℕ, ◌+◌, ◌≤◌, Bool, List, [], ◌∷◌, filter, length, subst, arith, inl, inr}
use Rattle.std.proofs.lemmas.Bool.{cases_Bool}
use Rattle.gr_base.specs.declared.names.ChName.{ChName}
use Rattle.gr_causal.proofs.PathLemmas.{Path, path_of}
use Rattle.gr_program.specs.Programs.{Program}
use Rattle.gr_rules.specs.States.{State, same_go, start}
use Rattle.gr_rules.specs.Steps.{machine, count}
use Rattle.gr_laws.specs.Reached.{Logged, IsRun}
use Rattle.gr_laws.specs.Consoles.{steps_by}
use Rattle.gr_laws.proofs.CountLemmas.{GoesOn}
use Rattle.gr_laws.proofs.RuleCounts.{stepped}
use Rattle.gr_laws.proofs.RunLemmas.{tally_of_run}

filter_within : {X : Type 0} (p : X → Bool) (xs : List X) → length (filter p xs) ≤ length xs
filter_within p [] = omega arith
filter_within p (x ∷ xs) = let ih = filter_within p xs in elim (cases_Bool (p x)) [ inl e ↦ rw e (omega arith) | inr e ↦ rw e (omega arith) ]

-- the count of steps of a goroutine
pub steps_within : (p : Program) (t : State) (log : List (Logged p)) (g : List ℕ) → IsRun p log t → count t g ≤ length log
steps_within p t log g l =
    let counted : count t g ≡ length (steps_by p g log) = (tally_of_run p t log g l).1 in
    let some : length (steps_by p g log) ≤ length log = filter_within (λ (r : Logged p). same_go g r.event.go) log in
    omega arith

-- an end that goes on does so by one place at most, and never back
pub by_one : (old new : ℕ) → GoesOn old new → new ≤ old + 1
by_one old new (inl e) = omega arith
by_one old new (inr e) = omega arith

pub not_back : (old new : ℕ) → GoesOn old new → old ≤ new
not_back old new (inl e) = omega arith
not_back old new (inr e) = omega arith

module _ (p : Program) (c : ChName) where
  -- each step takes an end of the buffer on by one place at most
  ends_along : (rs : List (Logged p)) (s t : State) → Path (machine p) s rs t
      → (t.tails c ≤ s.tails c + length rs) × (t.heads c ≤ s.heads c + length rs)
  ends_along [] s t w = subst (λ (t : State). (t.tails c ≤ s.tails c + 0) × (t.heads c ≤ s.heads c + 0)) w (omega arith, omega arith)
  ends_along (r ∷ rs) s t w =
      let here = (stepped p s r.event w.0 r.note w.1.does).raised in
      let tail = by_one (s.tails c) (w.0.tails c) (here.tails c) in
      let head = by_one (s.heads c) (w.0.heads c) (here.heads c) in
      let rest = ends_along rs w.0 t w.2 in
      (omega arith, omega arith)

  ends_of_run : (t : State) (log : List (Logged p)) → IsRun p log t → (t.tails c ≤ 0 + length log) × (t.heads c ≤ 0 + length log)
  ends_of_run t log l = ends_along log (start p) t (path_of (machine p) (start p) log t l)

-- how many values entered the buffer of a channel
pub entered_within : (p : Program) (t : State) (log : List (Logged p)) (c : ChName) → IsRun p log t → t.tails c ≤ length log
entered_within p t log c l = let ends = ends_of_run p c t log l in omega arith

-- how many values left the buffer of a channel
pub left_within : (p : Program) (t : State) (log : List (Logged p)) (c : ChName) → IsRun p log t → t.heads c ≤ length log
left_within p t log c l = let ends = ends_of_run p c t log l in omega arith
