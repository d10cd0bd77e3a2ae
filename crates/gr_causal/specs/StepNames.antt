-- Names of steps: the owner of a step, and how many steps it had then taken. It is the sequence number of an event within
-- its process (Lamport, "Time, clocks, and the ordering of events in a distributed system", 1978).
use Rattle.std.specs.Prelude.{◌≡◌, ℕ, suc, ◌≤◌, Some}
use Rattle.gr_causal.specs.Machine.{Machine, StepOf}

module _ (M : Machine) {Owner : Type 0} (owner : M.Event → Owner) (ordinal : M.Note → ℕ) (count : M.State → Owner → ℕ) where
  open M use {State, Event, Note, step}

  -- each step raises its owner's count by one and notes the new count, and lowers no other count
  pub record CountsSteps : Type 0 where
    pub noted : (s t : State) (e : Event) (n : Note) → step s e ≡ Some (t, n) → ordinal n ≡ count t (owner e)
    pub raised : (s t : State) (e : Event) (n : Note) → step s e ≡ Some (t, n) → count t (owner e) ≡ suc (count s (owner e))
    pub kept : (s t : State) (e : Event) (n : Note) → step s e ≡ Some (t, n) → (o : Owner) → count s o ≤ count t o

-- the name of a step
abbrev pub name_of : (M : Machine) {Owner : Type 0} (owner : M.Event → Owner) (ordinal : M.Note → ℕ) → StepOf M → Owner × ℕ
name_of M owner ordinal r = (owner r.event, ordinal r.note)
