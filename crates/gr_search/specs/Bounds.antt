-- Runs of at most so many steps.
use Rattle.std.specs.Prelude.{◌≡◌, false, ◌<◌, ◌≤◌, ◌^◌, length, ℕ, zero, suc, List, [], ◌++◌, Option, None, option_map}
use Rattle.std.specs.Int.{to_le_bytes, w64}
use Rattle.gr_search.specs.System.{System, Runs, Leads}

module _ {State Event Key : Type 0} (Y : System State Event Key) where
  -- no run from the start of at most so many steps, with any choices, reaches a bad state
  abbrev pub IsSafeWithin : ℕ → Type 0
  IsSafeWithin n = (es : List Event) (t : State) → Runs Y Y.start es t → length es ≤ n → ¬ Y.bad t

  -- a run of so many steps reaches a bad state
  pub record HasBad (n : ℕ) : Type 0 where
    pub log : List Event
    pub at : State
    pub leads : Leads Y log at
    pub long : length log ≡ n
    pub bad : Y.bad at

  -- no run of fewer steps than these reaches a bad state
  abbrev pub IsFewest : List Event → Type 0
  IsFewest log = (n : ℕ) → n < length log → IsSafeWithin n

-- the same step with one step fewer left; with none left nothing is possible
abbrev pub next_within : {State Event : Type 0} → (State → Event → Option State) → State × ℕ → Event → Option (State × ℕ)
next_within next s e = elim s.1 [ zero ↦ None | suc left ↦ option_map (λ t. (t, left)) (next s.0 e) ]

-- The runs of at most so many steps, as a system. Beside each state stands how many steps are left. None is taken alone.
abbrev pub bounded : {State Event Key : Type 0} → ℕ → System State Event Key → System (State × ℕ) Event (Key × ℕ)
bounded n Y = record {
  start = (Y.start, n);
  next = next_within Y.next;
  bad = λ s. Y.bad s.0;
  alone = λ s e. false;
  key = λ s. (Y.key s.0, s.1);
}

-- the bytes are a key, and after it how many steps are left
pub record MeansWithin {Matter : Type 0} (means : List ℕ → Matter → Type 0) (key : List ℕ) (a : Matter × ℕ) : Type 0 where
  pub first : List ℕ
  pub is_key : means first a.0
  pub fits : a.1 < 2 ^ 64
  pub bytes : key ≡ first ++ to_le_bytes w64 a.1

-- nothing is offered where no step is left
abbrev pub OffersWithin : {State Event : Type 0} → (State → List Event → Type 0) → State × ℕ → List Event → Type 0
OffersWithin offers s es = elim s.1 [ zero ↦ es ≡ [] | suc left ↦ offers s.0 es ]
