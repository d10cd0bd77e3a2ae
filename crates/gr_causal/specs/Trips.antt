-- Moves between logs, forth and back, and trips of many moves (Danos and Krivine, "Reversible communicating systems", 2004;
-- Lanese, Phillips, Ulidowski, "An axiomatic approach to reversible computation", 2020). A configuration is a log up to swaps
-- of neighbours that do not conflict.
use Rattle.std.specs.Prelude.{◌≡◌, Bool, false, List, [], ◌∷◌, ◌++◌, map}
use Rattle.gr_causal.specs.Orders.{Swaps}
use Rattle.gr_causal.specs.Machine.{Machine, StepOf, IsLog, conflict, undo}

-- a step that is taken, or taken back
pub data Move (Step : Type 0) : Type 0 where
  forth : Step → Move Step
  back : Step → Move Step

-- the step that moves
abbrev pub step_of : {A : Type 0} → Move A → A
step_of (forth r) = r
step_of (back r) = r

-- the same step, moved the other way
abbrev pub reversed : {A : Type 0} → Move A → Move A
reversed (forth r) = back r
reversed (back r) = forth r

-- a trip that takes these steps, in this order
abbrev pub taking : {A : Type 0} → List A → List (Move A)
taking L = map forth L

-- a trip that takes these steps back, in this order
abbrev pub taking_back : {A : Type 0} → List A → List (Move A)
taking_back L = map back L

-- two moves are independent where their steps do not conflict
abbrev pub Independent : {A : Type 0} → (A → A → Bool) → Move A → Move A → Type 0
Independent clash m n = clash (step_of m) (step_of n) ≡ false

-- `clash` tells which steps conflict, and `Possible` which lists of steps are logs
module _ {A : Type 0} (clash : A → A → Bool) (Possible : List A → Type 0) where
  -- the move leads from the log L to the log N, up to swaps: forth appends its step, back is the way back
  abbrev pub Leads : List A → Move A → List A → Type 0
  Leads L (forth r) N = Possible N × Swaps clash (L ++ r ∷ []) N
  Leads L (back r) N = Swaps clash (N ++ r ∷ []) L

  -- the moves, one after another, lead from the log L to the log N, up to swaps
  abbrev pub Trip : List A → List (Move A) → List A → Type 0
  Trip L [] N = Swaps clash L N
  Trip L (m ∷ ms) N = (K : List A) × Leads L m K × Trip K ms N

  -- trips from the log L that are causally equivalent: two moves from one log that are independent may be made in either
  -- order, a move and its reverse cancel, and nothing else
  pub data Equivalent : List A → List (Move A) → List (Move A) → Type 0 where
    same : {L : List A} {ms : List (Move A)} → Equivalent L ms ms
    swap : {L : List A} {m n : Move A} {ms : List (Move A)} (K N : List A)
        → Leads L m K → Leads L n N → Independent clash m n → Equivalent L (m ∷ n ∷ ms) (n ∷ m ∷ ms)
    cancel : {L : List A} {m : Move A} {ms : List (Move A)} (K : List A) → Leads L m K → Equivalent L (m ∷ reversed m ∷ ms) ms
    behind : {L : List A} {m : Move A} {ms ns : List (Move A)} (K : List A) → Leads L m K → Equivalent K ms ns → Equivalent L (m ∷ ms) (m ∷ ns)
    other_way : {L : List A} {ms ns : List (Move A)} → Equivalent L ms ns → Equivalent L ns ms
    onward : {L : List A} {ms ns ps : List (Move A)} → Equivalent L ms ns → Equivalent L ns ps → Equivalent L ms ps

module _ (M : Machine) (s : M.State) where
  -- a log of the machine from the state s
  abbrev pub IsLogFrom : List (StepOf M) → Type 0
  IsLogFrom L = (t : M.State) × IsLog M s L t

  -- a move, a trip and equivalent trips between logs of the machine from the state s
  abbrev pub LeadsFrom : List (StepOf M) → Move (StepOf M) → List (StepOf M) → Type 0
  LeadsFrom L m N = Leads (conflict M) IsLogFrom L m N

  abbrev pub TripFrom : List (StepOf M) → List (Move (StepOf M)) → List (StepOf M) → Type 0
  TripFrom L ms N = Trip (conflict M) IsLogFrom L ms N

  abbrev pub EquivalentFrom : List (StepOf M) → List (Move (StepOf M)) → List (Move (StepOf M)) → Type 0
  EquivalentFrom L ms ns = Equivalent (conflict M) IsLogFrom L ms ns

module _ (M : Machine) where
  -- the moves change the state t into u: forth by a step of the machine, back by putting back what the step saved
  abbrev pub Changes : M.State → List (Move (StepOf M)) → M.State → Type 0
  Changes t [] u = t ≡ u
  Changes t (forth r ∷ ms) u = (m : M.State) × IsLog M t (r ∷ []) m × Changes m ms u
  Changes t (back r ∷ ms) u = Changes (undo M.put t (r ∷ [])) ms u
