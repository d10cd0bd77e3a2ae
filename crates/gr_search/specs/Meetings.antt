-- A small system in which events wait: guests who work, and who meet in rooms, two by two. The first in a room waits for the second.
use Rattle.std.specs.Prelude.{◌≡◌, ℕ, nat_eq, Bool, true, false, not, ◌&&◌, if◌then◌else◌, List, [], ◌∷◌, drop, Option, Some, None}
use Rattle.gr_search.specs.System.{System}

pub data Act : Type 0 where
  Works : Act
  Enters : (room : ℕ) → Act

-- what each guest still does, and who waits, by guests and by rooms
pub record Hall : Type 0 where
  pub acts : ℕ → List Act
  pub waiting : ℕ → Bool
  pub waiter : ℕ → Option ℕ

-- the function with this value at one number
abbrev pub with_at : {X : Type 0} → (ℕ → X) → ℕ → X → ℕ → X
with_at f k x n = if nat_eq n k then x else f n

abbrev pub worked : Hall → ℕ → List Act → Hall
worked s g rest = record s { acts = with_at s.acts g rest }

abbrev pub waiting_in : Hall → ℕ → ℕ → Hall
waiting_in s g room = record s { waiting = with_at s.waiting g true; waiter = with_at s.waiter room (Some g) }

-- both are done with what they came for
abbrev pub met_in : Hall → ℕ → List Act → ℕ → ℕ → Hall
met_in s g rest room h = record {
  acts = with_at (with_at s.acts g rest) h (drop 1 (s.acts h));
  waiting = with_at s.waiting h false;
  waiter = with_at s.waiter room None;
}

abbrev pub enters : Hall → ℕ → List Act → ℕ → Option ℕ → Option Hall
enters s g rest room None = Some (waiting_in s g room)
enters s g rest room (Some h) = if s.waiting h then Some (met_in s g rest room h) else None

abbrev pub acts : Hall → ℕ → List Act → Option Hall
acts s g [] = None
acts s g (Works ∷ rest) = Some (worked s g rest)
acts s g (Enters room ∷ rest) = enters s g rest room (s.waiter room)

-- an event is a guest's next act; a guest who waits has none
abbrev pub acted : Hall → ℕ → Option Hall
acted s g = if s.waiting g then None else acts s g (s.acts g)

-- nothing is possible, and somebody waits
pub record IsStuck (s : Hall) : Type 0 where
  pub none : (g : ℕ) → acted s g ≡ None
  pub guest : ℕ
  pub left : s.waiting guest ≡ true

abbrev pub at_work : List Act → Bool
at_work (Works ∷ rest) = true
at_work _ = false

-- the meetings of guests who come with these acts; work is taken alone
abbrev pub meetings : (ℕ → List Act) → System Hall ℕ Hall
meetings all = record {
  start = record { acts = all; waiting = λ g. false; waiter = λ room. None };
  next = acted;
  bad = IsStuck;
  alone = λ s g. not (s.waiting g) && at_work (s.acts g);
  key = λ s. s;
}

abbrev pub is_waiting : Hall → ℕ → Bool
is_waiting s g = s.waiting g
