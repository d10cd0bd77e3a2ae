-- Deterministic machines whose steps touch named objects; their logs, and how steps are taken back. A step keeps its
-- history, and causal-consistent undoing goes by it (Lanese, Nishida, Palacios, Vidal, "A theory of reversibility for
-- Erlang", 2018).
use Rattle.std.specs.Prelude.{fold, ◌≡◌, Bool, true, ◌||◌, List, [], ◌∷◌, map, Option, Some, None, option_and_then}
use Rattle.std.specs.List.{list_any}
use Rattle.gr_causal.specs.Sequences.{In}

-- a machine: its data; what they must meet is in `Laws`
pub record Machine : Type 1 where
  -- the names of what a state is made of
  pub Object : Type 0
  -- an object with its content
  pub Cell : Type 0
  pub State : Type 0
  pub Event : Type 0
  -- what is noted of a step, as its kind and the objects that it touched
  pub Note : Type 0
  -- whether two objects are equal
  pub same : Object → Object → Bool
  -- the object with its content in the state
  pub look : State → Object → Cell
  -- the state in which the object of the cell has the content of the cell
  pub put : State → Cell → State
  -- the next state and the note, where the event is possible
  pub step : State → Event → Option (State × Note)
  -- the objects that the step read or wrote
  pub touches : Note → List Object
  -- the objects that it wrote
  pub writes : Note → List Object

-- a step as the log keeps it: its event, its note, and what it wrote over
pub record Step (Event Note Cell : Type 0) : Type 0 where
  pub event : Event
  pub note : Note
  pub saved : List Cell

-- the state with the saved contents of these steps put back, of the last step first
abbrev pub undo : {State Event Note Cell : Type 0} → (State → Cell → State) → State → List (Step Event Note Cell) → State
undo put s [] = s
undo put s (d ∷ ds) = fold put (undo put s ds) d.saved

-- the lists have an object in common
abbrev pub meets : {Object : Type 0} → (Object → Object → Bool) → List Object → List Object → Bool
meets same os ps = list_any (λ o. list_any (λ p. same o p) ps) os

module _ (M : Machine) where
  open M use {Object, Cell, State, Event, Note, same, look, put, step, touches, writes}

  -- what makes rollback causal-consistent: states are their contents, and steps touch what their notes tell
  pub record Laws : Type 0 where
    -- `same` is equality
    pub same_is : (o p : Object) → same o p ≡ true → o ≡ p
    pub same_self : (o : Object) → same o o ≡ true
    -- states with the same contents are equal
    pub ext : (s t : State) → ((o : Object) → look s o ≡ look t o) → s ≡ t
    -- putting a content changes its object, to that content, and no other object
    pub put_here : (s t : State) (o : Object) → look (put s (look t o)) o ≡ look t o
    pub put_else : (s t : State) (o p : Object) → ¬ (p ≡ o) → look (put s (look t o)) p ≡ look s p
    -- what is written is touched
    pub within : (s t : State) (e : Event) (n : Note) → step s e ≡ Some (t, n) → (o : Object) → In o (writes n) → In o (touches n)
    -- only what is written changes
    pub only_writes : (s t : State) (e : Event) (n : Note) → step s e ≡ Some (t, n) → (o : Object) → ¬ In o (writes n) → look t o ≡ look s o
    -- a step goes alike, with the same note, in every state that agrees on what it touches
    pub local : (s t : State) (e : Event) (n : Note) → step s e ≡ Some (t, n) → (s' : State) → ((o : Object) → In o (touches n) → look s' o ≡ look s o)
        → (t' : State) × (step s' e ≡ Some (t', n)) × ((o : Object) → In o (writes n) → look t' o ≡ look t o)

  -- a step of this machine as a log keeps it
  abbrev pub StepOf : Type 0
  StepOf = Step Event Note Cell

  -- two steps conflict where one writes what the other touches (Bernstein's conditions, 1966)
  abbrev pub conflict : StepOf → StepOf → Bool
  conflict a b = meets same (writes a.note) (touches b.note) || meets same (writes b.note) (touches a.note)

  -- the contents of these objects
  abbrev pub saved_of : State → List Object → List Cell
  saved_of s os = map (look s) os

  -- the step of e from s, in front of what follows it
  abbrev pub logged : State → Event → Option (State × List StepOf) → Note → Option (State × List StepOf)
  logged s e None n = None
  logged s e (Some r) n = Some (r.0, record { event = e; note = n; saved = saved_of s (writes n) } ∷ r.1)

  -- the state and the log after these events, if each is possible in its turn
  abbrev pub replay : State → List Event → Option (State × List StepOf)
  replay s [] = Some (s, [])
  replay s (e ∷ es) = option_and_then (λ r. logged s e (replay r.0 es) r.1) (step s e)

  -- replaying the events of L from s gives the log L, notes and saved contents included, and ends in t
  abbrev pub IsLog : State → List StepOf → State → Type 0
  IsLog s L t = replay s (map (λ r. r.event) L) ≡ Some (t, L)

-- the machine of these parts
abbrev pub machine_by : {O C S E N : Type 0} → (O → O → Bool) → (S → O → C) → (S → C → S) → (S → E → Option (S × N)) → (N → List O) → (N → List O) → Machine
machine_by {O} {C} {S} {E} {N} same look put step touches writes =
    record { Object = O; Cell = C; State = S; Event = E; Note = N; same = same; look = look; put = put; step = step; touches = touches; writes = writes }

-- P holds of every machine of these types that meets the laws
abbrev pub ForEveryMachine : (O C S E N : Type 0) → (Machine → Type 0) → Type 0
ForEveryMachine O C S E N P = (same : O → O → Bool) (look : S → O → C) (put : S → C → S) (step : S → E → Option (S × N)) (touches writes : N → List O)
    → Laws (machine_by same look put step touches writes) → P (machine_by same look put step touches writes)
