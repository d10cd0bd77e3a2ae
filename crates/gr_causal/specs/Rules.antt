-- Machines given by rules of a structured operational semantics (Plotkin, 1981). The premises of a rule ask for objects,
-- one after another, and its conclusion writes cells. So what a step touches is read off its rule.
use Rattle.std.specs.Prelude.{fold, ◌≡◌, Bool, true, List, [], ◌∷◌, ◌++◌, map, Option, Some, None}
use Rattle.gr_causal.specs.Machine.{Machine}

-- a rule for one event
pub data Rule (Object Cell Kind : Type 0) : Type 0 where
  -- the event is not possible
  stuck : Rule Object Cell Kind
  -- a step of this kind that writes these cells
  does : Kind → List Cell → Rule Object Cell Kind
  -- goes on by what the object contains
  ask : Object → (Cell → Rule Object Cell Kind) → Rule Object Cell Kind

-- what a rule comes to in a state: a kind, the objects asked for, the cells to write
pub record Plan (Object Cell Kind : Type 0) : Type 0 where
  pub kind : Kind
  pub reads : List Object
  pub cells : List Cell

-- what is noted of a step
pub record Note (Object Kind : Type 0) : Type 0 where
  pub kind : Kind
  pub reads : List Object
  pub writes : List Object

-- objects, their contents, and a rule for each event
pub record Rulebook : Type 1 where
  pub Object : Type 0
  -- an object with its content
  pub Cell : Type 0
  pub State : Type 0
  pub Event : Type 0
  pub Kind : Type 0
  pub same : Object → Object → Bool
  -- the object of a cell
  pub name : Cell → Object
  pub look : State → Object → Cell
  pub put : State → Cell → State
  pub rule : Event → Rule Object Cell Kind

-- the plan with one object more that was asked for, before the others
abbrev pub with_read : {Object Cell Kind : Type 0} → Object → Option (Plan Object Cell Kind) → Option (Plan Object Cell Kind)
with_read o None = None
with_read o (Some a) = Some (record { kind = a.kind; reads = o ∷ a.reads; cells = a.cells })

module _ (B : Rulebook) where
  open B use {Object, Cell, State, Event, Kind, same, name, look, put, rule}

  -- what the rule comes to in the state
  abbrev pub plan : State → Rule Object Cell Kind → Option (Plan Object Cell Kind)
  plan s stuck = None
  plan s (does k cs) = Some (record { kind = k; reads = []; cells = cs })
  plan s (ask o f) = with_read o (plan s (f (look s o)))

  -- the state after the plan, and the note
  abbrev pub carried : State → Option (Plan Object Cell Kind) → Option (State × Note Object Kind)
  carried s None = None
  carried s (Some a) = Some (fold put s a.cells, record { kind = a.kind; reads = a.reads; writes = map name a.cells })

  -- the machine that steps by the rules; a step touches what it asks for and what it writes
  abbrev pub machine_of : Machine
  machine_of = record {
    Object = Object;
    Cell = Cell;
    State = State;
    Event = Event;
    Note = Note Object Kind;
    same = same;
    look = look;
    put = put;
    step = λ s e. carried s (plan s (rule e));
    touches = λ n. n.reads ++ n.writes;
    writes = λ n. n.writes;
  }

  -- a state is its contents, and putting a cell changes the content of its object alone
  pub record CellLaws : Type 0 where
    -- `same` is equality
    pub same_is : (o p : Object) → same o p ≡ true → o ≡ p
    pub same_self : (o : Object) → same o o ≡ true
    -- states with the same contents are equal
    pub ext : (s t : State) → ((o : Object) → look s o ≡ look t o) → s ≡ t
    -- looking at an object gives a cell of it, and putting a cell changes its object alone
    pub name-look : (s : State) (o : Object) → name (look s o) ≡ o
    pub put_here : (s : State) (c : Cell) → look (put s c) (name c) ≡ c
    pub put_else : (s : State) (c : Cell) (o : Object) → ¬ (o ≡ name c) → look (put s c) o ≡ look s o

-- the rulebook of these parts
abbrev pub rulebook_by : {O C S E K : Type 0} → (O → O → Bool) → (C → O) → (S → O → C) → (S → C → S) → (E → Rule O C K) → Rulebook
rulebook_by {O} {C} {S} {E} {K} same name look put rule =
    record { Object = O; Cell = C; State = S; Event = E; Kind = K; same = same; name = name; look = look; put = put; rule = rule }

-- P holds of every rulebook of these types that meets the laws of cells
abbrev pub ForEveryRulebook : (O C S E K : Type 0) → (Rulebook → Type 0) → Type 0
ForEveryRulebook O C S E K P = (same : O → O → Bool) (name : C → O) (look : S → O → C) (put : S → C → S) (rule : E → Rule O C K)
    → CellLaws (rulebook_by same name look put rule) → P (rulebook_by same name look put rule)
