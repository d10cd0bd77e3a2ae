-- How far a search has come.
use Rattle.std.specs.Prelude.{length, ◌+◌, ◌<◌, ◌≤◌, ◌≡◌, ◌⊎◌, ℕ, Bool, true, false, nat_eq, List, [], ◌∷◌, drop, Some, None}
use Rattle.std.specs.Cmp.Lexicographic.{pointwise}
use Rattle.std.specs.List.{list_any, IsDistinct}
use Rattle.std.specs.HashSet.{HashSet, contains}
use Rattle.gr_search.specs.System.{System, Leads, Reached, Follows, Reaches, Expands, IsSafe, Closed}
use Rattle.gr_search.specs.declared.searched.Limit.{Limit}
use Rattle.gr_search.specs.declared.searched.Limit.TheVariants.{Memory, Steps, States, Turns, Back}
use Rattle.gr_search.specs.declared.search.Task.{Task}
use Rattle.gr_search.specs.declared.search.Task.TheVariants.{Try, TakeBack}
use Rattle.gr_search.specs.declared.search.Answer.{Answer}
use Rattle.gr_search.specs.declared.search.Answer.TheVariants.{Nothing, Limited}
use Rattle.gr_search.specs.declared.search.Answer.TheVariants as answers
use Rattle.gr_search.specs.declared.search.Explored.{Explored}
use Rattle.gr_search.specs.declared.search.Explored.TheVariants.{BadState, AllStates}
use Rattle.gr_search.specs.declared.search.Turn.{Turn}
use Rattle.gr_search.specs.declared.search.Turn.TheVariants.{GoOn, Found, Done}

abbrev pub In : {A : Type 0} → A → List A → Type 0
In x [] = ⊥
In x (y ∷ ys) = (x ≡ y) ⊎ In x ys

-- the keys of a set
abbrev pub keys_of : {H : Type 0} → HashSet (List ℕ) H → List ℕ → Bool
keys_of seen k = contains (pointwise nat_eq) seen k

-- what is known by the keys that were seen
abbrev pub Known : {Matter : Type 0} → (List ℕ → Matter → Type 0) → (List ℕ → Bool) → Matter → Type 0
Known means seen a = (k : List ℕ) × (seen k ≡ true) × means k a

-- the log after the tasks; at the end all is taken back
abbrev pub GoesHome : {E : Type 0} → List (Task E) → List E → Type 0
GoesHome [] log = log ≡ []
GoesHome (Try e ∷ ts) log = GoesHome ts log
GoesHome (TakeBack n ∷ ts) log = GoesHome ts (drop n log)

module _ {State Event Key : Type 0} (Y : System State Event Key) where
  open Y use {start, next, bad, alone, key}

  -- the event is still to be tried in the state, by one of the tasks
  abbrev pub Pending : List (Task Event) → List Event → State → Event → Type 0
  Pending [] log s e = ⊥
  Pending (Try f ∷ ts) log s e = (Leads Y log s × (e ≡ f)) ⊎ Pending ts log s e
  Pending (TakeBack n ∷ ts) log s e = Pending ts (drop n log) s e

  -- each step of a state whose key is known leads to a known one, or is still to be tried
  pub record Going (V : Key → Type 0) (ts : List (Task Event)) (log : List Event) : Type 0 where
    pub home : GoesHome ts log
    pub begins : Reaches Y V start
    pub known : (k : Key) → V k → Expands Y (λ s e t. Reaches Y V t ⊎ Pending ts log s e) k

  -- the same, where steps may also lead to a state that is looked at now
  pub record Arriving (V : Key → Type 0) (ts : List (Task Event)) (log : List Event) (u : State) : Type 0 where
    pub home : GoesHome ts log
    pub begins : Reaches Y V start ⊎ Follows Y start u
    pub known : (k : Key) → V k → Expands Y (λ s e t. (Reaches Y V t ⊎ Follows Y t u) ⊎ Pending ts log s e) k

  -- what a turn of the search comes to
  abbrev pub Turned : Turn → (Key → Type 0) → List (Task Event) → List Event → State → Type 0
  Turned GoOn V ts log s = Going V ts log
  Turned Found V ts log s = bad s
  Turned Done V ts log s = IsSafe Y × Closed Y V × (log ≡ [])

  -- an event was taken, or it is not possible
  abbrev pub Stepped : Bool → Event → (old new : State) → (before after : List Event) → Type 0
  Stepped true e s t log more = (next s e ≡ Some t) × (more ≡ e ∷ log)
  Stepped false e s t log more = (next s e ≡ None) × (t ≡ s) × (more ≡ log)

  -- all that is possible is among these
  abbrev pub HasAll : State → List Event → Type 0
  HasAll s es = (e : Event) (t : State) → next s e ≡ Some t → In e es

-- tries of these events come before the tasks
abbrev pub tries : {E : Type 0} → List E → List (Task E) → List (Task E)
tries [] ts = ts
tries (e ∷ es) ts = tries es (Try e ∷ ts)

-- why a step may be refused where it is possible: out of memory, or the run is as long as one may get
abbrev pub RefusesStep : {E : Type 0} → ℕ → List E → Limit → Type 0
RefusesStep longest log Memory = Unit {0}
RefusesStep longest log Steps = length log ≡ longest
RefusesStep longest log _ = ⊥

-- why taking a step back may be refused
abbrev pub RefusesBack : Limit → Type 0
RefusesBack Back = Unit {0}
RefusesBack _ = ⊥

-- why looking at a state may be refused
abbrev pub RefusesLook : Limit → Type 0
RefusesLook Memory = Unit {0}
RefusesLook _ = ⊥

module _ {State Event Matter : Type 0} (Y : System State Event Matter) (means : List ℕ → Matter → Type 0) where
  -- each of these is a key of a state that is reached
  abbrev pub AreReached : (List ℕ → Bool) → Type 0
  AreReached seen = (k : List ℕ) → seen k ≡ true → (s : State) × Reached Y s × means k (Y.key s)

  -- there are more than so many keys of reached states, no two of them the same
  pub record HasMore (most : ℕ) : Type 0 where
    pub keys : List (List ℕ)
    pub distinct : IsDistinct (pointwise nat_eq) keys
    pub reached : AreReached (λ k. list_any (pointwise nat_eq k) keys)
    pub more : most < length keys

  -- so many keys of reached states, no two of them the same, are closed
  pub record HasClosed (count : ℕ) : Type 0 where
    pub keys : List (List ℕ)
    pub distinct : IsDistinct (pointwise nat_eq) keys
    pub reached : AreReached (λ k. list_any (pointwise nat_eq k) keys)
    pub closed : Closed Y (Known means (λ k. list_any (pointwise nat_eq k) keys))
    pub many : count ≡ length keys

  -- how exploring ends
  abbrev pub Ended : Explored → List Event → State → Type 0
  Ended BadState log s = Y.bad s
  Ended (AllStates count) log s = IsSafe Y × HasClosed count × (log ≡ [])

  -- a run of so many steps is possible
  pub record HasRun (steps : ℕ) : Type 0 where
    pub log : List Event
    pub at : State
    pub leads : Leads Y log at
    pub long : length log ≡ steps

  -- what is known where a step was refused
  abbrev pub MetByRun : (longest : ℕ) → Limit → Type 0
  MetByRun longest Memory = Unit {0}
  MetByRun longest Steps = HasRun longest
  MetByRun longest _ = ⊥

-- a state that was looked at: its key, and the events that were then to be tried there
pub record Look (State Event : Type 0) : Type 0 where
  pub key : List ℕ
  pub at : State
  pub events : List Event

-- how many tasks such looks make: to try each event, and to take the steps back that led there
abbrev pub tasks_of : {State Event : Type 0} → List (Look State Event) → ℕ
tasks_of [] = 0
tasks_of (l ∷ ls) = length l.events + 1 + tasks_of ls

-- whether one of the looks has the key
abbrev pub has_key : {State Event : Type 0} → List ℕ → List (Look State Event) → Bool
has_key {State = State} {Event = Event} k ls = list_any (λ (l : Look State Event). pointwise nat_eq k l.key) ls

module _ {State Event Matter : Type 0} (Y : System State Event Matter) (means : List ℕ → Matter → Type 0) (offers : State → List Event → Type 0) where
  -- the look at a state that is reached: its key, and what is offered there
  pub record IsLook (l : Look State Event) : Type 0 where
    pub reached : Reached Y l.at
    pub is_key : means l.key (Y.key l.at)
    pub offered : offers l.at l.events

  -- each is a look at a state that is reached, and no two have one key
  abbrev pub AreLooks : List (Look State Event) → Type 0
  AreLooks [] = Unit {0}
  AreLooks (l ∷ ls) = IsLook l × (has_key l.key ls ≡ false) × AreLooks ls

  -- looks at states that are reached make as many tasks, no two of them with one key
  pub record HasTasks (turns : ℕ) : Type 0 where
    pub looks : List (Look State Event)
    pub are : AreLooks looks
    pub enough : turns ≤ tasks_of looks

  -- the keys that were seen are those of looks, and of the tasks that these make so many were done, and the others are left
  pub record Does (seen : List ℕ → Bool) (left : List (Task Event)) (done : ℕ) : Type 0 where
    pub looks : List (Look State Event)
    pub are : AreLooks looks
    pub known : (k : List ℕ) → has_key k looks ≡ true → seen k ≡ true
    pub count : tasks_of looks ≡ done + length left

  -- what is known where a limit was met, of the runs, of the keys, and of the tasks
  abbrev pub Met : (longest most turns : ℕ) → Limit → Type 0
  Met longest most turns States = HasMore Y means most
  Met longest most turns Steps = HasRun Y means longest
  Met longest most turns Turns = HasTasks turns
  Met longest most turns _ = Unit {0}

  -- the same where tasks are not counted yet
  abbrev pub MetThere : (longest most : ℕ) → Limit → Type 0
  MetThere longest most States = HasMore Y means most
  MetThere longest most Steps = HasRun Y means longest
  MetThere longest most Turns = ⊥
  MetThere longest most _ = Unit {0}

-- after every answer but a bad state the machine stands where it stood, unless a step could not be taken back
abbrev pub IsHome : {E : Type 0} → Answer → List E → Type 0
IsHome answers.Found log = Unit {0}
IsHome (Limited Back) log = Unit {0}
IsHome (Limited _) log = log ≡ []
IsHome (Nothing states) log = log ≡ []
