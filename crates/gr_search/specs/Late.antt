-- Systems in which an event may make the one who takes it wait, until an event of another ends the wait. In the reduction of such
-- a system nobody waits before that event comes.
use Rattle.std.specs.Prelude.{◌≡◌, ◌<◌, ℕ, Bool, true, false, ◌||◌, if◌then◌else◌, List, [], ◌∷◌, Option, Some, None, option_and_then}
use Rattle.gr_search.specs.System.{System, Runs, Reached, Ends}
use Rattle.gr_search.specs.Going.{HasAll}

-- the state, where this does not hold of it
abbrev pub unless : {State : Type 0} → Bool → State → Option State
unless b t = if b then None else Some t

module _ {State Event Key : Type 0} (Y : System State Event Key) (waits : State → Event → Bool) where
  open Y use {start, next, bad, alone, key}

  -- the event is possible, and who takes it waits then
  pub record IsWait (s : State) (w : Event) (t : State) : Type 0 where
    pub goes : next s w ≡ Some t
    pub then_waits : waits t w ≡ true

  -- waits lead from one state to another, in this order
  abbrev pub Waits : State → List Event → State → Type 0
  Waits s [] t = s ≡ t
  Waits s (w ∷ ws) t = (m : State) × IsWait s w m × Waits m ws t

  -- Two events are taken as one: a wait, and an event after which neither of the two who took them waits.
  abbrev pub after_two : State → Event → Event → Option State
  after_two s w e = option_and_then (λ m. if waits m w then option_and_then (λ t. unless (waits t w || waits t e) t) (next m e) else None) (next s w)

  -- the state after an event that is no wait, or after a wait and the event that ends it
  abbrev pub late_next : State → List Event → Option State
  late_next s (e ∷ []) = option_and_then (λ t. unless (waits t e) t) (next s e)
  late_next s (w ∷ e ∷ []) = after_two s w e
  late_next s _ = None

  -- waits, and nothing else, lead to a bad state
  pub record WaitsForBad (s : State) : Type 0 where
    pub events : List Event
    pub at : State
    pub by : Waits s events at
    pub is_bad : bad at

  abbrev pub alone_late : State → List Event → Bool
  alone_late s (a ∷ []) = alone s a
  alone_late s _ = false

  -- The reduction. Its events are lists of one event or two. A state is bad where those who can wait wait, and then it is bad.
  abbrev pub late : System State (List Event) Key
  late = record { start = start; next = late_next; bad = WaitsForBad; alone = alone_late; key = key }

  -- What is asked of waiting.
  pub record WaitLaws : Type 0 where
    -- who waits takes no step
    pub still : (s : State) (e : Event) → Reached Y s → waits s e ≡ true → next s e ≡ None
    -- in states with one key the same ones wait
    pub like_waits : (s r : State) (e : Event) → Reached Y s → Reached Y r → key s ≡ key r → waits s e ≡ waits r e
    -- what may be taken alone may be taken alone after a wait
    pub alone_stays : (s m : State) (a w : Event) → Reached Y s → alone s a ≡ true → IsWait s w m → alone m a ≡ true
    -- after what may be taken alone the same ones wait as before it
    pub alone_waits : (s t : State) (a e : Event) → Reached Y s → alone s a ≡ true → next s a ≡ Some t → waits t e ≡ waits s e
    -- and so with an event in between that ends all
    pub alone_ends : (s t u v : State) (a e f : Event) → Reached Y s → alone s a ≡ true → next s a ≡ Some t → next s e ≡ Some u → Ends Y e t u → next t e ≡ Some v
        → waits v f ≡ waits u f

  -- What became of a wait that was put off, so that it has not come in u, and has in t. It comes now. Or it was undone. Or all is
  -- over, and what is bad with it is bad without it.
  pub data After (u : State) (w : Event) (t : State) : Type 0 where
    comes : (v : State) → IsWait u w v → key v ≡ key t → After u w t
    undone : key u ≡ key t → After u w t
    over : ((f : Event) → next t f ≡ None) → (bad t → bad u) → After u w t

  -- events of the reduction, at least one, lead from s to where the wait is put off, and is not lost
  pub record PutsOff (s : State) (w : Event) (t : State) : Type 0 where
    pub first : List Event
    pub others : List (List Event)
    pub at : State
    pub by : Runs late s (first ∷ others) at
    pub after : After at w t

  -- Each wait can be put off until after what comes next: an event, or a wait and the event that ends it.
  abbrev pub CanPutOff : Type 0
  CanPutOff = (s m t : State) (w : Event) (es : List Event) → Reached Y s → IsWait s w m → late_next m es ≡ Some t → PutsOff s w t

  -- some event of the reduction is possible
  pub record CanGo (s : State) : Type 0 where
    pub events : List Event
    pub to : State
    pub goes : late_next s events ≡ Some to

  -- What is asked of ends.
  pub record EndLaws : Type 0 where
    -- where it is bad nothing is possible
    pub bad_ends : (s : State) (e : Event) → Reached Y s → bad s → next s e ≡ None
    -- a wait leaves something to do where there was something
    pub goes_still : (s m : State) (w : Event) → Reached Y s → IsWait s w m → CanGo s → CanGo m

  -- Nobody can wait for ever: the possible events are listed, and each wait leaves fewer who can.
  pub record Listed : Type 0 where
    pub events : State → List Event
    pub all : (s : State) → Reached Y s → HasAll Y s (events s)
    pub left : State → ℕ
    pub fewer : (s m : State) (w : Event) → Reached Y s → IsWait s w m → left m < left s

  -- waits lead to where nothing is possible
  pub record WaitsToEnd (s : State) : Type 0 where
    pub events : List Event
    pub at : State
    pub by : Waits s events at
    pub none : (e : Event) → next at e ≡ None
