-- Attempts that end in one of some refusals, or write cells whose values have sorts: ways of asking, and ways to end.
use Rattle.std.proofs.Common.{◌≡◌, ℕ, ◌%◌, ◌==◌, Bool, true, false, if◌then◌else◌, List, ◌∷◌, Option, Some, None, option_map, refl, sym, subst}
use Rattle.std.specs.List.{AllByRecursion}
use Rattle.std.proofs.lemmas.Option.{none-some}
use Rattle.gr_base.specs.declared.names.ChName.{ChName}
use Rattle.gr_base.specs.declared.values.Value.{Value}
use Rattle.gr_base.specs.declared.kinds.Fault.{Fault}
use Rattle.gr_base.specs.declared.kinds.Kind.{Kind}
use Rattle.gr_base.specs.declared.objects.Object.{Object}
use Rattle.gr_channels.specs.Objects.{GateContent}
use Rattle.gr_typing.specs.Scopes.{Signature}
use Rattle.gr_rules.specs.Outcomes.{Outcome, gives, faults, wrong}
use Rattle.gr_rules.specs.Frames.{Frame}
use Rattle.gr_rules.specs.Goroutines.{Goroutine}
use Rattle.gr_rules.specs.States.{Run, Cell, go_has, State, look}
use Rattle.gr_rules.specs.Attempts.{Refusal, Operation, Attempt, ask, ask_run, ask_go, ask_tail, ask_head, ask_slot, if_there, ask_gate, room_for, ask_room, ask_item}
use Rattle.gr_rules.specs.Actors.{Actor, onward, does, fault, given}
use Rattle.type_safety.proofs.Sorts.{Sort, Made}
use Rattle.type_safety.proofs.Running.{SortedFrame, GoesOn, on_as, SortedBelow, SortedFrames, is_ready, SortedGoroutine}
use Rattle.type_safety.proofs.Attempting.{SortedCell, plain, Fine}
use Rattle.type_safety.proofs.Promises.{Acting}

-- the number of the next value that enters a buffer, and the front item, as the state has them
abbrev pub room_in : State → ChName → GateContent → Option ℕ
room_in s c gate = if gate.capacity == 0 then None else room_for (s.tails c) (s.slots c (s.tails c % gate.capacity))

abbrev pub item_in : State → ChName → GateContent → Option (ℕ × Value)
item_in s c gate =
    if gate.capacity == 0 then None else option_map (λ x. (s.heads c, x.1)) (s.slots c (s.heads c % gate.capacity))

pub record IsFine (P : Refusal → Type 0) (fs : List Signature) (made : Made) (s : State) (x : Attempt) : Type 0 where
  pub fine : Fine P fs made s x

module _ {fs : List Signature} {made : Made} {s : State} {a : Actor} {k : Sort} (acting : Acting fs made s a k) where
  -- the actor, ready with this innermost frame
  pub stays : (f : Frame) → f.function ≡ a.frame.function → SortedFrame fs made k f
      → SortedFrames fs made a.before.status (f ∷ a.below)
  stays f e h =
      subst (λ x. SortedFrames fs made x (f ∷ a.below)) (sym acting.calm)
      (is_ready h (subst (λ n. SortedBelow fs made n k a.below) (sym e) acting.below))

  pub onward_sorted : (f : Frame) → f.function ≡ a.frame.function → SortedFrame fs made k f
      → SortedGoroutine fs made (onward a f)
  onward_sorted f e h = stays f e h

  pub own_sorted : (g : Goroutine) → SortedGoroutine fs made g → g.children ≡ a.before.children
      → SortedCell fs made s (go_has a.name (Some g))
  own_sorted g h e = (h, a.before, acting.here, e)

module _ {P : Refusal → Type 0} {fs : List Signature} {made : Made} {s : State} where
  pub asked : {o : Object} {f : Cell → Attempt} → IsFine P fs made s (f (look s o)) → IsFine P fs made s (ask o f)
  asked h = record { fine = h.fine }

  pub if_fine : (b : Bool) {x y : Attempt} → (b ≡ true → IsFine P fs made s x) → (b ≡ false → IsFine P fs made s y)
      → IsFine P fs made s (if b then x else y)
  if_fine true p q = p refl
  if_fine false p q = q refl

  pub there_fine : {A : Type 0} {k : A → Attempt} (o : Option A) (v : A) → o ≡ Some v
      → ((v : A) → o ≡ Some v → IsFine P fs made s (k v)) → IsFine P fs made s (if_there k o)
  there_fine (Some x) v e h = h x refl
  there_fine None v e h = absurd (none-some _ e)

  pub there_is : {A : Type 0} (k : A → Attempt) (o : Option A) (v : A) → o ≡ Some v → IsFine P fs made s (k v)
      → IsFine P fs made s (if_there k o)
  there_is k o v e h = subst (λ x. IsFine P fs made s (if_there k x)) (sym e) h

  pub run_fine : {k : Run → Attempt} (r : Run) → s.run ≡ r → IsFine P fs made s (k r) → IsFine P fs made s (ask_run k)
  run_fine {k} r e h = asked (subst (λ x. IsFine P fs made s (k x)) (sym e) h)

  pub go_fine : {name : List ℕ} {k : Option Goroutine → Attempt} (x : Option Goroutine) → s.goroutines name ≡ x
      → IsFine P fs made s (k x) → IsFine P fs made s (ask_go name k)
  go_fine {name} {k} x e h = asked (subst (λ x. IsFine P fs made s (k x)) (sym e) h)

  pub tail_fine : {c : ChName} {k : ℕ → Attempt} → IsFine P fs made s (k (s.tails c))
      → IsFine P fs made s (ask_tail c k)
  tail_fine h = asked h

  pub head_fine : {c : ChName} {k : ℕ → Attempt} → IsFine P fs made s (k (s.heads c))
      → IsFine P fs made s (ask_head c k)
  head_fine h = asked h

  pub gate_fine : {c : ChName} {k : GateContent → Attempt} (gate : GateContent) → s.gates c ≡ Some gate
      → IsFine P fs made s (k gate) → IsFine P fs made s (ask_gate c k)
  gate_fine {c} {k} gate e h = asked (subst (λ x. IsFine P fs made s (if_there k x)) (sym e) h)

  pub room_fine : (c : ChName) (gate : GateContent) (k : Option ℕ → Attempt)
      → IsFine P fs made s (k (room_in s c gate)) → IsFine P fs made s (ask_room c gate k)
  room_fine c gate k h = asked (by_capacity (gate.capacity == 0) h)
    where
      by_capacity : (b : Bool)
          → IsFine P fs made s (k (if b then None else room_for (s.tails c) (s.slots c (s.tails c % gate.capacity))))
          → IsFine P fs made s (if b then k None else ask_slot c (s.tails c % gate.capacity)
          (λ item. k (room_for (s.tails c) item)))
      by_capacity true h = h
      by_capacity false h = asked h

  pub item_fine : (c : ChName) (gate : GateContent) (k : Option (ℕ × Value) → Attempt)
      → IsFine P fs made s (k (item_in s c gate)) → IsFine P fs made s (ask_item c gate k)
  item_fine c gate k h = asked (by_capacity (gate.capacity == 0) h)
    where
      by_capacity : (b : Bool)
          → IsFine P fs made s (k (if b then None else option_map (λ x. (s.heads c, x.1))
          (s.slots c (s.heads c % gate.capacity))))
          → IsFine P fs made s (if b then k None else ask_slot c (s.heads c % gate.capacity)
          (λ item. k (option_map (λ x. (s.heads c, x.1)) item)))
      by_capacity true h = h
      by_capacity false h = asked h

  module _ {a : Actor} {k : Sort} (acting : Acting fs made s a k) where
    pub does_fine : {clause : Option ℕ} {operation : Option Operation} {kind : Kind} {g : Goroutine}
        {cells : List Cell}
        → SortedGoroutine fs made g → g.children ≡ a.before.children → AllByRecursion (SortedCell fs made s) cells
        → IsFine P fs made s (does a clause operation kind g cells)
    does_fine {g = g} h e o = record { fine = plain (own_sorted acting g h e, o) }

    -- a step after which its innermost frame is this one
    pub goes_fine : {clause : Option ℕ} {operation : Option Operation} {kind : Kind} {f : Frame} {cells : List Cell}
        → f.function ≡ a.frame.function → SortedFrame fs made k f → AllByRecursion (SortedCell fs made s) cells
        → IsFine P fs made s (does a clause operation kind (onward a f) cells)
    goes_fine {f = f} e h o = does_fine (onward_sorted acting f e h) refl o

    pub fault_fine : (operation : Option Operation) (e : Fault) → IsFine P fs made s (fault a operation e)
    fault_fine operation e = does_fine (acting.sorted.goroutines a.name a.before acting.here) refl (tt, tt)

    -- what a frame goes on as, or what a function begins as
    pub goes_on_fine : {l : Sort} {n : ℕ} {after : Made} {o : Outcome Frame} {next : Frame → Attempt}
        → GoesOn fs after l n o
        → ((f : Frame) → f.function ≡ n → SortedFrame fs after l f → IsFine P fs made s (next f))
        → IsFine P fs made s (given a o next)
    goes_on_fine (on_as e h) f = f _ e h

    pub given_fine : {A : Type 0} (x : Outcome A) {k : A → Attempt} → (x ≡ wrong → ⊥)
        → ((v : A) → x ≡ gives v → IsFine P fs made s (k v)) → IsFine P fs made s (given a x k)
    given_fine (gives v) n h = h v refl
    given_fine (faults e) n h = fault_fine None e
    given_fine wrong n h = absurd (n refl)
