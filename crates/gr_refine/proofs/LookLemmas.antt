-- What the rules learn of a state is what the store contains.
use Rattle.std.proofs.Common.{◌≡◌, ℕ, ◌+◌, ◌%◌, ◌==◌, ◌<◌, ◌≤◌, if◌then◌else◌, List, [], ◌∷◌, map, length, Option, Some, None, option_map, refl, ◌∙◌, ap, arith, inl, inr}
use Rattle.std.proofs.lemmas.Bool.{cases_Bool, cases_lt, lt-ltb, le-ltb, eqb-true, eqb-false}
use Rattle.std.proofs.Math.Nat.{add-mod_right}
use Rattle.gr_base.specs.declared.names.ChName.{ChName}
use Rattle.gr_base.specs.declared.values.Value.{Value}
use Rattle.gr_base.specs.declared.events.Event.{Event}
use Rattle.gr_channels.specs.Channels.{Content, IsChannel, tail_of}
use Rattle.gr_channels.specs.Objects.{slot_from, slot_of}
use Rattle.gr_channels.proofs.Slots.{slot_after, slot_first}
use Rattle.gr_program.specs.Programs.{Program}
use Rattle.gr_rules.specs.Frames.{Frame}
use Rattle.gr_rules.specs.Goroutines.{ready}
use Rattle.gr_rules.specs.States.{Run, live, ended, faulted, State}
use Rattle.gr_rules.specs.Attempts.{program_is_over, Attempt, ask_go, ask_slot, if_there, room_for}
use Rattle.gr_rules.specs.Actors.{if_waiting}
use Rattle.gr_rules.specs.Steps.{act_in, if_ready, if_known, if_live, attempt}
use Rattle.gr_code.specs.CodeFrames.{CodeFrame}
use Rattle.gr_refine.specs.Contents.{Contents, goroutine_of, state_of}
use Rattle.gr_code.specs.Goroutines.{CodeGoroutine}
use Rattle.gr_refine.specs.Leaves.{refused, leaf}
use Rattle.gr_refine.specs.Looks.{room_in, numbered_front, RunIsLookedUp, GoroutineIsLookedUp, WaiterIsLookedUp, GateIsLookedUp, TailIsLookedUp, HeadIsLookedUp, RoomIsLookedUp, ItemIsLookedUp, AttemptIsOfTheFrame, OverIsRefused, UnknownIsRefused, DoneIsRefused, WaitingIsRefused}
use Rattle.gr_refine.proofs.ChangeLemmas.{gate_at, tail_at, head_at, slots_at}

pub run_is_looked_up : RunIsLookedUp
run_is_looked_up frame s k = refl

pub goroutine_is_looked_up : GoroutineIsLookedUp
goroutine_is_looked_up frame s n k = refl

pub waiter_is_looked_up : WaiterIsLookedUp
waiter_is_looked_up frame s n g ws k there waits =
    let t = state_of frame s in
    ap (λ (o : Option CodeGoroutine). leaf t (if_there (λ g. if_waiting (k g) g.status) (option_map (goroutine_of frame) o))) there
    ∙ ap (λ status. leaf t (if_waiting (k (goroutine_of frame g)) status)) waits

pub gate_is_looked_up : GateIsLookedUp
gate_is_looked_up frame s c x k there = ap (λ o. leaf (state_of frame s) (if_there k (gate_at o))) there

pub tail_is_looked_up : TailIsLookedUp
tail_is_looked_up frame s c x k there = ap (λ o. leaf (state_of frame s) (k (tail_at o))) there

pub head_is_looked_up : HeadIsLookedUp
head_is_looked_up frame s c x k there = ap (λ o. leaf (state_of frame s) (k (head_at o))) there

slot_is_looked_up : (frame : CodeFrame → Frame) (s : Contents) (c : ChName) (x : Content) (i : ℕ) (k : Option (ℕ × Value) → Attempt) → s.channels c ≡ Some x
    → leaf (state_of frame s) (ask_slot c i k) ≡ leaf (state_of frame s) (k (slot_of x i))
slot_is_looked_up frame s c x i k there = ap (λ o. leaf (state_of frame s) (k (slots_at o i))) there

-- in a full buffer the slot of the next number holds the front item
full_slot : (n h : ℕ) (xs : List Value) → length xs ≡ n → 0 < n → (item : ℕ × Value) × (slot_from n ((h + length xs) % n) h xs ≡ Some item)
full_slot n h [] full some = absurd (omega arith)
full_slot n h (x ∷ xs) full some =
    let own : (h + length (x ∷ xs)) % n ≡ h % n = ap (λ k. (h + k) % n) full ∙ add-mod_right h n in
    ((h, x), ap (λ i. slot_from n i h (x ∷ xs)) own ∙ slot_first n h x xs)

-- the room that the slot of the tail tells is that of the buffer
room_told : (x : Content) → IsChannel x → (x.capacity ≡ 0 → ⊥) → room_for (tail_of x) (slot_of x (tail_of x % x.capacity)) ≡ room_in x
room_told x valid some = elim (cases_lt (length x.items) x.capacity) [
  | inl less ↦ rw (slot_after x.capacity x.head x.items less, lt-ltb (length x.items) x.capacity less) refl
  | inr full ↦
      let within : length x.items ≤ x.capacity = valid.within in
      let held = full_slot x.capacity x.head x.items (omega arith) (omega arith) in
      rw (held.1, le-ltb (length x.items) x.capacity full) refl
]

no_room : (x : Content) → x.capacity ≡ 0 → None ≡ room_in x
no_room x none = rw (le-ltb (length x.items) x.capacity (omega arith)) refl

pub room_is_looked_up : RoomIsLookedUp
room_is_looked_up frame s c x k there valid =
    let t = state_of frame s in
    let after = λ (n : ℕ). if x.capacity == 0 then k None else ask_slot c (n % x.capacity) (λ item. k (room_for n item)) in
    tail_is_looked_up frame s c x after there
    ∙ elim (cases_Bool (x.capacity == 0)) [
      | inl z ↦ ap (λ b. leaf t (if b then k None else ask_slot c (tail_of x % x.capacity) (λ item. k (room_for (tail_of x) item)))) z
          ∙ ap (λ o. leaf t (k o)) (no_room x (eqb-true _ _ z))
      | inr n ↦ ap (λ b. leaf t (if b then k None else ask_slot c (tail_of x % x.capacity) (λ item. k (room_for (tail_of x) item)))) n
          ∙ slot_is_looked_up frame s c x (tail_of x % x.capacity) (λ item. k (room_for (tail_of x) item)) there
          ∙ ap (λ o. leaf t (k o)) (room_told x valid (eqb-false _ _ n))
    ]

abbrev numbered_as : ℕ → ℕ × Value → ℕ × Value
numbered_as n item = (n, item.1)

front_told : (n h : ℕ) (xs : List Value) → option_map (numbered_as h) (slot_from n (h % n) h xs) ≡ numbered_front h xs
front_told n h [] = refl
front_told n h (x ∷ xs) = ap (option_map (numbered_as h)) (slot_first n h x xs)

no_front : (h : ℕ) (xs : List Value) → length xs ≤ 0 → None ≡ numbered_front h xs
no_front h [] none = refl
no_front h (x ∷ xs) none = absurd (omega arith)

pub item_is_looked_up : ItemIsLookedUp
item_is_looked_up frame s c x k there valid =
    let t = state_of frame s in
    let after = λ (n : ℕ). if x.capacity == 0 then k None else ask_slot c (n % x.capacity) (λ item. k (option_map (numbered_as n) item)) in
    head_is_looked_up frame s c x after there
    ∙ elim (cases_Bool (x.capacity == 0)) [
      | inl z ↦
          let within : length x.items ≤ x.capacity = valid.within in
          let none : x.capacity ≡ 0 = eqb-true _ _ z in
          ap (λ b. leaf t (if b then k None else ask_slot c (x.head % x.capacity) (λ item. k (option_map (numbered_as x.head) item)))) z
          ∙ ap (λ o. leaf t (k o)) (no_front x.head x.items (omega arith))
      | inr n ↦ ap (λ b. leaf t (if b then k None else ask_slot c (x.head % x.capacity) (λ item. k (option_map (numbered_as x.head) item)))) n
          ∙ slot_is_looked_up frame s c x (x.head % x.capacity) (λ item. k (option_map (numbered_as x.head) item)) there
          ∙ ap (λ o. leaf t (k o)) (front_told x.capacity x.head x.items)
    ]

-- an attempt as far as its goroutine
module _ (frame : CodeFrame → Frame) (s : Contents) (p : Program) (e : Event) where
  in_live : s.run ≡ live → leaf (state_of frame s) (attempt p e)
      ≡ leaf (state_of frame s) (if_known p e (option_map (goroutine_of frame) (s.goroutines e.go)))
  in_live runs = ap (λ r. leaf (state_of frame s) (if_live (ask_go e.go (if_known p e)) r)) runs

  at_goroutine : (g : CodeGoroutine) → s.run ≡ live → s.goroutines e.go ≡ Some g
      → leaf (state_of frame s) (attempt p e) ≡ leaf (state_of frame s) (if_ready p e (goroutine_of frame g) g.status)
  at_goroutine g runs there = in_live runs
      ∙ ap (λ (o : Option CodeGoroutine). leaf (state_of frame s) (if_known p e (option_map (goroutine_of frame) o))) there

pub attempt_at_frames : (frame : CodeFrame → Frame) (s : Contents) (p : Program) (e : Event) (g : CodeGoroutine) → s.run ≡ live → s.goroutines e.go ≡ Some g
    → g.status ≡ ready → leaf (state_of frame s) (attempt p e) ≡ leaf (state_of frame s) (act_in p e (goroutine_of frame g) (map frame g.frames))
attempt_at_frames frame s p e g runs there status =
    at_goroutine frame s p e g runs there ∙ ap (λ y. leaf (state_of frame s) (if_ready p e (goroutine_of frame g) y)) status

pub attempt_is_of_the_frame : AttemptIsOfTheFrame
attempt_is_of_the_frame frame s p e g f below runs there status frames =
    attempt_at_frames frame s p e g runs there status ∙ ap (λ fs. leaf (state_of frame s) (act_in p e (goroutine_of frame g) (map frame fs))) frames

not_live : (t : State) (a : Attempt) (r : Run) → (r ≡ live → ⊥) → leaf t (if_live a r) ≡ refused program_is_over
not_live t a live n = absurd (n refl)
not_live t a ended n = refl
not_live t a (faulted x) n = refl

pub over_is_refused : OverIsRefused
over_is_refused frame s p e over = not_live (state_of frame s) (ask_go e.go (if_known p e)) s.run over

pub unknown_is_refused : UnknownIsRefused
unknown_is_refused frame s p e runs none =
    in_live frame s p e runs ∙ ap (λ (o : Option CodeGoroutine). leaf (state_of frame s) (if_known p e (option_map (goroutine_of frame) o))) none

pub done_is_refused : DoneIsRefused
done_is_refused frame s p e g runs there done =
    at_goroutine frame s p e g runs there ∙ ap (λ y. leaf (state_of frame s) (if_ready p e (goroutine_of frame g) y)) done

pub waiting_is_refused : WaitingIsRefused
waiting_is_refused frame s p e g ws runs there waits =
    at_goroutine frame s p e g runs there ∙ ap (λ y. leaf (state_of frame s) (if_ready p e (goroutine_of frame g) y)) waits
