-- What the report of a step tells of its kind by what it did with a channel, whatever the rule.
use Rattle.std.proofs.Common.{◌≡◌, ℕ, ℤ, pos, negsuc, ◌+◌, ◌%◌, nat_le, ◌==◌, if◌then◌else◌, ◌||◌, Bool, true, false, List, [], ◌∷◌, ◌++◌, map, length, is_some, Option, Some, None, option_map, refl, subst}
use Rattle.std.specs.List.{flat_map}
use Rattle.gr_base.specs.declared.names.ChName.{ChName}
use Rattle.gr_base.specs.declared.values.Value.{Value}
use Rattle.gr_base.specs.declared.values.Value.TheVariants as values
use Rattle.gr_base.specs.declared.events.Choice.{Choice}
use Rattle.gr_base.specs.declared.events.Choice.TheVariants as choices
use Rattle.gr_base.specs.declared.events.Event.{Event}
use Rattle.gr_base.specs.declared.kinds.Fault.{Fault}
use Rattle.gr_base.specs.declared.kinds.Fault.TheVariants.{SendOnClosed, CloseOfClosed, CloseOfNil, BadSize, CallDepth, NameDepth, NameCount}
use Rattle.gr_base.specs.declared.kinds.Kind.{Kind}
use Rattle.gr_base.specs.declared.kinds.Kind.TheVariants as kinds
use Rattle.gr_base.specs.declared.kinds.Kind.TheVariants.{Hand, Buffer, Take, Meet, SendWait, RecvWait, SelectWait}
use Rattle.gr_channels.specs.declared.waiter.Waiter.{Waiter}
use Rattle.gr_channels.specs.Objects.{GateContent, has_any}
use Rattle.gr_refine.specs.Leaves.{refused, performed, leaf}
use Rattle.gr_program.specs.Programs.{Program}
use Rattle.gr_rules.specs.Outcomes.{Outcome, gives, faults, wrong}
use Rattle.gr_rules.specs.Frames.{Frame}
use Rattle.gr_rules.specs.Deeds.{Communication, Sending, Receiving, Otherwise, Deed, Moves, Prints, Enters, Leaves, Starts, Makes, TakesLen, TakesCap, Closes, Communicates, Chooses, deed, past, resumed}
use Rattle.gr_rules.specs.Goroutines.{Wait, Status, ready, waiting, finished, Goroutine}
use Rattle.gr_rules.specs.States.{Run, live, ended, faulted, Cell, run_has, go_has, gate_has, tail_has, head_has, slot_has, State, call_of, look}
use Rattle.gr_rules.specs.Limits.{most_places, most_counts, greatest_count}
use Rattle.gr_rules.specs.History.{sends, receives}
use Rattle.gr_base.specs.declared.objects.Object.{Object}
use Rattle.gr_rules.specs.Attempts.{unsound, Refusal, Operation, sends_on, receives_from, takes_len_of, takes_cap_of, closes, Report, Attempt, refuse, perform, ask, ask_run, ask_go, ask_gate, ask_tail, ask_head, ask_slot, ask_room, ask_item, if_there, room_for}
use Rattle.gr_rules.specs.Actors.{Actor, onward, does, simply, fault, given, if_gives, without, clause_at, channels_but, if_waiting, ask_waiter, ask_withdrawn, met, ask_met}
use Rattle.gr_rules.specs.Communications.{proceeds, send_to, send, take, receive_from, receive, communicate, all_waits, ask_enqueued, wait, proceed_or_wait, once, ask_waiters, close_open, close}
use Rattle.gr_rules.specs.Selects.{values_of, ask_ready, if_none_ready, pick, default_from, numbered, default, park, choose}
use Rattle.gr_rules.specs.Steps.{is_deepest, enter, finish, leave, child, if_absent, go, new_channel, make, counted, take_len, take_cap, act, act_by, act_in, if_ready, if_known, if_live, attempt}

abbrev pub faulty : Kind → Bool
faulty kind = elim kind [ kinds.Fault e ↦ true | _ ↦ false ]

-- a step that did this with a channel has a kind for it, or is a fault
abbrev pub Fits : Kind → Option Operation → Type 0
Fits k (Some (sends_on c)) = (sends k || faulty k) ≡ true
Fits k (Some (receives_from c)) = (receives k || faulty k) ≡ true
Fits k (Some (takes_len_of c)) = Unit {0}
Fits k (Some (takes_cap_of c)) = Unit {0}
Fits k (Some (closes c)) = Unit {0}
Fits k None = Unit {0}

-- a step that picked a clause sent or received
abbrev pub Picked : Kind → Option ℕ → Type 0
Picked k None = Unit {0}
Picked k (Some i) = (sends k || receives k) ≡ true

pub record IsTold (r : Report) : Type 0 where
  pub operation : Fits r.deed r.operation
  pub clause : Picked r.deed r.clause

-- whatever it is told, the report of the step to which an attempt comes is so
pub data Told : Attempt → Type 0 where
  refuses : {why : Refusal} → Told (refuse why)
  performs : {report : Report} {cells : List Cell} → IsTold report → Told (perform report cells)
  asks : {o : Object} {f : Cell → Attempt} → ((x : Cell) → Told (f x)) → Told (ask o f)

pub told_of : (s : State) (a : Attempt) → Told a → (r : Report) (cells : List Cell) → leaf s a ≡ performed r cells → IsTold r
told_of s (refuse why) refuses r cells e = absurd (let none : refused why ≡ performed r cells = e in cc)
told_of s (perform report written) (performs t) r cells e = subst IsTold (performed_is report r written cells e) t
  where
    performed_is : (a b : Report) (xs ys : List Cell) → performed a xs ≡ performed b ys → a ≡ b
    performed_is a b xs ys e = cc
told_of s (ask o f) (asks t) r cells e = told_of s (f (look s o)) (t (look s o)) r cells e

-- each way of asking
run_told : (k : Run → Attempt) → ((r : Run) → Told (k r)) → Told (ask_run k)
run_told k h = asks by
  where
    by : (x : Cell) → Told (elim x [ run_has r ↦ k r | _ ↦ refuse unsound ])
    by (run_has r) = h r
    by (go_has g y) = refuses
    by (gate_has d y) = refuses
    by (tail_has d n) = refuses
    by (head_has d n) = refuses
    by (slot_has d j y) = refuses

go_told : (name : List ℕ) (k : Option Goroutine → Attempt) → ((g : Option Goroutine) → Told (k g)) → Told (ask_go name k)
go_told name k h = asks by
  where
    by : (x : Cell) → Told (elim x [ go_has g y ↦ k y | _ ↦ refuse unsound ])
    by (run_has r) = refuses
    by (go_has g y) = h y
    by (gate_has d y) = refuses
    by (tail_has d n) = refuses
    by (head_has d n) = refuses
    by (slot_has d j y) = refuses

tail_told : (c : ChName) (k : ℕ → Attempt) → ((n : ℕ) → Told (k n)) → Told (ask_tail c k)
tail_told c k h = asks by
  where
    by : (x : Cell) → Told (elim x [ tail_has d n ↦ k n | _ ↦ refuse unsound ])
    by (run_has r) = refuses
    by (go_has g y) = refuses
    by (gate_has d y) = refuses
    by (tail_has d n) = h n
    by (head_has d n) = refuses
    by (slot_has d j y) = refuses

head_told : (c : ChName) (k : ℕ → Attempt) → ((n : ℕ) → Told (k n)) → Told (ask_head c k)
head_told c k h = asks by
  where
    by : (x : Cell) → Told (elim x [ head_has d n ↦ k n | _ ↦ refuse unsound ])
    by (run_has r) = refuses
    by (go_has g y) = refuses
    by (gate_has d y) = refuses
    by (tail_has d n) = refuses
    by (head_has d n) = h n
    by (slot_has d j y) = refuses

slot_told : (c : ChName) (i : ℕ) (k : Option (ℕ × Value) → Attempt) → ((y : Option (ℕ × Value)) → Told (k y)) → Told (ask_slot c i k)
slot_told c i k h = asks by
  where
    by : (x : Cell) → Told (elim x [ slot_has d j y ↦ k y | _ ↦ refuse unsound ])
    by (run_has r) = refuses
    by (go_has g y) = refuses
    by (gate_has d y) = refuses
    by (tail_has d n) = refuses
    by (head_has d n) = refuses
    by (slot_has d j y) = h y

there_told : {A : Type 0} (k : A → Attempt) → ((y : A) → Told (k y)) → (o : Option A) → Told (if_there k o)
there_told k h (Some y) = h y
there_told k h None = refuses

gate_told : (c : ChName) (k : GateContent → Attempt) → ((g : GateContent) → Told (k g)) → Told (ask_gate c k)
gate_told c k h = asks by
  where
    by : (x : Cell) → Told (elim x [ gate_has d y ↦ if_there k y | _ ↦ refuse unsound ])
    by (run_has r) = refuses
    by (go_has g y) = refuses
    by (gate_has d y) = there_told k h y
    by (tail_has d n) = refuses
    by (head_has d n) = refuses
    by (slot_has d j y) = refuses

if_told : (b : Bool) (x y : Attempt) → Told x → Told y → Told (if b then x else y)
if_told true x y h k = h
if_told false x y h k = k

room_told : (c : ChName) (gate : GateContent) (k : Option ℕ → Attempt) → ((n : Option ℕ) → Told (k n)) → Told (ask_room c gate k)
room_told c gate k h = tail_told c _ (λ n. if_told (gate.capacity == 0) (k None) (ask_slot c (n % gate.capacity) (λ item. k (room_for n item))) (h None)
    (slot_told c (n % gate.capacity) _ (λ item. h (room_for n item))))

item_told : (c : ChName) (gate : GateContent) (k : Option (ℕ × Value) → Attempt) → ((y : Option (ℕ × Value)) → Told (k y)) → Told (ask_item c gate k)
item_told c gate k h = head_told c _ (λ n. if_told (gate.capacity == 0) (k None) (ask_slot c (n % gate.capacity) (λ item. k (option_map (λ x. (n, x.1)) item))) (h None)
    (slot_told c (n % gate.capacity) _ (λ item. h (option_map (λ x. (n, x.1)) item))))

withdrawn_told : (names : List (List ℕ)) (cs : List ChName) (k : List Cell → Attempt) → ((cells : List Cell) → Told (k cells)) → Told (ask_withdrawn names cs k)
withdrawn_told names [] k h = h []
withdrawn_told names (c ∷ cs) k h = gate_told c _ (λ gate. withdrawn_told names cs _ (λ cells. h (gate_has c (Some (without names gate)) ∷ cells)))

waiting_told : (k : List Wait → Attempt) → ((ws : List Wait) → Told (k ws)) → (status : Status) → Told (if_waiting k status)
waiting_told k h ready = refuses
waiting_told k h finished = refuses
waiting_told k h (waiting ws) = h ws

waiter_told : (name : List ℕ) (k : Goroutine → List Wait → Attempt) → ((g : Goroutine) (ws : List Wait) → Told (k g ws)) → Told (ask_waiter name k)
waiter_told name k h = go_told name _ (there_told _ (λ g. waiting_told (k g) (h g) g.status))

gives_told : {A : Type 0} (k : A → Attempt) → ((y : A) → Told (k y)) → (o : Outcome A) → Told (if_gives k o)
gives_told k h (gives y) = h y
gives_told k h (faults e) = refuses
gives_told k h wrong = refuses

met_told : {X : Type 0} (c : ChName) (w : Waiter X) (got : Option (Value × Bool)) (k : List Cell → Attempt) → ((cells : List Cell) → Told (k cells)) → Told (ask_met c w got k)
met_told c w got k h = waiter_told w.go _ (λ g ws. withdrawn_told (w.go ∷ []) (channels_but (c ∷ []) ws) _ (λ cells.
    gives_told _ (λ partner. h (go_has w.go (Some partner) ∷ cells)) (met w.case got g g.frames)))

module _ (a : Actor) where
  does_told : (clause : Option ℕ) (operation : Option Operation) (kind : Kind) (g : Goroutine) (cells : List Cell) → Fits kind operation → Picked kind clause
      → Told (does a clause operation kind g cells)
  does_told clause operation kind g cells fits picked = performs record { operation = fits; clause = picked }

  simply_told : (kind : Kind) (g : Goroutine) (cells : List Cell) → Told (simply a kind g cells)
  simply_told kind g cells = performs record { operation = tt; clause = tt }

  or_true : (b : Bool) → (b || true) ≡ true
  or_true true = refl
  or_true false = refl

  fault_fits : (operation : Option Operation) (e : Fault) → Fits (kinds.Fault e) operation
  fault_fits None e = tt
  fault_fits (Some (sends_on c)) e = refl
  fault_fits (Some (receives_from c)) e = refl
  fault_fits (Some (takes_len_of c)) e = tt
  fault_fits (Some (takes_cap_of c)) e = tt
  fault_fits (Some (closes c)) e = tt

  fault_told : (operation : Option Operation) (e : Fault) → Told (fault a operation e)
  fault_told operation e = performs record { operation = fault_fits operation e; clause = tt }

  given_told : {A : Type 0} (o : Outcome A) (k : A → Attempt) → ((x : A) → Told (k x)) → Told (given a o k)
  given_told (gives x) k h = h x
  given_told (faults e) k h = fault_told None e
  given_told wrong k h = refuses

  picked : (kind : Kind) (clause : Option ℕ) → (sends kind || receives kind) ≡ true → Picked kind clause
  picked kind None e = tt
  picked kind (Some i) e = e

  proceeds_told : (clause : Option ℕ) (operation : Operation) (kind : Kind) (got : Option (Value × Bool)) (cells : List Cell)
      → Fits kind (Some operation) → (sends kind || receives kind) ≡ true → Told (proceeds a clause operation kind got cells)
  proceeds_told clause operation kind got cells fits does_so =
      given_told (past a.frame clause got) _ (λ f. does_told clause (Some operation) kind (onward a f) cells fits (picked kind clause does_so))

  send_to_told : (clause : Option ℕ) (c : ChName) (gate : GateContent) (v : Value) (otherwise : Attempt) (ws : List (Waiter (Unit {0}))) → Told otherwise
      → Told (send_to a clause c gate v otherwise ws)
  send_to_told clause c gate v otherwise (w ∷ ws) h = met_told c w (Some (v, true)) _ (λ cells. proceeds_told clause (sends_on c) Hand None (gate_has c (Some (without (w.go ∷ []) gate)) ∷ cells) refl refl)
  send_to_told clause c gate v otherwise [] h = room_told c gate _ by
    where
      by : (room : Option ℕ) → Told (elim room [
        | Some n ↦ proceeds a clause (sends_on c) Buffer None (tail_has c (n + 1) ∷ slot_has c (n % gate.capacity) (Some (n, v)) ∷ [])
        | None ↦ otherwise
      ])
      by (Some n) = proceeds_told clause (sends_on c) Buffer None _ refl refl
      by None = h

  send_told : (clause : Option ℕ) (c : ChName) (v : Value) (otherwise : Attempt) → Told otherwise → Told (send a clause c v otherwise)
  send_told clause c v otherwise h = gate_told c _ (λ gate.
      if_told gate.closed (fault a (Some (sends_on c)) SendOnClosed) (send_to a clause c gate v otherwise gate.receivers) (fault_told (Some (sends_on c)) SendOnClosed)
      (send_to_told clause c gate v otherwise gate.receivers h))

  take_told : (clause : Option ℕ) (c : ChName) (gate : GateContent) (item : ℕ × Value) (ws : List (Waiter Value)) → Told (take a clause c gate item ws)
  take_told clause c gate item [] = proceeds_told clause (receives_from c) Take _ _ refl refl
  take_told clause c gate item (w ∷ ws) = tail_told c _ (λ n. met_told c w None _ (λ cells. proceeds_told clause (receives_from c) Take (Some (item.1, true)) (
      gate_has c (Some (without (w.go ∷ []) gate)) ∷ head_has c (item.0 + 1) ∷ tail_has c (n + 1)
      ∷ slot_has c (item.0 % gate.capacity) (Some (n, w.value)) ∷ cells) refl refl))

  receive_from_told : (clause : Option ℕ) (c : ChName) (gate : GateContent) (nothing : Value) (otherwise : Attempt) (item : Option (ℕ × Value)) (ws : List (Waiter Value))
      → Told otherwise → Told (receive_from a clause c gate nothing otherwise item ws)
  receive_from_told clause c gate nothing otherwise (Some item) ws h = take_told clause c gate item ws
  receive_from_told clause c gate nothing otherwise None (w ∷ ws) h = met_told c w None _ (λ cells. proceeds_told clause (receives_from c) Meet (Some (w.value, true)) (gate_has c (Some (without (w.go ∷ []) gate)) ∷ cells) refl refl)
  receive_from_told clause c gate nothing otherwise None [] h =
      if_told gate.closed (proceeds a clause (receives_from c) kinds.Closed (Some (nothing, false)) []) otherwise
      (proceeds_told clause (receives_from c) kinds.Closed _ _ refl refl) h

  receive_told : (clause : Option ℕ) (c : ChName) (nothing : Value) (otherwise : Attempt) → Told otherwise → Told (receive a clause c nothing otherwise)
  receive_told clause c nothing otherwise h =
      gate_told c _ (λ gate. item_told c gate _ (λ item. receive_from_told clause c gate nothing otherwise item gate.senders h))

  communicate_told : (clause : Option ℕ) (x : Communication) (otherwise : Attempt) → Told otherwise → Told (communicate a clause x otherwise)
  communicate_told clause (Sending (Some c) (gives v)) otherwise h = send_told clause c v otherwise h
  communicate_told clause (Sending (Some c) (faults f)) otherwise h = refuses
  communicate_told clause (Sending (Some c) wrong) otherwise h = refuses
  communicate_told clause (Sending None v) otherwise h = h
  communicate_told clause (Receiving (Some c) nothing) otherwise h = receive_told clause c nothing otherwise h
  communicate_told clause (Receiving None nothing) otherwise h = h
  communicate_told clause Otherwise otherwise h = h

  enqueued_told : (name : List ℕ) (ws : List (Option ℕ × Communication)) (cs : List ChName) (k : List Cell → Attempt) → ((cells : List Cell) → Told (k cells))
      → Told (ask_enqueued name ws cs k)
  enqueued_told name ws [] k h = h []
  enqueued_told name ws (c ∷ cs) k h = gate_told c _ (λ gate. enqueued_told name ws cs _ (λ cells. h (_ ∷ cells)))

  wait_told : (operation : Option Operation) (kind : Kind) (ws : List (Option ℕ × Communication)) → Fits kind operation → Told (wait a operation kind ws)
  wait_told operation kind ws fits =
      enqueued_told a.name ws (channels_but [] (all_waits ws)) _ (λ cells. does_told None operation kind _ cells fits tt)

  sends_fit : (c : Option ChName) → Fits SendWait (option_map sends_on c)
  sends_fit None = tt
  sends_fit (Some c) = refl

  receives_fit : (c : Option ChName) → Fits RecvWait (option_map receives_from c)
  receives_fit None = tt
  receives_fit (Some c) = refl

  alone_told : (x : Communication) → Told (proceed_or_wait a x)
  alone_told (Sending c v) = communicate_told None (Sending c v) _ (wait_told (option_map sends_on c) SendWait ((None, Sending c v) ∷ []) (sends_fit c))
  alone_told (Receiving c nothing) = communicate_told None (Receiving c nothing) _ (wait_told (option_map receives_from c) RecvWait ((None, Receiving c nothing) ∷ []) (receives_fit c))
  alone_told Otherwise = refuses

  waiters_told : (names : List (List ℕ)) (k : List (List ℕ × Goroutine × List Wait) → Attempt) → ((ws : List (List ℕ × Goroutine × List Wait)) → Told (k ws))
      → Told (ask_waiters names k)
  waiters_told [] k h = h []
  waiters_told (n ∷ ns) k h = waiter_told n _ (λ g ws. waiters_told ns _ (λ others. h ((n, g, ws) ∷ others)))

  close_told : (c : Option ChName) → Told (close a c)
  close_told None = fault_told None CloseOfNil
  close_told (Some c) = gate_told c _ (λ gate.
      let names = once (map (λ w. w.go) gate.senders ++ map (λ w. w.go) gate.receivers) in
      if_told gate.closed (fault a (Some (closes c)) CloseOfClosed) (close_open a c gate names) (fault_told (Some (closes c)) CloseOfClosed)
      (waiters_told names _ (λ ws. withdrawn_told names (channels_but (c ∷ []) (flat_map (λ w. w.2) ws)) _ (λ cells. does_told None (Some (closes c)) kinds.Close _ _ tt tt))))

  ready_told : (x : Communication) (k : Bool → Attempt) → ((b : Bool) → Told (k b)) → Told (ask_ready x k)
  ready_told (Sending (Some c) v) k h = gate_told c _ (λ gate. room_told c gate _ (λ room. h (gate.closed || has_any gate.receivers || is_some room)))
  ready_told (Sending None v) k h = h false
  ready_told (Receiving (Some c) nothing) k h = gate_told c _ (λ gate. item_told c gate _ (λ item. h (gate.closed || has_any gate.senders || is_some item)))
  ready_told (Receiving None nothing) k h = h false
  ready_told Otherwise k h = h false

  none_ready_told : (cs : List Communication) (then_this : Attempt) → Told then_this → Told (if_none_ready cs then_this)
  none_ready_told [] then_this h = h
  none_ready_told (c ∷ cs) then_this h = ready_told c _ (λ b. if_told b _ (if_none_ready cs then_this) refuses (none_ready_told cs then_this h))

  pick_told : (i : ℕ) (vs : Outcome (List Value)) (c : Option Communication) → Told (pick a i vs c)
  pick_told i vs None = refuses
  pick_told i (gives vs) (Some c) = communicate_told (Some i) c _ refuses
  pick_told i (faults e) (Some c) = ready_told c _ (λ b. if_told b (fault a None e) _ (fault_told None e) refuses)
  pick_told i wrong (Some c) = refuses

  default_told : (cs : List Communication) (i : Option ℕ) → Told (default a cs i)
  default_told cs (Some i) = none_ready_told cs _ (given_told (values_of cs) _ (λ vs. given_told (past a.frame (Some i) None) _ (λ f. simply_told kinds.Default (onward a f) [])))
  default_told cs None = refuses

  park_told : (cs : List Communication) (i : Option ℕ) → Told (park a cs i)
  park_told cs (Some i) = refuses
  park_told cs None = none_ready_told cs _ (given_told (values_of cs) _ (λ vs. wait_told None SelectWait (numbered 1 cs) tt))

  choose_told : (cs : List Communication) (choice : Choice) → Told (choose a cs choice)
  choose_told cs choices.Plain = refuses
  choose_told cs (choices.Pick i) = pick_told i (values_of cs) (clause_at cs i)
  choose_told cs choices.Default = default_told cs (default_from 1 cs)
  choose_told cs choices.Park = park_told cs (default_from 1 cs)

  enter_told : (function : ℕ) (vs : List Value) → Told (enter a function vs)
  enter_told function vs =
      if_told (is_deepest a.before.frames) (fault a None CallDepth) _ (fault_told None CallDepth) (given_told (call_of a.program function vs) _ (λ f. simply_told kinds.Call _ []))

  finish_told : (name : List ℕ) → Told (finish a name)
  finish_told [] = simply_told kinds.Exit _ _
  finish_told (n ∷ ns) = simply_told kinds.Return _ _

  leave_told : (v : Value) (below : List Frame) → Told (leave a v below)
  leave_told v [] = finish_told a.name
  leave_told v (f ∷ fs) = given_told (resumed f v) _ (λ f. simply_told kinds.Return _ [])

  absent_told : (then_this : Attempt) → Told then_this → (g : Option Goroutine) → Told (if_absent then_this g)
  absent_told then_this h None = h
  absent_told then_this h (Some g) = refuses

  start_told : (function : ℕ) (vs : List Value) → Told (go a function vs)
  start_told function vs =
      if_told (nat_le most_counts (length a.name)) (fault a None NameDepth) _ (fault_told None NameDepth)
      (if_told (nat_le greatest_count a.before.children) (fault a None NameCount) _ (fault_told None NameCount)
      (go_told (child a) _ (absent_told _ (given_told (call_of a.program function vs) _ (λ f. simply_told kinds.Go _ _)))))

  make_told : (n : ℤ) → Told (make a n)
  make_told (negsuc n) = fault_told None BadSize
  make_told (pos n) =
      if_told (nat_le (most_places + 1) n) (fault a None BadSize) _ (fault_told None BadSize)
      (if_told (nat_le greatest_count a.before.channels) (fault a None NameCount) _ (fault_told None NameCount)
      (given_told (resumed a.frame (values.Chan (Some (new_channel a)))) _ (λ f. simply_told kinds.Make _ _)))

  counted_told : (operation : Option Operation) (n : ℕ) → Fits kinds.Length operation → Told (counted a operation n)
  counted_told operation n fits = given_told (resumed a.frame (values.Int (pos n))) _ (λ f. does_told None operation kinds.Length (onward a f) [] fits tt)

  len_told : (c : Option ChName) → Told (take_len a c)
  len_told None = counted_told None 0 tt
  len_told (Some c) = gate_told c _ (λ gate. head_told c _ (λ left. tail_told c _ (λ entered. counted_told (Some (takes_len_of c)) _ tt)))

  cap_told : (c : Option ChName) → Told (take_cap a c)
  cap_told None = counted_told None 0 tt
  cap_told (Some c) = gate_told c _ (λ gate. counted_told (Some (takes_cap_of c)) gate.capacity tt)

  act_told : (d : Deed) → Told (act a d)
  act_told (Moves on) = simply_told kinds.Pure (onward a on) []
  act_told (Prints line) = performs record { operation = tt; clause = tt }
  act_told (Enters function vs) = enter_told function vs
  act_told (Leaves v) = leave_told v a.below
  act_told (Starts function vs) = start_told function vs
  act_told (Makes n) = make_told n
  act_told (TakesLen c) = len_told c
  act_told (TakesCap c) = cap_told c
  act_told (Communicates c) = alone_told c
  act_told (Closes c) = close_told c
  act_told (Chooses cs) = refuses

  plain_told : (choice : Choice) (d : Deed) → Told (act_by a choice (gives d))
  plain_told choice (Chooses cs) = choose_told cs choice
  plain_told choices.Plain d = act_told d
  plain_told _ d = refuses

  by_told : (choice : Choice) (d : Outcome Deed) → Told (act_by a choice d)
  by_told choice (gives d) = plain_told choice d
  by_told choices.Plain (faults e) = fault_told None e
  by_told choices.Plain wrong = refuses
  by_told _ d = refuses

in_told : (p : Program) (e : Event) (g : Goroutine) (fs : List Frame) → Told (act_in p e g fs)
in_told p e g [] = refuses
in_told p e g (f ∷ fs) =
    let a : Actor = record { program = p; name = e.go; before = g; frame = f; below = fs } in
    by_told a e.choice (deed f)

ready_is_told : (p : Program) (e : Event) (g : Goroutine) (status : Status) → Told (if_ready p e g status)
ready_is_told p e g finished = refuses
ready_is_told p e g (waiting ws) = refuses
ready_is_told p e g ready = in_told p e g g.frames

known_told : (p : Program) (e : Event) (g : Option Goroutine) → Told (if_known p e g)
known_told p e None = refuses
known_told p e (Some g) = ready_is_told p e g g.status

live_told : (then_this : Attempt) → Told then_this → (r : Run) → Told (if_live then_this r)
live_told then_this h live = h
live_told then_this h ended = refuses
live_told then_this h (faulted e) = refuses

pub attempt_told : (p : Program) (e : Event) → Told (attempt p e)
attempt_told p e = run_told _ (live_told _ (go_told e.go _ (known_told p e)))
