-- What a step reads and writes: a table by its kind, and by what it did with a channel. The rules touch exactly this.
use Rattle.std.specs.Prelude.{◌≡◌, ◌↔◌, ℕ, zero, suc, ◌+◌, ◌%◌, List, [], ◌∷◌, ◌++◌, map, take, Option, Some, None}
use Rattle.std.specs.List.{flat_map}
use Rattle.std.specs.Option.{option_map_or}
use Rattle.gr_base.specs.declared.names.ChName.{ChName}
use Rattle.gr_base.specs.declared.events.Choice.{Choice}
use Rattle.gr_base.specs.declared.events.Choice.TheVariants as choices
use Rattle.gr_base.specs.declared.events.Event.{Event}
use Rattle.gr_base.specs.declared.kinds.Kind.{Kind}
use Rattle.gr_base.specs.declared.kinds.Kind.TheVariants as kinds
use Rattle.gr_base.specs.declared.objects.Object.{Object}
use Rattle.gr_base.specs.declared.objects.Object.TheVariants.{Run, Go, Gate, Tail, Head, Slot}
use Rattle.gr_causal.specs.Sequences.{In}
use Rattle.gr_causal.specs.Rules.{Note}
use Rattle.gr_channels.specs.Objects.{GateContent}
use Rattle.gr_rules.specs.Outcomes.{Outcome, gives}
use Rattle.gr_rules.specs.Frames.{Frame}
use Rattle.gr_rules.specs.Deeds.{Communication, Sending, Receiving, Deed, Chooses, deed}
use Rattle.gr_rules.specs.Goroutines.{Wait, waiting, Goroutine}
use Rattle.gr_rules.specs.States.{State}
use Rattle.gr_rules.specs.Attempts.{Operation, sends_on, receives_from, takes_len_of, takes_cap_of, closes, Report}
use Rattle.gr_rules.specs.Actors.{channels_but, clause_at}
use Rattle.gr_rules.specs.Selects.{numbered}
use Rattle.gr_rules.specs.Communications.{all_waits, once}

-- a written object counts as read
pub record Touches : Type 0 where
  pub reads : List Object
  pub writes : List Object

abbrev pub touches : List Object → List Object → Touches
touches reads writes = record { reads = reads; writes = writes }

-- who waits to send and to receive on a channel, and its capacity
abbrev pub senders_at : Option GateContent → List (List ℕ)
senders_at o = option_map_or (λ gate. map (λ w. w.go) gate.senders) o []

abbrev pub receivers_at : Option GateContent → List (List ℕ)
receivers_at o = option_map_or (λ gate. map (λ w. w.go) gate.receivers) o []

abbrev pub capacity_at : Option GateContent → ℕ
capacity_at o = option_map_or (λ gate. gate.capacity) o 0

-- the slot of a number; there is none at capacity 0
abbrev pub slot_numbered : ChName → ℕ → ℕ → List Object
slot_numbered c zero n = []
slot_numbered c (suc k) n = Slot c (n % suc k) ∷ []

abbrev pub slot_at_tail : State → ChName → List Object
slot_at_tail s c = slot_numbered c (capacity_at (s.gates c)) (s.tails c)

abbrev pub slot_at_head : State → ChName → List Object
slot_at_head s c = slot_numbered c (capacity_at (s.gates c)) (s.heads c)

abbrev pub waits_at : Option Goroutine → List Wait
waits_at None = []
waits_at (Some g) = elim g.status [ waiting ws ↦ ws | _ ↦ [] ]

-- goroutines that waited on the channel, and the gates of the other channels on which they waited
abbrev pub woken : State → ChName → List (List ℕ) → List Object
woken s c names = map Go names ++ map Gate (channels_but (c ∷ []) (flat_map (λ name. waits_at (s.goroutines name)) names))

-- what a wait looks at
abbrev pub send_side : State → ChName → List Object
send_side s c = Gate c ∷ Tail c ∷ slot_at_tail s c

abbrev pub receive_side : State → ChName → List Object
receive_side s c = Gate c ∷ Head c ∷ slot_at_head s c

abbrev pub side : State → Communication → List Object
side s (Sending (Some c) v) = send_side s c
side s (Receiving (Some c) initial) = receive_side s c
side s _ = []

-- a receive from the buffer, by who waits to send
abbrev pub taken : State → ChName → List (List ℕ) → Touches
taken s c [] = touches (Gate c ∷ []) (Head c ∷ slot_at_head s c)
taken s c (n ∷ ns) = touches [] (Gate c ∷ Head c ∷ Tail c ∷ slot_at_head s c ++ woken s c (n ∷ []))

abbrev pub with_channel : State → Operation → Kind → Touches
with_channel s (sends_on c) kinds.Hand = touches [] (Gate c ∷ woken s c (take 1 (receivers_at (s.gates c))))
with_channel s (sends_on c) kinds.Buffer = touches (Gate c ∷ []) (Tail c ∷ slot_at_tail s c)
with_channel s (sends_on c) kinds.SendWait = touches (send_side s c) (Gate c ∷ [])
with_channel s (receives_from c) kinds.Take = taken s c (senders_at (s.gates c))
with_channel s (receives_from c) kinds.Meet = touches (receive_side s c) (Gate c ∷ woken s c (take 1 (senders_at (s.gates c))))
with_channel s (receives_from c) kinds.Closed = touches (receive_side s c) []
with_channel s (receives_from c) kinds.RecvWait = touches (receive_side s c) (Gate c ∷ [])
with_channel s (takes_len_of c) kinds.Length = touches (Gate c ∷ Head c ∷ Tail c ∷ []) []
with_channel s (takes_cap_of c) kinds.Length = touches (Gate c ∷ []) []
with_channel s (closes c) kinds.Close = touches [] (Gate c ∷ woken s c (once (senders_at (s.gates c) ++ receivers_at (s.gates c))))
with_channel s (sends_on c) (kinds.Fault e) = touches (Gate c ∷ []) (Run ∷ [])
with_channel s (closes c) (kinds.Fault e) = touches (Gate c ∷ []) (Run ∷ [])
with_channel s _ _ = touches [] []

-- the clauses of the select at which a goroutine stands, if it does
abbrev pub clauses_by : Outcome Deed → List Communication
clauses_by d = elim d [ gives (Chooses cs) ↦ cs | _ ↦ [] ]

abbrev pub clauses_in : List Frame → List Communication
clauses_in fs = elim fs [ [] ↦ [] | f ∷ below ↦ clauses_by (deed f) ]

-- the clauses that a choice looks at
abbrev pub looked_at : Choice → List Communication → List Communication
looked_at (choices.Pick i) cs = elim (clause_at cs i) [ Some c ↦ c ∷ [] | None ↦ [] ]
looked_at _ cs = cs

abbrev pub without_channel : State → Event → Goroutine → Kind → Touches
without_channel s e g kinds.Go = touches [] (Go (e.go ++ (g.children + 1) ∷ []) ∷ [])
without_channel s e g kinds.Make = touches [] (Gate (record { go = e.go; n = g.channels + 1 }) ∷ [])
without_channel s e g kinds.Default = touches (flat_map (side s) (clauses_in g.frames)) []
without_channel s e g kinds.SelectWait =
    touches (flat_map (side s) (clauses_in g.frames)) (map Gate (channels_but [] (all_waits (numbered 1 (clauses_in g.frames)))))
without_channel s e g kinds.Exit = touches [] (Run ∷ [])
without_channel s e g (kinds.Fault f) = touches (flat_map (side s) (looked_at e.choice (clauses_in g.frames))) (Run ∷ [])
without_channel s e g _ = touches [] []

abbrev pub row : State → Event → Report → Option Goroutine → Option Operation → Touches
row s e r g (Some operation) = with_channel s operation r.deed
row s e r (Some g) None = without_channel s e g r.deed
row s e r None None = touches [] []

-- every step reads `Run` and writes its own goroutine
abbrev pub and_always : Event → Touches → Touches
and_always e t = touches (Run ∷ t.reads) (Go e.go ∷ t.writes)

-- the table's row for a step of an event from a state
abbrev pub table : State → Event → Report → Touches
table s e r = and_always e (row s e r (s.goroutines e.go) r.operation)

-- the step wrote what the table says, and touched no other objects than the table's, and all of these
pub record AsTheTable (s : State) (e : Event) (n : Note Object Report) : Type 0 where
  pub written : n.writes ≡ (table s e n.kind).writes
  pub touched : (o : Object) → In o (n.reads ++ n.writes) ↔ In o ((table s e n.kind).reads ++ (table s e n.kind).writes)
