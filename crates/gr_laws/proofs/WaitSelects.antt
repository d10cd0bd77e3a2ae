-- A select leaves goroutines in the queues of what they wait for, and changes all that it writes.
use Rattle.std.proofs.Common.{ℕ, ◌+◌, if◌then◌else◌, ◌||◌, Bool, false, List, [], ◌∷◌, is_some, Option, Some, None, refl}
use Rattle.std.specs.List.{AllByRecursion}
use Rattle.gr_base.specs.declared.values.Value.{Value}
use Rattle.gr_base.specs.declared.events.Choice.{Choice}
use Rattle.gr_base.specs.declared.events.Choice.TheVariants as choices
use Rattle.gr_base.specs.declared.kinds.Kind.TheVariants.{SelectWait}
use Rattle.gr_channels.specs.Objects.{has_any}
use Rattle.gr_rules.specs.Outcomes.{Outcome, gives, faults, wrong}
use Rattle.gr_rules.specs.Deeds.{Communication, Sending, Receiving, Otherwise, past}
use Rattle.gr_rules.specs.Attempts.{no_such_choice, Attempt, refuse}
use Rattle.gr_rules.specs.Actors.{Actor, fault, given, clause_at}
use Rattle.gr_rules.specs.States.{State}
use Rattle.gr_rules.specs.Communications.{wait}
use Rattle.gr_rules.specs.Selects.{values_of, ask_ready, if_none_ready, pick, default_from, numbered, default, park, choose}
use Rattle.gr_laws.proofs.WaitLemmas.{Known, known_values}
use Rattle.gr_laws.proofs.QueueLemmas.{numbers_once}
use Rattle.gr_laws.proofs.WaitAttempts.{K, Acts, refused, if_keeps, gate_keeps, room_keeps, item_keeps, stays, does_keeps, fault_keeps, given_keeps}
use Rattle.gr_laws.proofs.WaitCommunications.{communicate_keeps, wait_keeps}

known_numbered : (i : ℕ) (cs : List Communication) → AllByRecursion Known cs → AllByRecursion (λ (w : Option ℕ × Communication). Known w.1) (numbered i cs)
known_numbered i [] h = tt
known_numbered i (c ∷ cs) h = (h.0, known_numbered (i + 1) cs h.1)

module _ {s : State} {a : Actor} (acts : Acts s a) where
  ready_keeps : (x : Communication) (k : Bool → Attempt) → ((b : Bool) → K s (k b)) → K s (ask_ready x k)
  ready_keeps (Sending (Some c) v) k h = gate_keeps (λ gate at. room_keeps c gate (λ room. k (gate.closed || has_any gate.receivers || is_some room)) (h _) (λ q. h _))
  ready_keeps (Sending None v) k h = h false
  ready_keeps (Receiving (Some c) initial) k h = gate_keeps (λ gate at. item_keeps c gate (λ item. k (gate.closed || has_any gate.senders || is_some item)) (h _) (λ n v q. h _))
  ready_keeps (Receiving None initial) k h = h false
  ready_keeps Otherwise k h = h false

  none_ready_keeps : (cs : List Communication) (x : Attempt) → K s x → K s (if_none_ready cs x)
  none_ready_keeps [] x h = h
  none_ready_keeps (c ∷ cs) x h = ready_keeps c (λ b. if b then refuse no_such_choice else if_none_ready cs x) (λ b. if_keeps b refused (λ e. none_ready_keeps cs x h))

  pick_keeps : (i : ℕ) (vs : Outcome (List Value)) (o : Option Communication) → K s (pick a i vs o)
  pick_keeps i vs None = refused
  pick_keeps i (gives vs) (Some c) = communicate_keeps acts (Some i) c (refuse no_such_choice) (λ b. refused)
  pick_keeps i (faults e) (Some c) = ready_keeps c (λ b. if b then fault a None e else refuse no_such_choice) (λ b. if_keeps b (fault_keeps acts None e) (λ t. refused))
  pick_keeps i wrong (Some c) = refused

  default_keeps : (cs : List Communication) (o : Option ℕ) → K s (default a cs o)
  default_keeps cs (Some i) = none_ready_keeps cs _ (given_keeps acts (values_of cs)
      (λ vs e. given_keeps acts (past a.frame (Some i) None) (λ f e. does_keeps acts (stays acts f) refl tt)))
  default_keeps cs None = refused

  park_keeps : (cs : List Communication) (o : Option ℕ) → K s (park a cs o)
  park_keeps cs (Some i) = refused
  park_keeps cs None = none_ready_keeps cs (given a (values_of cs) (λ vs. wait a None SelectWait (numbered 1 cs)))
      (given_keeps acts (values_of cs) (λ vs e. wait_keeps acts None SelectWait (numbered 1 cs) (known_numbered 1 cs (known_values cs vs e)) (numbers_once 1 cs)))

  pub choose_keeps : (cs : List Communication) (x : Choice) → K s (choose a cs x)
  choose_keeps cs choices.Plain = refused
  choose_keeps cs (choices.Pick i) = pick_keeps i (values_of cs) (clause_at cs i)
  choose_keeps cs choices.Default = default_keeps cs (default_from 1 cs)
  choose_keeps cs choices.Park = park_keeps cs (default_from 1 cs)
