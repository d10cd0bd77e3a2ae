-- A select leaves a sound state sound.
use Rattle.std.proofs.Common.{◌≡◌, ℕ, ◌+◌, if◌then◌else◌, arith, ◌||◌, Bool, true, false, List, [], ◌∷◌, is_some, Option, Some, None}
use Rattle.gr_base.specs.declared.values.Value.{Value}
use Rattle.gr_base.specs.declared.events.Choice.{Choice}
use Rattle.gr_base.specs.declared.events.Choice.TheVariants as choices
use Rattle.gr_base.specs.declared.kinds.Kind.TheVariants.{SelectWait}
use Rattle.std.proofs.lemmas.Bool.{or_parts}
use Rattle.gr_channels.specs.Objects.{has_any}
use Rattle.gr_rules.specs.Outcomes.{Outcome, gives, faults, wrong}
use Rattle.gr_rules.specs.Deeds.{Communication, Sending, Receiving, Otherwise, past}
use Rattle.gr_rules.specs.States.{State}
use Rattle.gr_rules.specs.Attempts.{no_such_choice, Attempt, refuse}
use Rattle.gr_rules.specs.Actors.{Actor, fault, given, clause_at}
use Rattle.gr_rules.specs.Communications.{wait}
use Rattle.gr_rules.specs.Selects.{values_of, ask_ready, if_none_ready, pick, default_from, numbered, default, park, choose}
use Rattle.gr_laws.specs.Soundness.{Sound}
use Rattle.gr_laws.proofs.SoundLemmas.{K, refused, if_keeps, gate_keeps, room_keeps, item_keeps, does_keeps, fault_keeps, given_keeps}
use Rattle.gr_laws.proofs.SoundCommunications.{Blocked, AllBlocked, communicate_keeps, wait_keeps}

module _ (s : State) (sound : Sound s) (a : Actor) (here : s.goroutines a.name ≡ Some a.before) where
  abbrev G : Attempt → Type 0
  G = K s sound

  ready_keeps : (x : Communication) (k : Bool → Attempt) → ((b : Bool) → (b ≡ false → Blocked s x) → G (k b)) → G (ask_ready x k)
  ready_keeps (Sending (Some c) v) k h = gate_keeps s sound (λ gate at. room_keeps s sound c gate (λ room. k (gate.closed || has_any gate.receivers || is_some room)) at
      (λ full. h _ (λ e. (gate, at, (or_parts gate.closed (has_any gate.receivers) (or_parts (gate.closed || has_any gate.receivers) false e).0).0, full)))
      (λ some q. h _ (λ e. absurd (let f : true ≡ false = (or_parts (gate.closed || has_any gate.receivers) true e).1 in cc))))
  ready_keeps (Sending None v) k h = h false (λ e. tt)
  ready_keeps (Receiving (Some c) initial) k h = gate_keeps s sound (λ gate at. item_keeps s sound c gate (λ item. k (gate.closed || has_any gate.senders || is_some item)) at
      (λ empty. h _ (λ e. (gate, at, (or_parts gate.closed (has_any gate.senders) (or_parts (gate.closed || has_any gate.senders) false e).0).0, empty)))
      (λ n v q. h _ (λ e. absurd (let f : true ≡ false = (or_parts (gate.closed || has_any gate.senders) true e).1 in cc))))
  ready_keeps (Receiving None initial) k h = h false (λ e. tt)
  ready_keeps Otherwise k h = h false (λ e. tt)

  -- none of the clauses can proceed
  abbrev NoneReady : List Communication → Type 0
  NoneReady [] = Unit {0}
  NoneReady (c ∷ cs) = Blocked s c × NoneReady cs

  none_ready_keeps : (cs : List Communication) (x : Attempt) → (NoneReady cs → G x) → G (if_none_ready cs x)
  none_ready_keeps [] x h = h tt
  none_ready_keeps (c ∷ cs) x h = ready_keeps c (λ b. if b then refuse no_such_choice else if_none_ready cs x)
      (λ b q. if_keeps s sound b (λ e. refused s sound) (λ e. none_ready_keeps cs x (λ r. h (q e, r))))

  all_blocked : (i : ℕ) (cs : List Communication) → NoneReady cs → AllBlocked s (numbered i cs)
  all_blocked i [] r = tt
  all_blocked i (c ∷ cs) r = (r.0, all_blocked (i + 1) cs r.1)

  pick_keeps : (i : ℕ) (vs : Outcome (List Value)) (o : Option Communication) → G (pick a i vs o)
  pick_keeps i vs None = refused s sound
  pick_keeps i (gives vs) (Some c) = communicate_keeps s sound a here (Some i) c (refuse no_such_choice) (λ b. refused s sound)
  pick_keeps i (faults e) (Some c) = ready_keeps c (λ b. if b then fault a None e else refuse no_such_choice) (λ b q. if_keeps s sound b (λ t. fault_keeps s sound a here None e) (λ t. refused s sound))
  pick_keeps i wrong (Some c) = refused s sound

  default_keeps : (cs : List Communication) (o : Option ℕ) → G (default a cs o)
  default_keeps cs (Some i) = none_ready_keeps cs _ (λ r. given_keeps s sound a here (values_of cs)
      (λ vs. given_keeps s sound a here (past a.frame (Some i) None) (λ f. does_keeps s sound a here (omega arith) tt)))
  default_keeps cs None = refused s sound

  park_keeps : (cs : List Communication) (o : Option ℕ) → G (park a cs o)
  park_keeps cs (Some i) = refused s sound
  park_keeps cs None = none_ready_keeps cs (given a (values_of cs) (λ vs. wait a None SelectWait (numbered 1 cs)))
      (λ r. given_keeps s sound a here (values_of cs) (λ vs. wait_keeps s sound a here None SelectWait (numbered 1 cs) (all_blocked 1 cs r)))

  pub choose_keeps : (cs : List Communication) (x : Choice) → G (choose a cs x)
  choose_keeps cs choices.Plain = refused s sound
  choose_keeps cs (choices.Pick i) = pick_keeps i (values_of cs) (clause_at cs i)
  choose_keeps cs choices.Default = default_keeps cs (default_from 1 cs)
  choose_keeps cs choices.Park = park_keeps cs (default_from 1 cs)
