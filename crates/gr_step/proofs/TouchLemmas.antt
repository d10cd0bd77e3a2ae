-- What communications touch, as lists.
use Rattle.std.proofs.Common.{◌≡◌, ℕ, zero, suc, ◌%◌, false, List, [], ◌∷◌, ◌++◌, map, Some, refl, sym, ap, ◌∙◌, append-nil}
use Rattle.std.specs.Prelude.{option_map, take}
use Rattle.std.specs.List.{list_any}
use Rattle.gr_base.specs.declared.names.ChName.{ChName}
use Rattle.gr_base.specs.declared.objects.Object.{Object}
use Rattle.gr_base.specs.declared.objects.Object.TheVariants.{Run, Go, Gate, Tail, Head, Slot}
use Rattle.gr_channels.specs.Channels.{Content, tail_of}
use Rattle.gr_channels.specs.declared.waiter.Waiter.{Waiter}
use Rattle.gr_base.specs.declared.values.Value.{Value}
use Rattle.gr_program.specs.Programs.{Program}
use Rattle.gr_rules.specs.Goroutines.{Wait, Status, waiting}
use Rattle.gr_rules.specs.Actors.{channels_but}
use Rattle.gr_rules.specs.States.{same}
use Rattle.gr_rules.specs.Touches.{slot_numbered, slot_at_tail, slot_at_head, waits_at, woken, senders_at, receivers_at}
use Rattle.gr_laws.specs.Touched.{each_once}
use Rattle.gr_code.specs.Goroutines.{CodeGoroutine}
use Rattle.gr_refine.specs.Contents.{Contents, goroutine_of}
use Rattle.gr_refine.proofs.NameLemmas.{channel_self}
use Rattle.gr_record.specs.Listings.{frame_in, state_in}

-- an object of another sort stands among no gates, and among no slots
no_run_gates : (cs : List ChName) → list_any (same Run) (map Gate cs) ≡ false
no_run_gates [] = refl
no_run_gates (c ∷ cs) = no_run_gates cs

no_head_gates : (d : ChName) (cs : List ChName) → list_any (same (Head d)) (map Gate cs) ≡ false
no_head_gates d [] = refl
no_head_gates d (c ∷ cs) = no_head_gates d cs

no_slot_gates : (d : ChName) (k : ℕ) (cs : List ChName) → list_any (same (Slot d k)) (map Gate cs) ≡ false
no_slot_gates d k [] = refl
no_slot_gates d k (c ∷ cs) = no_slot_gates d k cs

no_run_slots : (c : ChName) (capacity number : ℕ) (rest : List Object) → list_any (same Run) (slot_numbered c capacity number ++ rest) ≡ list_any (same Run) rest
no_run_slots c zero number rest = refl
no_run_slots c (suc k) number rest = refl

no_gate_slots : (d c : ChName) (capacity number : ℕ) → list_any (same (Gate d)) (slot_numbered c capacity number) ≡ false
no_gate_slots d c zero number = refl
no_gate_slots d c (suc k) number = refl

-- a goroutine that is met alone
pub woken_one : (p : Program) (s : Contents) (c : ChName) (n : List ℕ) (g : CodeGoroutine) (ws : List Wait) → s.goroutines n ≡ Some g → g.status ≡ waiting ws
    → Go n ∷ map Gate (channels_but (c ∷ []) ws) ≡ woken (state_in p s) c (n ∷ [])
woken_one p s c n g ws there status =
    let waits : waits_at (option_map (goroutine_of (frame_in p)) (s.goroutines n)) ≡ ws = ap (λ o. waits_at (option_map (goroutine_of (frame_in p)) o)) there
    ∙ ap (λ (status : Status). elim status [ waiting ws ↦ ws | _ ↦ [] ]) status in
    ap (λ l. Go n ∷ map Gate (channels_but (c ∷ []) l)) (sym (append-nil (waits_at (option_map (goroutine_of (frame_in p)) (s.goroutines n))) ∙ waits))

module _ (p : Program) (s : Contents) (c : ChName) (x : Content) (there : s.channels c ≡ Some x) where
  -- its queues and slots, as the table has them
  pub first_receiver : (w : Waiter (Unit {0})) (ws : List (Waiter (Unit {0}))) → x.receivers ≡ w ∷ ws
      → take 1 (receivers_at ((state_in p s).gates c)) ≡ w.go ∷ []
  first_receiver w ws is = rw (there, is) refl

  pub first_sender : (w : Waiter Value) (ws : List (Waiter Value)) → x.senders ≡ w ∷ ws
      → take 1 (senders_at ((state_in p s).gates c)) ≡ w.go ∷ []
  first_sender w ws is = rw (there, is) refl

  pub all_senders : (ws : List (Waiter Value)) → x.senders ≡ ws → senders_at ((state_in p s).gates c) ≡ map (λ w. w.go) ws
  all_senders ws is = rw (there, is) refl

  pub tail_slot : slot_at_tail (state_in p s) c ≡ slot_numbered c x.capacity (tail_of x)
  tail_slot = rw there refl

  pub head_slot : slot_at_head (state_in p s) c ≡ slot_numbered c x.capacity x.head
  head_slot = rw there refl

module _ (n : List ℕ) (c : ChName) where
  -- what is read and not written: where a value is handed over
  pub read_of_hand : (m : List ℕ) (cs : List ChName) → Run ∷ [] ≡ each_once (Go n ∷ Gate c ∷ Go m ∷ map Gate cs) (Run ∷ [])
  read_of_hand m cs = rw (no_run_gates cs) refl

  -- what is read and not written where a value enters a buffer, and where one leaves it
  pub read_of_buffer : (capacity number : ℕ) → Run ∷ Gate c ∷ [] ≡ each_once (Go n ∷ Tail c ∷ slot_numbered c capacity number) (Run ∷ Gate c ∷ [])
  read_of_buffer zero number = refl
  read_of_buffer (suc k) number = refl

  pub read_of_take : (capacity number : ℕ) → Run ∷ Gate c ∷ [] ≡ each_once (Go n ∷ Head c ∷ slot_numbered c capacity number) (Run ∷ Gate c ∷ [])
  read_of_take zero number = refl
  read_of_take (suc k) number = refl

  -- what is read and not written where a value leaves the buffer, and a sender's moves up
  pub read_of_move : (capacity number : ℕ) (m : List ℕ) (cs : List ChName)
      → Run ∷ [] ≡ each_once (Go n ∷ Gate c ∷ Head c ∷ Tail c ∷ slot_numbered c capacity number ++ Go m ∷ map Gate cs) (Run ∷ [])
  read_of_move zero number m cs = rw (no_run_gates cs) refl
  read_of_move (suc k) number m cs = rw (no_run_gates cs) refl

  -- what is read and not written where a sender's value is taken
  pub read_of_meet : (capacity number : ℕ) (m : List ℕ) (cs : List ChName)
      → Run ∷ Head c ∷ slot_numbered c capacity number
      ≡ each_once (Go n ∷ Gate c ∷ Go m ∷ map Gate cs) (Run ∷ Gate c ∷ Head c ∷ slot_numbered c capacity number)
  read_of_meet zero number m cs = rw (no_run_gates cs, channel_self c, no_head_gates c cs) refl
  read_of_meet (suc k) number m cs = rw (no_run_gates cs, channel_self c, no_head_gates c cs, no_slot_gates c (number % suc k) cs) refl

  -- what is read and not written where the channel is closed and empty
  pub read_of_end : (capacity number : ℕ) → Run ∷ Gate c ∷ Head c ∷ slot_numbered c capacity number
      ≡ each_once (Go n ∷ []) (Run ∷ Gate c ∷ Head c ∷ slot_numbered c capacity number)
  read_of_end zero number = refl
  read_of_end (suc k) number = refl
