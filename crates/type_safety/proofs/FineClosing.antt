-- Closing a channel in a state whose values have sorts: all that wait on it are woken.
use Rattle.std.proofs.Common.{◌≡◌, ℕ, Bool, true, false, if◌then◌else◌, List, [], ◌∷◌, ◌++◌, map, Option, Some, None, refl, sym, ◌∙◌, ap, subst, inl, inr}
use Rattle.std.specs.List.{AllByRecursion, list_any, flat_map}
use Rattle.gr_base.specs.declared.names.ChName.{ChName}
use Rattle.gr_base.specs.declared.kinds.Fault.TheVariants.{CloseOfClosed, CloseOfNil}
use Rattle.gr_causal.specs.Sequences.{In}
use Rattle.gr_causal.proofs.ListLemmas.{In-append_cases, In-of_map}
use Rattle.gr_channels.specs.Objects.{GateContent}
use Rattle.gr_typing.specs.Scopes.{Signature}
use Rattle.gr_rules.specs.Frames.{goes_on}
use Rattle.gr_rules.specs.Goroutines.{Wait, ToSend, ToReceive, channel_of, ready, waiting, Goroutine}
use Rattle.gr_rules.specs.States.{go_has, State, same_go}
use Rattle.gr_rules.specs.Attempts.{Refusal, closes, Attempt}
use Rattle.gr_rules.specs.Actors.{Actor, channels_but}
use Rattle.gr_rules.specs.Communications.{once, ask_waiters, close_open, close}
use Rattle.gr_laws.specs.Soundness.{Stands}
use Rattle.gr_laws.proofs.WaitLemmas.{all_append, some_wait}
use Rattle.type_safety.proofs.Sorts.{Sort, Made}
use Rattle.type_safety.proofs.Running.{SortedFrame, SortedFrames, is_ready, IsMade}
use Rattle.type_safety.proofs.Attempting.{SortedCell}
use Rattle.type_safety.proofs.Promises.{Acting, CloseFine}
use Rattle.type_safety.proofs.FineAttempts.{IsFine, if_fine, gate_fine, goes_fine, fault_fine}
use Rattle.type_safety.proofs.FineMeetings.{standing, Waits, waits_of, waiter, gate_awaited, waiter_fine, withdrawn_fine}

of_once : (ns : List (List ℕ)) (n : List ℕ) → In n (once ns) → In n ns
of_once [] n i = i
of_once (m ∷ ns) n i = by_same (of_once ns n) (list_any (same_go m) ns) i
  where
    by_same : (In n (once ns) → In n ns) → (b : Bool) → In n (if b then once ns else m ∷ once ns) → In n (m ∷ ns)
    by_same ih true i = inr (ih i)
    by_same ih false i = elim i [ inl q ↦ inl q | inr j ↦ inr (ih j) ]

-- a goroutine that stands in a queue of the gate
queued : (c : ChName) (gate : GateContent) (n : List ℕ)
    → In n (once (map (λ w. w.go) gate.senders ++ map (λ w. w.go) gate.receivers))
    → (w : Wait) × (channel_of w ≡ c) × Stands (Some gate) n w
queued c gate n i =
    elim (In-append_cases n (map (λ w. w.go) gate.senders) (map (λ w. w.go) gate.receivers) (of_once _ n i)) [
      | inl j ↦ let x = In-of_map (λ w. w.go) n gate.senders j in (ToSend c x.0.case, refl, (x.0, x.1, sym x.2, refl))
      | inr j ↦
          let x = In-of_map (λ w. w.go) n gate.receivers j in
          (ToReceive c x.0.case, refl, (x.0, x.1, sym x.2, refl))
    ]

-- goroutines that wait, with their waits
abbrev Waiting : State → List ℕ × Goroutine × List Wait → Type 0
Waiting s w = (s.goroutines w.0 ≡ Some w.1) × (w.1.status ≡ waiting w.2)

module _ {fs : List Signature} {made : Made} {s : State} {a : Actor} {k : Sort} (acting : Acting fs made s a k) where
  -- a goroutine that is woken stands at its operation
  woken : (w : List ℕ × Goroutine × List Wait) → Waiting s w
      → SortedCell fs made s (go_has w.0 (Some (record (w.1) { status = ready })))
  woken w h =
      let r = standing fs made w.1.frames w.1.status w.2 h.1 (acting.sorted.goroutines w.0 w.1 h.0) in
      (subst (SortedFrames fs made ready) (sym r.are) (is_ready r.sorted_frame r.sorted_below), w.1, h.0, refl)

  all_woken : (ws : List (List ℕ × Goroutine × List Wait)) → AllByRecursion (Waiting s) ws
      → AllByRecursion (SortedCell fs made s) (map (λ w. go_has w.0 (Some (record (w.1) { status = ready }))) ws)
  all_woken [] h = tt
  all_woken (w ∷ ws) h = (woken w h.0, all_woken ws h.1)

  gate_of_one : (ws : List (List ℕ × Goroutine × List Wait)) (w : Wait) → AllByRecursion (Waiting s) ws
      → In w (flat_map (λ x. x.2) ws) → (gate : GateContent) × (s.gates (channel_of w) ≡ Some gate)
  gate_of_one [] w h i = absurd i
  gate_of_one (x ∷ ws) w h i = elim (In-append_cases w x.2 (flat_map (λ x. x.2) ws) i) [
    | inl j ↦ gate_awaited s acting.waits x.0 w (subst (In w) (sym (waits_of s x.0 x.1 x.2 h.0.0 h.0.1)) j)
    | inr j ↦ gate_of_one ws w h.1 j
  ]

module _ {P : Refusal → Type 0} {fs : List Signature} {made : Made} {s : State} {a : Actor} {k : Sort} (acting : Acting fs made s a k) where
  waiters_fine : (names : List (List ℕ)) (next : List (List ℕ × Goroutine × List Wait) → Attempt)
      → ((n : List ℕ) → In n names → (w : Wait) × Waits s n w)
      → ((ws : List (List ℕ × Goroutine × List Wait)) → AllByRecursion (Waiting s) ws → IsFine P fs made s (next ws))
      → IsFine P fs made s (ask_waiters names next)
  waiters_fine [] next l h = h [] tt
  waiters_fine (n ∷ ns) next l h =
      let x = l n (inl refl) in
      waiter_fine n x.0 _ x.1 (waiters_fine ns (λ others. next ((n, x.1.goroutine, x.1.waits) ∷ others)) (λ m i. l m (inr i))
      (λ ws o. h ((n, x.1.goroutine, x.1.waits) ∷ ws) ((x.1.here, x.1.status), o)))

  open_fine : (c : ChName) (e : Sort) (gate : GateContent) (names : List (List ℕ)) → made c ≡ Some e
      → ((n : List ℕ) → In n names → (w : Wait) × Waits s n w)
      → SortedFrame fs made k (goes_on a.frame) → IsFine P fs made s (close_open a c gate names)
  open_fine c e gate names m l f = waiters_fine names _ l (λ ws o.
      withdrawn_fine acting.sorted names (channels_but (c ∷ []) (flat_map (λ w. w.2) ws)) _
      (λ d i. let w = some_wait (c ∷ []) (flat_map (λ w. w.2) ws) d i in let g = gate_of_one acting ws w.0 o w.1 in (g.0, ap s.gates (sym w.2) ∙ g.1))
      (λ cells q. goes_fine acting refl f ((e, m, λ w i. absurd i), all_append (SortedCell fs made s) (map (λ w. go_has w.0 (Some (record (w.1) { status = ready }))) ws) cells (all_woken acting ws o) q)))

  closing_fine : (c : Option ChName) → IsMade made c → SortedFrame fs made k (goes_on a.frame)
      → IsFine P fs made s (close a c)
  closing_fine None m f = fault_fine acting None CloseOfNil
  closing_fine (Some c) m f =
      let g = acting.sorted.gates c m.0 m.1 in
      gate_fine g.0 g.1 (if_fine g.0.closed (λ t. fault_fine acting (Some (closes c)) CloseOfClosed)
      (λ t. open_fine c m.0 g.0 (once (map (λ w. w.go) g.0.senders ++ map (λ w. w.go) g.0.receivers)) m.1
      (λ n i. let w = queued c g.0 n i in (w.0, waiter s acting.waits n w.0 c w.1 (subst (λ x. Stands x n w.0) (sym g.1) w.2))) f))

pub close_fine : CloseFine
close_fine P fs made s a k c acting m f = (closing_fine {P = P} acting c m f).fine
