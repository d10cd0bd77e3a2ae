-- Goroutines that come to wait, in a state whose values have sorts; sends and receives that are statements of their own.
use Rattle.std.proofs.Common.{fold, ◌≡◌, ℕ, ◌+◌, Bool, true, false, if◌then◌else◌, List, [], ◌∷◌, ◌++◌, Option, Some, None, option_map, refl, sym, ◌∙◌, ap, subst, inl, inr}
use Rattle.std.specs.List.{AllByRecursion}
use Rattle.std.proofs.lemmas.Option.{same_Some}
use Rattle.gr_base.specs.declared.names.ChName.{ChName}
use Rattle.gr_base.specs.declared.values.Value.{Value}
use Rattle.gr_base.specs.declared.kinds.Kind.{Kind}
use Rattle.gr_base.specs.declared.kinds.Kind.TheVariants.{SendWait, RecvWait}
use Rattle.gr_causal.specs.Sequences.{In}
use Rattle.gr_causal.proofs.ListLemmas.{In-append_cases}
use Rattle.gr_channels.specs.declared.waiter.Waiter.{Waiter}
use Rattle.gr_channels.specs.Objects.{GateContent}
use Rattle.gr_typing.specs.Scopes.{Signature}
use Rattle.gr_rules.specs.Outcomes.{gives}
use Rattle.gr_rules.specs.Operators.{same_channel}
use Rattle.gr_rules.specs.Frames.{Frame}
use Rattle.gr_rules.specs.Deeds.{Communication, Sending, Receiving, Otherwise, Communicates, deed}
use Rattle.gr_rules.specs.Goroutines.{Wait, channel_of, waiting, Goroutine}
use Rattle.gr_rules.specs.States.{Cell, gate_has, State}
use Rattle.gr_rules.specs.Attempts.{Refusal, Operation, sends_on, receives_from, Attempt}
use Rattle.gr_rules.specs.Actors.{Actor, channels_but, does}
use Rattle.gr_rules.specs.Communications.{waits_for, all_waits, enqueued, ask_enqueued, wait, proceed_or_wait}
use Rattle.gr_laws.proofs.CellLemmas.{channel_is}
use Rattle.gr_laws.proofs.WaitLemmas.{some_wait}
use Rattle.type_safety.specs.Standing.{StandsAt, at_operation}
use Rattle.type_safety.proofs.Sorts.{Sort, Made, HasSort, yields, faulty}
use Rattle.type_safety.proofs.Running.{SortedFrames, waits, SortedTransfer, sends_nil, sends, receives_nil, receives, SortedClause, transfers, otherwise, SortedNumbered}
use Rattle.type_safety.proofs.Attempting.{SortedCell}
use Rattle.type_safety.proofs.Promises.{Acting, ProceedFine, WaitFine}
use Rattle.type_safety.proofs.FineAttempts.{IsFine, gate_fine, does_fine}
use Rattle.type_safety.proofs.FineCommunications.{communicate_fine}
use Rattle.type_safety.proofs.LoneDeeds.{alone_known}

-- all that wait to send have values of the sort
abbrev Offers : Made → Sort → GateContent → Type 0
Offers made e gate = (w : Waiter Value) → In w gate.senders → HasSort made w.value e

module _ (fs : List Signature) (made : Made) (k : Sort) (f : Frame) where
  enqueued_offers : (name : List ℕ) (c : ChName) (e : Sort) (gate : GateContent) (clause : Option ℕ)
      (x : Communication)
      → made c ≡ Some e → SortedTransfer fs made k f clause x → Offers made e gate
      → Offers made e (enqueued name c gate clause x)
  enqueued_offers name c e gate clause x m (sends_nil y) o = o
  enqueued_offers name c e gate clause x m (sends {c = d} n faulty g) o = o
  enqueued_offers name c e gate clause x m (sends {c = d} {e = l} n (yields {v = v} h) g) o =
      by_same (same_channel c d) refl
    where
      by_same : (b : Bool) → same_channel c d ≡ b
          → Offers made e (if b then record gate { senders = gate.senders ++ record { go = name; case = clause; value = v } ∷ [] } else gate)
      by_same true q w i = elim (In-append_cases w gate.senders (record { go = name; case = clause; value = v } ∷ []) i) [
        | inl j ↦ o w j
        | inr j ↦ elim j [
          | inl p ↦
              subst (λ (z : Waiter Value). HasSort made z.value e) (sym p)
              (subst (HasSort made v) (same_Some _ _ (sym n ∙ ap made (sym (channel_is c d q)) ∙ m)) h)
          | inr z ↦ absurd z
        ]
      ]
      by_same false q w i = o w i
  enqueued_offers name c e gate clause x m receives_nil o = o
  enqueued_offers name c e gate clause x m (receives {c = d} n z h) o = by_same (same_channel c d)
    where
      by_same : (b : Bool)
          → Offers made e (if b then record gate { receivers = gate.receivers ++ record { go = name; case = clause; value = tt } ∷ [] } else gate)
      by_same true = o
      by_same false = o

  clause_offers : (name : List ℕ) (c : ChName) (e : Sort) (gate : GateContent) (clause : Option ℕ) (x : Communication)
      → made c ≡ Some e → SortedClause fs made k f clause x → Offers made e gate
      → Offers made e (enqueued name c gate clause x)
  clause_offers name c e gate clause x m (transfers t) o = enqueued_offers name c e gate clause x m t o
  clause_offers name c e gate clause x m (otherwise g) o = o

  all_offers : (name : List ℕ) (c : ChName) (e : Sort) (gate : GateContent) (ws : List (Option ℕ × Communication))
      → made c ≡ Some e → SortedNumbered fs made k f ws → Offers made e gate
      → Offers made e (fold (λ gate w. enqueued name c gate w.0 w.1) gate ws)
  all_offers name c e gate [] m h o = o
  all_offers name c e gate (w ∷ ws) m h o =
      all_offers name c e (enqueued name c gate w.0 w.1) ws m h.1 (clause_offers name c e gate w.0 w.1 m h.0 o)

  -- the channels for which it comes to wait were made
  transfer_made : (clause : Option ℕ) (x : Communication) (w : Wait) → SortedTransfer fs made k f clause x
      → In w (waits_for clause x) → (e : Sort) × (made (channel_of w) ≡ Some e)
  transfer_made clause x w (sends_nil y) i = absurd i
  transfer_made clause x w (sends {e = e} m y g) i =
      elim i [ inl q ↦ (e, ap (λ z. made (channel_of z)) q ∙ m) | inr z ↦ absurd z ]
  transfer_made clause x w receives_nil i = absurd i
  transfer_made clause x w (receives {e = e} m z h) i =
      elim i [ inl q ↦ (e, ap (λ z. made (channel_of z)) q ∙ m) | inr z ↦ absurd z ]

  clause_made : (clause : Option ℕ) (x : Communication) (w : Wait) → SortedClause fs made k f clause x
      → In w (waits_for clause x) → (e : Sort) × (made (channel_of w) ≡ Some e)
  clause_made clause x w (transfers t) i = transfer_made clause x w t i
  clause_made clause x w (otherwise g) i = absurd i

  waits_made : (ws : List (Option ℕ × Communication)) (w : Wait) → SortedNumbered fs made k f ws
      → In w (all_waits ws) → (e : Sort) × (made (channel_of w) ≡ Some e)
  waits_made [] w h i = absurd i
  waits_made (x ∷ ws) w h i =
      elim (In-append_cases w (waits_for x.0 x.1) (all_waits ws) i) [ inl j ↦ clause_made x.0 x.1 w h.0 j | inr j ↦ waits_made ws w h.1 j ]

-- a send or a receive that is a statement of its own
alone_stands : (f : Frame) (c : Communication) → deed f ≡ gives (Communicates c)
    → StandsAt f (all_waits ((None, c) ∷ []))
alone_stands f (Sending None v) e = at_operation e
alone_stands f (Sending (Some c) v) e = at_operation e
alone_stands f (Receiving None initial) e = at_operation e
alone_stands f (Receiving (Some c) initial) e = at_operation e
alone_stands f Otherwise e = at_operation e

module _ {P : Refusal → Type 0} {fs : List Signature} {made : Made} {s : State} {a : Actor} {k : Sort} (acting : Acting fs made s a k) where
  enqueued_fine : (ws : List (Option ℕ × Communication)) (cs : List ChName) (next : List Cell → Attempt)
      → SortedNumbered fs made k a.frame ws
      → ((d : ChName) → In d cs → (e : Sort) × (made d ≡ Some e))
      → ((cells : List Cell) → AllByRecursion (SortedCell fs made s) cells → IsFine P fs made s (next cells))
      → IsFine P fs made s (ask_enqueued a.name ws cs next)
  enqueued_fine ws [] next h l f = f [] tt
  enqueued_fine ws (c ∷ cs) next h l f =
      let m = l c (inl refl) in
      let g = acting.sorted.gates c m.0 m.1 in
      let after : GateContent = fold (λ gate w. enqueued a.name c gate w.0 w.1) g.0 ws in
      gate_fine g.0 g.1 (enqueued_fine ws cs (λ cells. next (gate_has c (Some after) ∷ cells)) h (λ d i. l d (inr i))
      (λ cells o. f (gate_has c (Some after) ∷ cells) (
        (
          m.0,
          m.1,
          all_offers fs made k a.frame a.name c m.0 g.0 ws m.1 h
              (λ w i. acting.sorted.senders c g.0 m.0 w g.1 m.1 i),
        ),
        o,
      )))

  waits_fine : (operation : Option Operation) (kind : Kind) (ws : List (Option ℕ × Communication))
      → StandsAt a.frame (all_waits ws)
      → SortedNumbered fs made k a.frame ws
      → IsFine P fs made s (wait a operation kind ws)
  waits_fine operation kind ws stands h =
      let after : Goroutine = record (a.before) { status = waiting (all_waits ws); steps = a.before.steps + 1 } in
      enqueued_fine ws (channels_but [] (all_waits ws)) (does a None operation kind after) h
      (λ d i. let w = some_wait [] (all_waits ws) d i in let m = waits_made fs made k a.frame ws w.0 h w.1 in (m.0, ap made (sym w.2) ∙ m.1))
      (λ cells o. does_fine acting
      (subst (SortedFrames fs made (waiting (all_waits ws))) (sym acting.frames)
      (waits acting.sorted_frame acting.below stands)) refl o)

  -- a send or a receive that is a statement of its own
  alone_fine : (c : Communication) → deed a.frame ≡ gives (Communicates c) → SortedTransfer fs made k a.frame None c
      → IsFine P fs made s (proceed_or_wait a c)
  alone_fine (Sending c v) e h = communicate_fine acting None (Sending c v) _ h (alone_known a.frame (Sending c v) e)
      (waits_fine (option_map sends_on c) SendWait ((None, Sending c v) ∷ []) (alone_stands a.frame (Sending c v) e)
      (transfers h, tt))
  alone_fine (Receiving c initial) e h =
      communicate_fine acting None (Receiving c initial) _ h (alone_known a.frame (Receiving c initial) e)
      (waits_fine (option_map receives_from c) RecvWait ((None, Receiving c initial) ∷ [])
      (alone_stands a.frame (Receiving c initial) e) (transfers h, tt))
  alone_fine Otherwise e h = elim h [ ]

pub proceed_fine : ProceedFine
proceed_fine P fs made s a k c acting e h = (alone_fine {P = P} acting c e h).fine

pub wait_fine : WaitFine
wait_fine P fs made s a k operation kind ws acting stands h =
    (waits_fine {P = P} acting operation kind ws stands h).fine
