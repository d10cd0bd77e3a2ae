-- Goroutines that wait are met at the operation for which they wait, and go past it with values of their sorts.
use Rattle.std.proofs.Common.{◌≡◌, ℕ, Bool, true, false, if◌then◌else◌, List, [], ◌∷◌, Option, Some, None, not, filter, refl, sym, ◌∙◌, ap, subst, inl, inr}
use Rattle.std.specs.List.{AllByRecursion}
use Rattle.std.proofs.lemmas.Option.{same_Some}
use Rattle.gr_base.specs.declared.names.ChName.{ChName}
use Rattle.gr_base.specs.declared.values.Value.{Value}
use Rattle.gr_causal.specs.Sequences.{In}
use Rattle.gr_causal.proofs.ListLemmas.{In-append_cases}
use Rattle.gr_channels.specs.declared.waiter.Waiter.{Waiter}
use Rattle.gr_channels.specs.Objects.{GateContent}
use Rattle.gr_channels.specs.Queues.{is_of, others}
use Rattle.gr_typing.specs.Scopes.{Signature}
use Rattle.gr_rules.specs.Outcomes.{Outcome, gives, ◌>>=◌}
use Rattle.gr_rules.specs.Frames.{Frame}
use Rattle.gr_rules.specs.Deeds.{Communication, Deed, Communicates, Chooses, deed, past}
use Rattle.gr_rules.specs.Goroutines.{Wait, ToSend, ToReceive, channel_of, Status, ready, waiting, finished, Goroutine}
use Rattle.gr_rules.specs.States.{Cell, go_has, gate_has, State}
use Rattle.gr_rules.specs.Attempts.{Refusal, Attempt}
use Rattle.gr_rules.specs.Actors.{if_gives, without, channels_but, if_waiting, ask_waiter, ask_withdrawn, met, ask_met}
use Rattle.gr_rules.specs.Communications.{waits_for, all_waits}
use Rattle.gr_rules.specs.Selects.{numbered}
use Rattle.gr_rules.specs.Touches.{waits_at}
use Rattle.gr_laws.specs.Soundness.{Stands, SoundWaits}
use Rattle.gr_laws.proofs.WaitLemmas.{some_wait}
use Rattle.type_safety.specs.Standing.{StandsAt, at_operation, at_select}
use Rattle.type_safety.proofs.Sorts.{Sort, Made, HasSort}
use Rattle.type_safety.proofs.Running.{SortedFrame, GoesOn, on_as, SortedBelow, SortedFrames, is_ready, waits, is_finished, SortedState, SortedTransfer, sends_nil, sends, receives_nil, receives, SortedClause, transfers, otherwise, SortedNumbered, SortedDeed, communicates, chooses, Comes, to}
use Rattle.type_safety.proofs.Attempting.{SortedCell}
use Rattle.type_safety.proofs.SortedDeeds.{deed_sorted}
use Rattle.type_safety.proofs.FineAttempts.{IsFine, go_fine, gate_fine}

in_filter : {A : Type 0} (p : A → Bool) (x : A) (xs : List A) → In x (filter p xs) → In x xs
in_filter p x [] i = absurd i
in_filter p x (y ∷ xs) i = by_test (in_filter p x xs) (p y) i
  where
    by_test : (In x (filter p xs) → In x xs) → (b : Bool) → In x (if b then y ∷ filter p xs else filter p xs)
        → In x (y ∷ xs)
    by_test ih true i = elim i [ inl q ↦ inl q | inr j ↦ inr (ih j) ]
    by_test ih false i = inr (ih i)

-- whoever waits to send at a gate without some waited at the gate
in_without : (names : List (List ℕ)) (gate : GateContent) (w : Waiter Value) → In w (without names gate).senders
    → In w gate.senders
in_without [] gate w i = i
in_without (n ∷ names) gate w i =
    in_filter (λ x. not (is_of n x)) w gate.senders (in_without names (record gate { senders = others n gate.senders; receivers = others n gate.receivers }) w i)

not_ready : (ws : List Wait) → ready ≡ waiting ws → ⊥
not_ready ws e = cc

not_finished : (ws : List Wait) → finished ≡ waiting ws → ⊥
not_finished ws e = cc

waits_are : (us ws : List Wait) → waiting us ≡ waiting ws → us ≡ ws
waits_are us ws e = cc

-- the frames of a goroutine that waits: the innermost stands at the operation
pub record Standing (fs : List Signature) (made : Made) (frames : List Frame) (ws : List Wait) : Type 0 where
  pub sort : Sort
  pub frame : Frame
  pub below : List Frame
  pub are : frames ≡ frame ∷ below
  pub sorted_frame : SortedFrame fs made sort frame
  pub sorted_below : SortedBelow fs made frame.function sort below
  pub stands : StandsAt frame ws

pub standing : (fs : List Signature) (made : Made) (frames : List Frame) (x : Status) (ws : List Wait)
    → x ≡ waiting ws → SortedFrames fs made x frames → Standing fs made frames ws
standing fs made frames x ws e (is_ready f b) = absurd (not_ready ws e)
standing fs made frames x ws e (is_finished) = absurd (not_finished ws e)
standing fs made frames x ws e (waits {ws = us} f b h) = record {
  sort = _;
  frame = _;
  below = _;
  are = refl;
  sorted_frame = f;
  sorted_below = b;
  stands = subst (StandsAt _) (waits_are us ws e) h;
}

-- a goroutine that waits for this, among others
pub record Waits (s : State) (n : List ℕ) (w : Wait) : Type 0 where
  pub goroutine : Goroutine
  pub waits : List Wait
  pub here : s.goroutines n ≡ Some goroutine
  pub status : goroutine.status ≡ waiting waits
  pub among : In w waits

waiting_for : (s : State) (n : List ℕ) (w : Wait) → In w (waits_at (s.goroutines n)) → Waits s n w
waiting_for s n w i = by_known (s.goroutines n) refl i
  where
    by_status : (g : Goroutine) → s.goroutines n ≡ Some g → (x : Status) → g.status ≡ x
        → In w (elim x [ waiting ws ↦ ws | _ ↦ [] ]) → Waits s n w
    by_status g at ready r i = absurd i
    by_status g at (waiting ws) r i = record { goroutine = g; waits = ws; here = at; status = r; among = i }
    by_status g at finished r i = absurd i

    by_known : (x : Option Goroutine) → s.goroutines n ≡ x → In w (waits_at x) → Waits s n w
    by_known None at i = absurd i
    by_known (Some g) at i = by_status g at g.status refl i

pub waits_of : (s : State) (n : List ℕ) (g : Goroutine) (ws : List Wait) → s.goroutines n ≡ Some g
    → g.status ≡ waiting ws → waits_at (s.goroutines n) ≡ ws
waits_of s n g ws at r = ap waits_at at ∙ ap (λ (x : Status). elim x [ waiting ws ↦ ws | _ ↦ [] ]) r

to_send_is : (c d : ChName) (i j : Option ℕ) → ToSend c i ≡ ToSend d j → i ≡ j
to_send_is c d i j e = cc

to_receive_is : (c d : ChName) (i j : Option ℕ) → ToReceive c i ≡ ToReceive d j → (c ≡ d) × (i ≡ j)
to_receive_is c d i j e = (cc, cc)

not_alike : {P : Type 0} (c d : ChName) (i j : Option ℕ) → ToSend c i ≡ ToReceive d j → P
not_alike c d i j e = absurd (cc)

module _ (fs : List Signature) (made : Made) (k : Sort) (f : Frame) where
  -- the clause for which it waits
  abbrev Waited : Wait → Type 0
  Waited w = (x : Option ℕ × Communication) × SortedClause fs made k f x.0 x.1 × In w (waits_for x.0 x.1)

  among : (ws : List (Option ℕ × Communication)) (w : Wait) → SortedNumbered fs made k f ws → In w (all_waits ws)
      → Waited w
  among [] w h i = absurd i
  among (x ∷ ws) w h i =
      elim (In-append_cases w (waits_for x.0 x.1) (all_waits ws) i) [ inl j ↦ (x, h.0, j) | inr j ↦ among ws w h.1 j ]

  sent : (c : ChName) (i n : Option ℕ) (x : Communication) → SortedClause fs made k f n x
      → In (ToSend c i) (waits_for n x) → GoesOn fs made k f.function (past f i None)
  sent c i n x (transfers (sends_nil y)) at = absurd at
  sent c i n x (transfers (sends {c = d} m y g)) at =
      elim at [ inl q ↦ subst (λ j. GoesOn fs made k f.function (past f j None)) (sym (to_send_is c d i n q)) g | inr z ↦ absurd z ]
  sent c i n x (transfers receives_nil) at = absurd at
  sent c i n x (transfers (receives {c = d} m z g)) at = elim at [ inl q ↦ not_alike c d i n q | inr z ↦ absurd z ]
  sent c i n x (otherwise g) at = absurd at

  received : (c : ChName) (e : Sort) (i n : Option ℕ) (x : Communication) → made c ≡ Some e
      → SortedClause fs made k f n x → In (ToReceive c i) (waits_for n x)
      → (v : Value) → HasSort made v e → GoesOn fs made k f.function (past f i (Some (v, true)))
  received c e i n x m (transfers (sends_nil y)) at v h = absurd at
  received c e i n x m (transfers (sends {c = d} l y g)) at v h =
      elim at [ inl q ↦ not_alike d c n i (sym q) | inr z ↦ absurd z ]
  received c e i n x m (transfers receives_nil) at v h = absurd at
  received c e i n x m (transfers (receives {c = d} l z g)) at v h = elim at [
    | inl q ↦
        let same = to_receive_is c d i n q in
        subst (λ j. GoesOn fs made k f.function (past f j (Some (v, true)))) (sym same.1) (g v (subst (HasSort made v) (same_Some _ _ (sym m ∙ ap made same.0 ∙ l)) h))
    | inr z ↦ absurd z
  ]
  received c e i n x m (otherwise g) at v h = absurd at

  module _ (sorted : SortedFrame fs made k f) where
    comes : (d : Deed) → deed f ≡ gives d → SortedDeed fs made k f d
    comes d e = by_outcome (subst (Comes fs made k f) e (deed_sorted fs made k f sorted))
      where
        by_outcome : Comes fs made k f (gives d) → SortedDeed fs made k f d
        by_outcome (to h) = h

    alone : (c : Communication) → SortedDeed fs made k f (Communicates c) → SortedTransfer fs made k f None c
    alone c (communicates h) = h

    clauses : (cs : List Communication) → SortedDeed fs made k f (Chooses cs)
        → SortedNumbered fs made k f (numbered 1 cs)
    clauses cs (chooses h) = h

    waited : (ws : List Wait) (w : Wait) → StandsAt f ws → In w ws → Waited w
    waited ws w (at_operation {c} e) i = ((None, c), transfers (alone c (comes (Communicates c) e)), i)
    waited ws w (at_select {cs} e) i = among (numbered 1 cs) w (clauses cs (comes (Chooses cs) e)) i

    -- past a send for which it waits
    pub past_send : (c : ChName) (clause : Option ℕ) (ws : List Wait) → StandsAt f ws → In (ToSend c clause) ws
        → GoesOn fs made k f.function (past f clause None)
    past_send c clause ws stands i = let x = waited ws (ToSend c clause) stands i in sent c clause x.0.0 x.0.1 x.1 x.2

    -- past a receive of a value of the sort of the channel's elements
    pub past_receive : (c : ChName) (e : Sort) (clause : Option ℕ) (ws : List Wait) → made c ≡ Some e → StandsAt f ws
        → In (ToReceive c clause) ws
        → (v : Value) → HasSort made v e → GoesOn fs made k f.function (past f clause (Some (v, true)))
    past_receive c e clause ws m stands i v h =
        let x = waited ws (ToReceive c clause) stands i in
        received c e clause x.0.0 x.0.1 m x.1 x.2 v h

module _ (s : State) (queues : SoundWaits s) where
  -- whoever stands in a queue waits for that
  pub waiter : (n : List ℕ) (w : Wait) (c : ChName) → channel_of w ≡ c → Stands (s.gates c) n w → Waits s n w
  waiter n w c e h = waiting_for s n w ((queues n w).1 (subst (λ d. Stands (s.gates d) n w) (sym e) h))

  -- the channels for which it waits have gates
  pub gate_awaited : (n : List ℕ) (w : Wait) → In w (waits_at (s.goroutines n)) → (gate : GateContent)
      × (s.gates (channel_of w) ≡ Some gate)
  gate_awaited n w i = by_gate (s.gates (channel_of w)) refl ((queues n w).0 i)
    where
      by_gate : (x : Option GateContent) → s.gates (channel_of w) ≡ x → Stands x n w → (gate : GateContent)
          × (s.gates (channel_of w) ≡ Some gate)
      by_gate None e h = absurd h
      by_gate (Some gate) e h = (gate, e)

module _ {fs : List Signature} {made : Made} {s : State} (sorted : SortedState fs made s) where
  pub thin_sorted : (names : List (List ℕ)) (c : ChName) (gate : GateContent) → s.gates c ≡ Some gate
      → SortedCell fs made s (gate_has c (Some (without names gate)))
  thin_sorted names c gate at =
      let e = sorted.channels c gate at in
      (e.0, e.1, λ w i. sorted.senders c gate e.0 w at e.1 (in_without names gate w i))

module _ {P : Refusal → Type 0} {fs : List Signature} {made : Made} {s : State} where
  pub waiter_fine : (n : List ℕ) (w : Wait) (k : Goroutine → List Wait → Attempt) (h : Waits s n w)
      → IsFine P fs made s (k h.goroutine h.waits) → IsFine P fs made s (ask_waiter n k)
  waiter_fine n w k h f =
      go_fine (Some h.goroutine) h.here
      (subst (λ x. IsFine P fs made s (if_waiting (k h.goroutine) x)) (sym h.status) f)

  pub withdrawn_fine : (sorted : SortedState fs made s) (names : List (List ℕ)) (cs : List ChName)
      (k : List Cell → Attempt)
      → ((d : ChName) → In d cs → (gate : GateContent) × (s.gates d ≡ Some gate))
      → ((cells : List Cell) → AllByRecursion (SortedCell fs made s) cells → IsFine P fs made s (k cells))
      → IsFine P fs made s (ask_withdrawn names cs k)
  withdrawn_fine sorted names [] k l h = h [] tt
  withdrawn_fine sorted names (c ∷ cs) k l h =
      let x = l c (inl refl) in
      gate_fine x.0 x.1 (withdrawn_fine sorted names cs (λ cells. k (gate_has c (Some (without names x.0)) ∷ cells)) (λ d i. l d (inr i))
      (λ cells o. h (gate_has c (Some (without names x.0)) ∷ cells) (thin_sorted sorted names c x.0 x.1, o)))

  if_goes_on : {l : Sort} {n : ℕ} {o : Outcome Frame} (g : Goroutine) (below : List Frame)
      (next : Goroutine → Attempt)
      → GoesOn fs made l n o
      → ((f : Frame) → f.function ≡ n → SortedFrame fs made l f
      → IsFine P fs made s (next (record g { status = ready; frames = f ∷ below })))
      → IsFine P fs made s (if_gives next (o >>= λ f. gives (record g { status = ready; frames = f ∷ below })))
  if_goes_on g below next (on_as e h) f = f _ e h

  -- whoever is met goes on, ready, at a frame that is sorted
  pub met_fine : (queues : SoundWaits s) (sorted : SortedState fs made s) {X : Type 0} (c : ChName) (w : Waiter X)
      (got : Option (Value × Bool)) (x : Wait) (next : List Cell → Attempt)
      → channel_of x ≡ c → Stands (s.gates c) w.go x
      → ((l : Sort) (f : Frame) (ws : List Wait) → SortedFrame fs made l f → StandsAt f ws → In x ws
      → GoesOn fs made l f.function (past f w.case got))
      → ((cells : List Cell) → AllByRecursion (SortedCell fs made s) cells → IsFine P fs made s (next cells))
      → IsFine P fs made s (ask_met c w got next)
  met_fine queues sorted c w got x next e there passes h =
      let p = waiter s queues w.go x c e there in
      let g = p.goroutine in
      let r = standing fs made g.frames g.status p.waits p.status (sorted.goroutines w.go g p.here) in
      waiter_fine w.go x _ p (withdrawn_fine sorted (w.go ∷ []) (channels_but (c ∷ []) p.waits) _
      (λ d i.
      let y = some_wait (c ∷ []) p.waits d i in
      let z = gate_awaited s queues w.go y.0 (subst (In y.0) (sym (waits_of s w.go g p.waits p.here p.status)) y.1) in
      (z.0, ap s.gates (sym y.2) ∙ z.1))
      (λ cells o. subst
      (λ gs. IsFine P fs made s
      (if_gives (λ partner. next (go_has w.go (Some partner) ∷ cells)) (met w.case got g gs))) (sym r.are)
      (if_goes_on g r.below (λ partner. next (go_has w.go (Some partner) ∷ cells))
      (passes r.sort r.frame p.waits r.sorted_frame r.stands p.among)
      (λ f d k. h (go_has w.go (Some (record g { status = ready; frames = f ∷ r.below })) ∷ cells) ((is_ready k (subst (λ n. SortedBelow fs made n r.sort r.below) (sym d) r.sorted_below), g, p.here, refl), o)))))
