-- Ways to ask, to meet a goroutine and to end that leave goroutines in the queues of what they wait for, and change all that is
-- written.
use Rattle.std.proofs.Common.{fold, ◌≡◌, ◌⊎◌, ℕ, ◌+◌, ◌%◌, if◌then◌else◌, arith, ◌==◌, Bool, true, false, List, [], ◌∷◌, map, Option, Some, None, option_map, refl, sym, ◌∙◌, ap, subst, inl, inr}
use Rattle.std.specs.List.{AllByRecursion}
use Rattle.gr_base.specs.declared.kinds.Fault.{Fault}
use Rattle.gr_base.specs.declared.objects.Object.TheVariants.{Go, Gate}
use Rattle.gr_base.specs.declared.names.ChName.{ChName}
use Rattle.gr_base.specs.declared.values.Value.{Value}
use Rattle.gr_base.specs.declared.kinds.Kind.{Kind}
use Rattle.gr_base.specs.declared.objects.Object.{Object}
use Rattle.gr_causal.specs.Sequences.{In}
use Rattle.std.proofs.lemmas.Option.{same_Some}
use Rattle.gr_causal.proofs.ListLemmas.{In-map}
use Rattle.gr_channels.specs.declared.waiter.Waiter.{Waiter}
use Rattle.gr_channels.specs.Objects.{GateContent}
use Rattle.gr_rules.specs.Outcomes.{Outcome, gives, faults, wrong, ◌>>=◌}
use Rattle.gr_rules.specs.Goroutines.{Wait, channel_of, Status, ready, waiting, finished, Goroutine}
use Rattle.gr_rules.specs.Frames.{Frame}
use Rattle.gr_rules.specs.Deeds.{past}
use Rattle.gr_rules.specs.Attempts.{Refusal, Operation, Attempt, refuse, perform, ask, if_there, ask_gate, room_for, ask_room, ask_item}
use Rattle.gr_rules.specs.Actors.{Actor, onward, does, fault, given, if_gives, without, channels_but, if_waiting, ask_waiter, ask_withdrawn, met, ask_met}
use Rattle.gr_rules.specs.States.{object_of, live, faulted, Cell, go_has, gate_has, State, look, put}
use Rattle.gr_rules.specs.Touches.{waits_at}
use Rattle.gr_laws.specs.Soundness.{Sound, Stands, SoundWaits}
use Rattle.gr_laws.proofs.CellLemmas.{run_is, goroutine_is}
use Rattle.gr_laws.proofs.WaitLemmas.{all_map, covered, some_wait}
use Rattle.gr_laws.proofs.LeafLemmas.{Changed, Written, Fit, freeing, thin_fit}

pub calm_is : (g : Goroutine) → g.status ≡ ready → waits_at (Some g) ≡ []
calm_is g e = ap (λ (x : Status). elim x [ waiting ws ↦ ws | _ ↦ [] ]) e

not_ready : (ws : List Wait) → waiting ws ≡ ready → ⊥
not_ready ws e = cc

not_live : (f : Fault) → live ≡ faulted f → ⊥
not_live f e = cc

-- what is written leaves each goroutine in the queues of what it waits for, once for each clause, and is not as it was
abbrev Leaf : State → List Cell → Type 0
Leaf s cells = SoundWaits (fold put s cells) × AllByRecursion (Written s) cells

abbrev pub Keeps : State → Attempt → Type 0
Keeps s (refuse r) = Unit {0}
Keeps s (perform report cells) = Leaf s cells
Keeps s (ask o f) = Keeps s (f (look s o))

pub record K (s : State) (x : Attempt) : Type 0 where
  pub keeps : Keeps s x

module _ {s : State} where
  pub refused : {r : Refusal} → K s (refuse r)
  refused = record { keeps = tt }

  pub asked : {o : Object} {f : Cell → Attempt} → K s (f (look s o)) → K s (ask o f)
  asked h = record { keeps = h.keeps }

  -- a goroutine past its communication is as it was, but for its status and frames
  pub past_keeps : (clause : Option ℕ) (got : Option (Value × Bool)) (g : Goroutine) (fs : List Frame) (k : Goroutine → Attempt)
      → ((fs : List Frame) → K s (k (record g { status = ready; frames = fs }))) → K s (if_gives k (met clause got g fs))
  past_keeps clause got g [] k h = refused
  past_keeps clause got g (f ∷ fs) k h = by_past (past f clause got)
    where
      by_past : (x : Outcome Frame) → K s (if_gives k (x >>= λ f. gives (record g { status = ready; frames = f ∷ fs })))
      by_past (gives f) = h (f ∷ fs)
      by_past (faults e) = refused
      by_past wrong = refused

  pub if_keeps : (b : Bool) {x y : Attempt} → K s x → (b ≡ false → K s y) → K s (if b then x else y)
  if_keeps true p q = p
  if_keeps false p q = q refl

  pub gate_keeps : {c : ChName} {k : GateContent → Attempt} → ((gate : GateContent) → s.gates c ≡ Some gate → K s (k gate)) → K s (ask_gate c k)
  gate_keeps {c} {k} h = asked (by_gate (s.gates c) refl)
    where
      by_gate : (x : Option GateContent) → s.gates c ≡ x → K s (if_there k x)
      by_gate None at = refused
      by_gate (Some gate) at = h gate at

  pub room_keeps : (c : ChName) (gate : GateContent) (k : Option ℕ → Attempt) → K s (k None)
      → (s.slots c (s.tails c % gate.capacity) ≡ None → K s (k (Some (s.tails c)))) → K s (ask_room c gate k)
  room_keeps c gate k none some = asked (if_keeps (gate.capacity == 0) none (λ e. asked (by_slot (s.slots c (s.tails c % gate.capacity)) refl)))
    where
      by_slot : (x : Option (ℕ × Value)) → s.slots c (s.tails c % gate.capacity) ≡ x → K s (k (room_for (s.tails c) x))
      by_slot None q = some q
      by_slot (Some x) q = none

  pub item_keeps : (c : ChName) (gate : GateContent) (k : Option (ℕ × Value) → Attempt) → K s (k None)
      → ((n : ℕ) (v : Value) → s.slots c (s.heads c % gate.capacity) ≡ Some (n, v) → K s (k (Some (s.heads c, v)))) → K s (ask_item c gate k)
  item_keeps c gate k none some = asked (if_keeps (gate.capacity == 0) none (λ e. asked (by_slot (s.slots c (s.heads c % gate.capacity)) refl)))
    where
      by_slot : (x : Option (ℕ × Value)) → s.slots c (s.heads c % gate.capacity) ≡ x → K s (k (option_map (λ x. (s.heads c, x.1)) x))
      by_slot None q = none
      by_slot (Some x) q = some x.0 x.1 q

  pub waiter_keeps : (n : List ℕ) (k : Goroutine → List Wait → Attempt)
      → ((g : Goroutine) (ws : List Wait) → s.goroutines n ≡ Some g → g.status ≡ waiting ws → K s (k g ws)) → K s (ask_waiter n k)
  waiter_keeps n k h = asked (by_found (s.goroutines n) refl)
    where
      by_status : (g : Goroutine) → s.goroutines n ≡ Some g → (x : Status) → g.status ≡ x → K s (if_waiting (k g) x)
      by_status g at ready r = refused
      by_status g at (waiting ws) r = h g ws at r
      by_status g at finished r = refused

      by_found : (x : Option Goroutine) → s.goroutines n ≡ x → K s (if_there (λ g. if_waiting (k g) g.status) x)
      by_found None at = refused
      by_found (Some g) at = by_status g at g.status refl

module _ (s : State) where
  pub waits_of : (n : List ℕ) (g : Goroutine) (ws : List Wait) → s.goroutines n ≡ Some g → g.status ≡ waiting ws → waits_at (s.goroutines n) ≡ ws
  waits_of n g ws at r = ap waits_at at ∙ ap (λ (x : Status). elim x [ waiting ws ↦ ws | _ ↦ [] ]) r

  -- a goroutine that waits no more
  pub woken_fit : (names : List (List ℕ)) (n : List ℕ) (g q : Goroutine) (ws : List Wait) → In n names → s.goroutines n ≡ Some g → g.status ≡ waiting ws → q.status ≡ ready → Fit s names (go_has n (Some q))
  woken_fit names n g q ws i at r c = (
    λ k. absurd (k i),
    λ j. calm_is q c,
    (λ e. not_ready ws (sym r ∙ ap (λ (x : Goroutine). x.status) (same_Some _ _ (sym at ∙ goroutine_is n _ _ e)) ∙ c), tt),
  )

module _ (s : State) (waits : SoundWaits s) where
  pub withdrawn_keeps : (names : List (List ℕ)) (cs : List ChName) (k : List Cell → Attempt)
      → ((d : ChName) → In d cs → (n : List ℕ) × (w : Wait) × In n names × Stands (s.gates d) n w)
      → ((cells : List Cell) → AllByRecursion (Fit s names) cells → map object_of cells ≡ map Gate cs → K s (k cells)) → K s (ask_withdrawn names cs k)
  withdrawn_keeps names [] k l h = h [] tt refl
  withdrawn_keeps names (c ∷ cs) k l h = gate_keeps (λ gate at.
      let x = l c (inl refl) in
      withdrawn_keeps names cs (λ cells. k (gate_has c (Some (without names gate)) ∷ cells)) (λ d i. l d (inr i))
      (λ cells o e. h (gate_has c (Some (without names gate)) ∷ cells) (thin_fit s waits names c gate x.0 x.1 at x.2 x.3, o) (ap (◌∷◌ (Gate c)) e)))

  -- where a waiting goroutine stands
  pub stands_there : (n : List ℕ) (ws : List Wait) (w : Wait) (d : ChName) → waits_at (s.goroutines n) ≡ ws → In w ws → channel_of w ≡ d → Stands (s.gates d) n w
  stands_there n ws w d e i q = subst (λ c. Stands (s.gates c) n w) q ((waits n w).0 (subst (In w) (sym e) i))

  pub met_keeps : {X : Type 0} (c : ChName) (w : Waiter X) (got : Option (Value × Bool)) (k : List Cell → Attempt)
      → ((cells : List Cell) → AllByRecursion (Fit s (w.go ∷ [])) cells → In (Go w.go) (map object_of cells)
      → ((n : List ℕ) (x : Wait) → In n (w.go ∷ []) → In x (waits_at (s.goroutines n)) → (channel_of x ≡ c) ⊎ In (Gate (channel_of x)) (map object_of cells)) → K s (k cells)) → K s (ask_met c w got k)
  met_keeps c w got k h = waiter_keeps w.go _ (λ g ws at r.
      withdrawn_keeps (w.go ∷ []) (channels_but (c ∷ []) ws) _
      (λ d i. let x = some_wait (c ∷ []) ws d i in (w.go, x.0, inl refl, stands_there w.go ws x.0 d (waits_of s w.go g ws at r) x.1 x.2))
      (λ cells o e. past_keeps w.case got g g.frames _ (λ fs. by_partner g ws at r cells o e (record g { status = ready; frames = fs }) refl)))
    where
      by_partner : (g : Goroutine) (ws : List Wait) → s.goroutines w.go ≡ Some g → g.status ≡ waiting ws → (cells : List Cell) → AllByRecursion (Fit s (w.go ∷ [])) cells → map object_of cells ≡ map Gate (channels_but (c ∷ []) ws)
          → (q : Goroutine) → q.status ≡ ready → K s (k (go_has w.go (Some q) ∷ cells))
      by_partner g ws at r cells o e q d = h (go_has w.go (Some q) ∷ cells)
          (woken_fit s (w.go ∷ []) w.go g q ws (inl refl) at r d, o) (inl refl)
          (λ n x i j. elim i [
            | inl p ↦ elim (covered (c ∷ []) ws x (subst (In x) (ap (λ m. waits_at (s.goroutines m)) p ∙ waits_of s w.go g ws at r) j)) [
              | inl t ↦ inl (elim t [ inl z ↦ z | inr z ↦ absurd z ])
              | inr t ↦ inr (inr (subst (In (Gate (channel_of x))) (sym e) (In-map Gate (channel_of x) (channels_but (c ∷ []) ws) t)))
            ]
            | inr z ↦ absurd z
          ])

-- a goroutine that is ready, in a sound state of a program that runs
pub record Acts (s : State) (a : Actor) : Type 0 where
  pub sound : Sound s
  pub waits : SoundWaits s
  pub here : s.goroutines a.name ≡ Some a.before
  pub calm : a.before.status ≡ ready
  pub lives : s.run ≡ live

module _ {s : State} {a : Actor} (acts : Acts s a) where
  pub idle : waits_at (s.goroutines a.name) ≡ []
  idle = ap waits_at acts.here ∙ calm_is a.before acts.calm

  pub stays : (f : Frame) → waits_at (Some (onward a f)) ≡ []
  stays f = calm_is (onward a f) acts.calm

  pub own_changed : (g : Goroutine) → g.steps ≡ a.before.steps + 1 → Changed s (go_has a.name (Some g))
  own_changed g e q =
      let same : a.before ≡ g = same_Some _ _ (sym acts.here ∙ goroutine_is a.name _ _ q) in
      let steps : a.before.steps ≡ g.steps = ap (λ (x : Goroutine). x.steps) same in
      omega arith

  pub own_fit : (names : List (List ℕ)) (g : Goroutine) → waits_at (Some g) ≡ [] → g.steps ≡ a.before.steps + 1 → Fit s names (go_has a.name (Some g))
  own_fit names g c e = ((λ k. c ∙ sym idle), (λ i. c), (own_changed g e, tt))

  -- a step after which these wait no more
  pub frees : {clause : Option ℕ} {operation : Option Operation} {kind : Kind} {g : Goroutine} {cells : List Cell} (names : List (List ℕ)) → waits_at (Some g) ≡ [] → g.steps ≡ a.before.steps + 1
      → AllByRecursion (Fit s names) cells → ((n : List ℕ) → In n names → In (Go n) (map object_of cells))
      → ((n : List ℕ) (w : Wait) → In n names → In w (waits_at (s.goroutines n)) → In (Gate (channel_of w)) (map object_of cells)) → K s (does a clause operation kind g cells)
  frees {g = g} {cells = cells} names c e o gos gates =
      let all : AllByRecursion (Fit s names) (go_has a.name (Some g) ∷ cells) = (own_fit names g c e, o) in record {
        keeps = (
          freeing s acts.waits names (go_has a.name (Some g) ∷ cells) all (λ n i. inr (gos n i)) (λ n w i j. inr (gates n w i j)),
          all_map (Fit s names) (Written s) (go_has a.name (Some g) ∷ cells) (λ x p. p.2) all,
        );
      }

  pub does_keeps : {clause : Option ℕ} {operation : Option Operation} {kind : Kind} {g : Goroutine} {cells : List Cell} → waits_at (Some g) ≡ [] → g.steps ≡ a.before.steps + 1
      → AllByRecursion (Fit s []) cells → K s (does a clause operation kind g cells)
  does_keeps c e o = frees [] c e o (λ n i. absurd i) (λ n w i. absurd i)

  pub fault_keeps : (operation : Option Operation) (e : Fault) → K s (fault a operation e)
  fault_keeps operation e = does_keeps (calm_is a.before acts.calm) refl ((tt, tt, ((λ q. not_live e (sym acts.lives ∙ run_is _ _ q)), tt)), tt)

  pub given_keeps : {A : Type 0} (x : Outcome A) {k : A → Attempt} → ((v : A) → x ≡ gives v → K s (k v)) → K s (given a x k)
  given_keeps (gives v) h = h v refl
  given_keeps (faults e) h = fault_keeps None e
  given_keeps wrong h = refused
