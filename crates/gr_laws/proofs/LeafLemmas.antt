-- What a step writes leaves each goroutine in the queues of what it waits for, and no others.
use Rattle.std.proofs.Common.{fold, ◌≡◌, ◌⊎◌, ◌↔◌, ℕ, List, [], map, Some, refl, sym, subst, inl, inr}
use Rattle.std.specs.List.{AllByRecursion}
use Rattle.gr_base.specs.declared.names.ChName.{ChName}
use Rattle.gr_base.specs.declared.objects.Object.TheVariants.{Go, Gate}
use Rattle.gr_causal.specs.Sequences.{In}
use Rattle.gr_channels.specs.Objects.{GateContent}
use Rattle.gr_rules.specs.Goroutines.{Wait, channel_of}
use Rattle.gr_rules.specs.States.{Cell, run_has, go_has, gate_has, tail_has, head_has, slot_has, State, object_of, look, put}
use Rattle.gr_rules.specs.Actors.{without}
use Rattle.gr_rules.specs.Touches.{waits_at}
use Rattle.gr_laws.specs.Soundness.{Stands, SoundWaits, SoundQueue, SoundQueues}
use Rattle.gr_laws.proofs.CellLemmas.{gate_is}
use Rattle.gr_laws.proofs.WaitLemmas.{all_map, which_go, known_go, known_object, settled, stands_without}
use Rattle.gr_laws.proofs.QueueLemmas.{without_once}

-- the content of the cell is another than in the state
abbrev pub Changed : State → Cell → Type 0
Changed s x = look s (object_of x) ≡ x → ⊥

-- nobody stands twice in a queue of the cell for one clause, where nobody did in the state
abbrev pub Once : State → Cell → Type 0
Once s (gate_has d y) = SoundQueues s → SoundQueue y
Once s (go_has m y) = Unit {0}
Once s (run_has r) = Unit {0}
Once s (tail_has d n) = Unit {0}
Once s (head_has d n) = Unit {0}
Once s (slot_has d i x) = Unit {0}

abbrev pub Written : State → Cell → Type 0
Written s x = Changed s x × Once s x

module _ (s : State) (names : List (List ℕ)) where
  -- goroutines other than these wait as before
  abbrev pub Kept : Cell → Type 0
  Kept (go_has m y) = (In m names → ⊥) → waits_at y ≡ waits_at (s.goroutines m)
  Kept (gate_has d y) = (n : List ℕ) (w : Wait) → channel_of w ≡ d → (In n names → ⊥) → Stands y n w ↔ Stands (s.gates d) n w
  Kept (run_has r) = Unit {0}
  Kept (tail_has d n) = Unit {0}
  Kept (head_has d n) = Unit {0}
  Kept (slot_has d i x) = Unit {0}

  -- these goroutines wait no more
  abbrev pub Freed : Cell → Type 0
  Freed (go_has m y) = In m names → waits_at y ≡ []
  Freed (gate_has d y) = (n : List ℕ) (w : Wait) → channel_of w ≡ d → In n names → Stands y n w → ⊥
  Freed (run_has r) = Unit {0}
  Freed (tail_has d n) = Unit {0}
  Freed (head_has d n) = Unit {0}
  Freed (slot_has d i x) = Unit {0}

  abbrev pub Fit : Cell → Type 0
  Fit x = Kept x × Freed x × Written s x

-- a goroutine comes to wait for these
module _ (s : State) (me : List ℕ) (ws : List Wait) where
  abbrev pub Queued : Cell → Type 0
  Queued (go_has m y) = (m ≡ me → waits_at y ≡ ws) × ((m ≡ me → ⊥) → waits_at y ≡ waits_at (s.goroutines m))
  Queued (gate_has d y) = (n : List ℕ) (w : Wait) → channel_of w ≡ d → Stands y n w ↔ (Stands (s.gates d) n w ⊎ ((n ≡ me) × In w ws))
  Queued (run_has r) = Unit {0}
  Queued (tail_has d n) = Unit {0}
  Queued (head_has d n) = Unit {0}
  Queued (slot_has d i x) = Unit {0}

module _ (s : State) (waits : SoundWaits s) where
  abbrev after : List Cell → State
  after cells = fold put s cells

  pub freeing : (names : List (List ℕ)) (cells : List Cell) → AllByRecursion (Fit s names) cells → ((n : List ℕ) → In n names → In (Go n) (map object_of cells))
      → ((n : List ℕ) (w : Wait) → In n names → In w (waits_at (s.goroutines n)) → In (Gate (channel_of w)) (map object_of cells)) → SoundWaits (fold put s cells)
  freeing names cells h gos gates n w = elim (known_go n names) [
    | inl i ↦
        let none : waits_at ((after cells).goroutines n) ≡ [] = settled (Freed s names) (Go n) s cells freed (inl (gos n i)) i in
        let gone = settled (Freed s names) (Gate (channel_of w)) s cells freed (by_gate (known_object (Gate (channel_of w)) (map object_of cells))) n w refl i in
        (λ j. absurd (subst (In w) none j), λ st. absurd (gone st))
    | inr k ↦
        let same : waits_at ((after cells).goroutines n) ≡ waits_at (s.goroutines n) = settled (Kept s names) (Go n) s cells kept (inr (λ q. refl)) k in
        let st = settled (Kept s names) (Gate (channel_of w)) s cells kept (inr (λ m v e q. (λ z. z, λ z. z))) n w refl k in
        (λ j. st.1 ((waits n w).0 (subst (In w) same j)), λ z. subst (In w) (sym same) ((waits n w).1 (st.0 z)))
  ]
    where
      kept : AllByRecursion (Kept s names) cells
      kept = all_map (Fit s names) (Kept s names) cells (λ x p. p.0) h

      freed : AllByRecursion (Freed s names) cells
      freed = all_map (Fit s names) (Freed s names) cells (λ x p. p.1) h

      by_gate : In (Gate (channel_of w)) (map object_of cells) ⊎ (In (Gate (channel_of w)) (map object_of cells) → ⊥) → In (Gate (channel_of w)) (map object_of cells) ⊎ Freed s names (look s (Gate (channel_of w)))
      by_gate (inl i) = inl i
      by_gate (inr k) = inr (λ m v e i st. k (subst (λ c. In (Gate c) (map object_of cells)) e (gates m v i ((waits m v).1 (subst (λ c. Stands (s.gates c) m v) (sym e) st)))))

  pub queueing : (me : List ℕ) (ws : List Wait) (cells : List Cell) → waits_at (s.goroutines me) ≡ [] → AllByRecursion (Queued s me ws) cells → In (Go me) (map object_of cells)
      → ((w : Wait) → In w ws → In (Gate (channel_of w)) (map object_of cells)) → SoundWaits (fold put s cells)
  queueing me ws cells free h mine gates n w = elim (which_go n me) [
    | inl e ↦
        let same : waits_at ((after cells).goroutines n) ≡ ws = (settled (Queued s me ws) (Go n) s cells h (inl (subst (λ m. In (Go m) (map object_of cells)) (sym e) mine))).0 e in (
          λ j. gate.1 (inr (e, subst (In w) same j)),
          λ st. subst (In w) (sym same) (elim (gate.0 st) [ inl z ↦ absurd (subst (In w) free (subst (λ m. In w (waits_at (s.goroutines m))) e ((waits n w).1 z))) | inr z ↦ z.1 ]),
        )
    | inr k ↦
        let same : waits_at ((after cells).goroutines n) ≡ waits_at (s.goroutines n) = (settled (Queued s me ws) (Go n) s cells h (inr ((λ e. absurd (k e)), (λ q. refl)))).1 k in (
          λ j. gate.1 (inl ((waits n w).0 (subst (In w) same j))),
          λ st. subst (In w) (sym same) (elim (gate.0 st) [ inl z ↦ (waits n w).1 z | inr z ↦ absurd (k z.0) ]),
        )
  ]
    where
      by_gate : In (Gate (channel_of w)) (map object_of cells) ⊎ (In (Gate (channel_of w)) (map object_of cells) → ⊥) → In (Gate (channel_of w)) (map object_of cells) ⊎ Queued s me ws (look s (Gate (channel_of w)))
      by_gate (inl i) = inl i
      by_gate (inr k) = inr (λ m v e. ((λ z. inl z), elim [ inl z ↦ z | inr z ↦ absurd (k (subst (λ c. In (Gate c) (map object_of cells)) e (gates v z.1))) ]))

      gate : Stands ((after cells).gates (channel_of w)) n w ↔ (Stands (s.gates (channel_of w)) n w ⊎ ((n ≡ me) × In w ws))
      gate = settled (Queued s me ws) (Gate (channel_of w)) s cells h (by_gate (known_object (Gate (channel_of w)) (map object_of cells))) n w refl

  -- a gate without these goroutines, one of which stood in it
  pub thin_fit : (names : List (List ℕ)) (d : ChName) (gate : GateContent) (n : List ℕ) (w : Wait) → s.gates d ≡ Some gate → In n names → Stands (s.gates d) n w → Fit s names (gate_has d (Some (without names gate)))
  thin_fit names d gate n w at i st = (
    λ m v e k. (
      λ z. subst (λ x. Stands x m v) (sym at) ((stands_without names gate m v).0 z).0,
      λ z. (stands_without names gate m v).1 (subst (λ x. Stands x m v) at z, k),
    ),
    λ m v e j z. ((stands_without names gate m v).0 z).1 j,
    (
      λ e. ((stands_without names gate n w).0 (subst (λ x. Stands x n w) (gate_is d _ _ e) st)).1 i,
      λ q. without_once names gate (subst SoundQueue at (q d)),
    ),
  )

-- nobody comes to stand twice in a queue
pub queues_after : (s : State) (cells : List Cell) → AllByRecursion (Written s) cells → SoundQueues s → SoundQueues (fold put s cells)
queues_after s cells h q c = settled (Once s) (Gate c) s cells (all_map (Written s) (Once s) cells (λ x w. w.1) h) (inr (λ k. k c)) q
