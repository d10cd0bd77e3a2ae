-- On one channel no two goroutines wait for each other.
use Rattle.std.proofs.Common.{map, ap, fold, ◌≡◌, ◌⊎◌, ℕ, Bool, true, false, if◌then◌else◌, List, [], ◌∷◌, ◌++◌, Option, Some, None, refl, sym, ◌∙◌, subst, inl, inr}
use Rattle.gr_base.specs.declared.names.ChName.{ChName}
use Rattle.gr_base.specs.declared.values.Value.{Value}
use Rattle.gr_base.specs.declared.events.Event.{Event}
use Rattle.gr_base.specs.declared.objects.Object.{Object}
use Rattle.gr_base.specs.declared.objects.Object.TheVariants.{Go}
use Rattle.gr_causal.specs.Machine.{StepOf, IsLog}
use Rattle.gr_causal.specs.Sequences.{In}
use Rattle.gr_causal.specs.Rules.{Plan, Note, plan, carried, with_read}
use Rattle.gr_causal.proofs.ListLemmas.{some_is, none_not, In-map}
use Rattle.gr_causal.proofs.PathLemmas.{Path, path_of, log_of, log_push}
use Rattle.gr_channels.specs.declared.waiter.Waiter.{Waiter}
use Rattle.gr_channels.specs.Objects.{GateContent}
use Rattle.gr_program.specs.Programs.{Program}
use Rattle.gr_rules.specs.Outcomes.{Outcome, gives, faults, wrong}
use Rattle.gr_rules.specs.Frames.{Frame}
use Rattle.gr_rules.specs.Goroutines.{Wait, ToSend, ToReceive}
use Rattle.gr_rules.specs.States.{run_has, go_has, gate_has, tail_has, head_has, slot_has, Cell, State, same_go, object_of, look, put, start, started_in, call_of, main_of}
use Rattle.gr_rules.specs.Attempts.{Report, Attempt, refuse, perform, ask, rule_of}
use Rattle.gr_rules.specs.Steps.{attempt, rulebook, machine}
use Rattle.gr_rules.specs.Touches.{senders_at, receivers_at, waits_at}
use Rattle.gr_laws.specs.Reached.{Reached}
use Rattle.gr_laws.specs.Soundness.{Stands, SoundWaits}
use Rattle.gr_laws.proofs.CellLemmas.{no_truth, go_name, go_is, go_self, updated_here}
use Rattle.gr_laws.proofs.RuleWaits.{reached_waits}
use Rattle.gr_late.specs.Sides.{OneSided}
use Rattle.gr_late.specs.Waiting.{waits_in}
use Rattle.gr_late.proofs.SideAttempts.{NoPartner, Calm, AllCalm, for_nothing, LeavesSo, Sides}
use Rattle.gr_late.proofs.SideEvents.{WaitedAt, attempt_sides}

-- a goroutine waits for what it waited for before, or for nothing
calm_put : (s : State) (c : Cell) (n : List ℕ) → Calm c → (waits_at ((put s c).goroutines n) ≡ waits_at (s.goroutines n)) ⊎ (waits_at ((put s c).goroutines n) ≡ [])
calm_put s (run_has r) n h = inl refl
calm_put s (go_has k g) n h = by (same_go n k) refl
  where
    by : (b : Bool) → same_go n k ≡ b → (waits_at (if b then g else s.goroutines n) ≡ waits_at (s.goroutines n)) ⊎ (waits_at (if b then g else s.goroutines n) ≡ [])
    by true e = inr (for_nothing g h)
    by false e = inl refl
calm_put s (gate_has c x) n h = inl refl
calm_put s (tail_has c x) n h = inl refl
calm_put s (head_has c x) n h = inl refl
calm_put s (slot_has c i x) n h = inl refl

calm_after : (s : State) (cells : List Cell) (n : List ℕ) → AllCalm cells → (waits_at ((fold put s cells).goroutines n) ≡ waits_at (s.goroutines n)) ⊎ (waits_at ((fold put s cells).goroutines n) ≡ [])
calm_after s [] n h = inl refl
calm_after s (c ∷ cells) n h = elim (calm_after (put s c) cells n h.1) [
  | inl same ↦ elim (calm_put s c n h.0) [ inl k ↦ inl (same ∙ k) | inr k ↦ inr (same ∙ k) ]
  | inr none ↦ inr none
]

-- a goroutine waits as it did before, or not at all
ready_put : (s : State) (c : Cell) (n : List ℕ) → Calm c → (waits_in ((put s c).goroutines n) ≡ waits_in (s.goroutines n)) ⊎ (waits_in ((put s c).goroutines n) ≡ false)
ready_put s (run_has r) n h = inl refl
ready_put s (go_has k g) n h = by (same_go n k)
  where
    by : (b : Bool) → (waits_in (if b then g else s.goroutines n) ≡ waits_in (s.goroutines n)) ⊎ (waits_in (if b then g else s.goroutines n) ≡ false)
    by true = inr h
    by false = inl refl
ready_put s (gate_has c x) n h = inl refl
ready_put s (tail_has c x) n h = inl refl
ready_put s (head_has c x) n h = inl refl
ready_put s (slot_has c i x) n h = inl refl

ready_after : (s : State) (cells : List Cell) (n : List ℕ) → AllCalm cells → (waits_in ((fold put s cells).goroutines n) ≡ waits_in (s.goroutines n)) ⊎ (waits_in ((fold put s cells).goroutines n) ≡ false)
ready_after s [] n h = inl refl
ready_after s (c ∷ cells) n h = elim (ready_after (put s c) cells n h.1) [
  | inl same ↦ elim (ready_put s c n h.0) [ inl k ↦ inl (same ∙ k) | inr k ↦ inr (same ∙ k) ]
  | inr none ↦ inr none
]

-- a goroutine that is written does not wait
written_ready : (s : State) (cells : List Cell) (n : List ℕ) → AllCalm cells → In (Go n) (map object_of cells) → waits_in ((fold put s cells).goroutines n) ≡ false
written_ready s [] n h i = absurd i
written_ready s (c ∷ cells) n h (inr j) = written_ready (put s c) cells n h.1 j
written_ready s (c ∷ cells) n h (inl e) = elim (ready_after (put s c) cells n h.1) [
  | inl same ↦ same ∙ by c h.0 e
  | inr none ↦ none
]
  where
    by : (c : Cell) → Calm c → Go n ≡ object_of c → waits_in ((put s c).goroutines n) ≡ false
    by (go_has k g) h e = ap (λ b. waits_in (if b then g else s.goroutines n)) (ap (λ x. same_go x k) (go_name n k e) ∙ go_self k) ∙ h
    by (run_has x) h e = absurd cc
    by (gate_has d x) h e = absurd cc
    by (tail_has d x) h e = absurd cc
    by (head_has d x) h e = absurd cc
    by (slot_has d i x) h e = absurd cc

-- whom a wait of a goroutine after a step belongs to
abbrev Whose : State → List ℕ → List ℕ → Wait → Type 0
Whose s name n w = In w (waits_at (s.goroutines n)) ⊎ ((n ≡ name) × NoPartner s w)

module _ (s : State) (name : List ℕ) (Why : Type 0) where
  whose : (cells : List Cell) → LeavesSo s name Why cells → (n : List ℕ) (w : Wait) → In w (waits_at ((fold put s cells).goroutines n)) → Whose s name n w
  whose cells l n w i = by_first (elim (calm_after (put s (go_has name (Some l.left))) l.others n l.calm) [
    | inl e ↦ inl e
    | inr e ↦ inr e
  ])
    where
      j : In w (waits_at ((fold put (put s (go_has name (Some l.left))) l.others).goroutines n))
      j = subst (λ cs. In w (waits_at ((fold put s cs).goroutines n))) l.is i

      by_name : (b : Bool) → same_go n name ≡ b → In w (waits_at (if b then Some l.left else s.goroutines n)) → Whose s name n w
      by_name true e k = inr (go_is n name e, l.own w k)
      by_name false e k = inl k

      by_first : (waits_at ((fold put (put s (go_has name (Some l.left))) l.others).goroutines n) ≡ waits_at ((put s (go_has name (Some l.left))).goroutines n))
          ⊎ (waits_at ((fold put (put s (go_has name (Some l.left))) l.others).goroutines n) ≡ []) → Whose s name n w
      by_first (inl e) = by_name (same_go n name) refl (subst (In w) e j)
      by_first (inr e) = absurd (subst (In w) e j)

  -- why the goroutine that took the step waits
  pub why_waits : (cells : List Cell) → LeavesSo s name Why cells → waits_in ((fold put s cells).goroutines name) ≡ true → Why
  why_waits cells l h = by (ready_after (put s (go_has name (Some l.left))) l.others name l.calm)
    where
      j : waits_in ((fold put (put s (go_has name (Some l.left))) l.others).goroutines name) ≡ true
      j = subst (λ cs. waits_in ((fold put s cs).goroutines name) ≡ true) l.is h

      by_left : (waits_in (Some l.left) ≡ false) ⊎ Why → waits_in (Some l.left) ≡ true → Why
      by_left (inl e) k = absurd (no_truth (sym e ∙ k))
      by_left (inr w) k = w

      by : (waits_in ((fold put (put s (go_has name (Some l.left))) l.others).goroutines name) ≡ waits_in ((put s (go_has name (Some l.left))).goroutines name))
          ⊎ (waits_in ((fold put (put s (go_has name (Some l.left))) l.others).goroutines name) ≡ false) → Why
      by (inl e) = by_left l.why (sym (ap waits_in (updated_here same_go go_self s.goroutines name (Some l.left))) ∙ sym e ∙ j)
      by (inr e) = absurd (no_truth (sym e ∙ j))

  -- another goroutine that is written does not wait
  pub other_ready : (cells : List Cell) → LeavesSo s name Why cells → (n : List ℕ) → (n ≡ name → ⊥) → In (Go n) (map object_of cells) → waits_in ((fold put s cells).goroutines n) ≡ false
  other_ready cells l n off i = elim (subst (λ cs. In (Go n) (map object_of cs)) l.is i) [
    | inl e ↦ absurd (off (go_name n name e))
    | inr j ↦ ap (λ cs. waits_in ((fold put s cs).goroutines n)) l.is ∙ written_ready (put s (go_has name (Some l.left))) l.others n l.calm j
  ]

  -- what an attempt comes to
  pub plan_sides : (x : Attempt) (p : Program) (y : Plan Object Cell Report) → Sides s name Why x → plan (rulebook p) s (rule_of x) ≡ Some y → LeavesSo s name Why y.cells
  plan_sides (refuse r) p y c h = absurd (none_not _ h)
  plan_sides (perform r cells) p y c h = subst (λ (z : Plan Object Cell Report). LeavesSo s name Why z.cells) (some_is _ _ h) c
  plan_sides (ask o f) p y c h = by_rest (λ z. plan_sides (f (look s o)) p z c) (plan (rulebook p) s (rule_of (f (look s o)))) refl h
    where
      by_rest : ((z : Plan Object Cell Report) → plan (rulebook p) s (rule_of (f (look s o))) ≡ Some z → LeavesSo s name Why z.cells)
          → (r : Option (Plan Object Cell Report)) → plan (rulebook p) s (rule_of (f (look s o))) ≡ r → with_read o r ≡ Some y → LeavesSo s name Why y.cells
      by_rest ih None d q = absurd (none_not _ q)
      by_rest ih (Some z) d q = subst (λ (x : Plan Object Cell Report). LeavesSo s name Why x.cells) (some_is _ _ q) (ih z d)

-- who stands in a queue makes it one of some
not_empty : {A : Type 0} (x : A) (xs : List A) → In x xs → xs ≡ [] → ⊥
not_empty x xs i e = subst (In x) e i

stands_send : (o : Option GateContent) (n : List ℕ) (c : ChName) (i : Option ℕ) → Stands o n (ToSend c i) → senders_at o ≡ [] → ⊥
stands_send None n c i h e = h
stands_send (Some gate) n c i h e = not_empty h.0.go (senders_at (Some gate)) (In-map (λ (w : Waiter Value). w.go) h.0 gate.senders h.1) e

stands_receive : (o : Option GateContent) (n : List ℕ) (c : ChName) (i : Option ℕ) → Stands o n (ToReceive c i) → receivers_at o ≡ [] → ⊥
stands_receive None n c i h e = h
stands_receive (Some gate) n c i h e = not_empty h.0.go (receivers_at (Some gate)) (In-map (λ (w : Waiter (Unit {0})). w.go) h.0 gate.receivers h.1) e

module _ (p : Program) where
  -- a step leaves no two that wait for each other
  stepped : (s t : State) (e : Event) (n : Note Object Report) → SoundWaits s → OneSided s → (machine p).step s e ≡ Some (t, n) → OneSided t
  stepped s t e n waits one h = by (plan (rulebook p) s (rule_of (attempt p e))) refl h
    where
      after : (cells : List Cell) → LeavesSo s e.go (WaitedAt s e) cells → OneSided (fold put s cells)
      after cells l x y c i j send receive = elim (whose s e.go (WaitedAt s e) cells l x (ToSend c i) send) [
        | inl a ↦ elim (whose s e.go (WaitedAt s e) cells l y (ToReceive c j) receive) [
          | inl b ↦ one x y c i j a b
          | inr b ↦ absurd (stands_send (s.gates c) x c i ((waits x (ToSend c i)).0 a) b.1)
        ]
        | inr a ↦ elim (whose s e.go (WaitedAt s e) cells l y (ToReceive c j) receive) [
          | inl b ↦ absurd (stands_receive (s.gates c) y c j ((waits y (ToReceive c j)).0 b) a.1)
          | inr b ↦ a.0 ∙ sym b.0
        ]
      ]

      by : (o : Option (Plan Object Cell Report)) → plan (rulebook p) s (rule_of (attempt p e)) ≡ o → carried (rulebook p) s o ≡ Some (t, n) → OneSided t
      by None d q = absurd (none_not _ q)
      by (Some y) d q = subst (λ (r : State × Note Object Report). OneSided r.0) (some_is _ _ q) (after y.cells (plan_sides s e.go (WaitedAt s e) (attempt p e) p y (attempt_sides p s e) d))

  -- nobody waits at the start
  start_waits : (n : List ℕ) → waits_at ((start p).goroutines n) ≡ []
  start_waits n = by (same_go n []) (call_of p (main_of p) [])
    where
      by : (b : Bool) (x : Outcome Frame) → waits_at (if b then started_in x else None) ≡ []
      by true (gives f) = refl
      by true (faults e) = refl
      by true wrong = refl
      by false x = refl

  -- the last step of a log, and the run before it
  along : (log : List (StepOf (machine p))) (s t : State) (front : List (StepOf (machine p))) → IsLog (machine p) (start p) front s → OneSided s → Path (machine p) s log t → OneSided t
  along [] s t front l one h = subst OneSided h one
  along (r ∷ log) s t front l one h =
      along log h.0 t (front ++ r ∷ []) (log_push (machine p) (start p) front s r h.0 l (log_of (machine p) s (r ∷ []) h.0 (h.0, h.1, refl)))
      (stepped s h.0 r.event r.note (reached_waits p s front l) one h.1.does) h.2

  pub one_sided : (t : State) → Reached p t → OneSided t
  one_sided t r =
      let none : OneSided (start p) = λ n m c i j a b. absurd (subst (In (ToSend c i)) (start_waits n) a) in
      along r.log (start p) t [] refl none (path_of (machine p) (start p) r.log t r.leads)
