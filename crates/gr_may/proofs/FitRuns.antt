-- Bounds that cover a state cover all that a run leads to, and its steps are within them.
use Rattle.std.proofs.Common.{fold, ◌≡◌, ℕ, true, List, [], ◌∷◌, ◌++◌, Option, Some, None, refl, sym, ◌∙◌, subst, inl, inr}
use Rattle.std.specs.Prelude.{option_and_then, nat_eq}
use Rattle.std.proofs.lemmas.Bool.{cases_Bool}
use Rattle.std.proofs.lemmas.Option.{none-some}
use Rattle.gr_base.specs.declared.names.ChName.{ChName}
use Rattle.gr_base.specs.declared.values.Value.{Value}
use Rattle.gr_base.specs.declared.events.Event.{Event}
use Rattle.gr_base.specs.declared.objects.Object.{Object}
use Rattle.gr_causal.specs.Rules.{Plan, Note, plan, carried, with_read}
use Rattle.gr_causal.specs.Sequences.{In}
use Rattle.gr_causal.proofs.ListLemmas.{some_is}
use Rattle.gr_causal.proofs.PathLemmas.{Path}
use Rattle.gr_channels.specs.Objects.{GateContent}
use Rattle.gr_program.specs.Programs.{Program}
use Rattle.gr_rules.specs.Operators.{same_channel}
use Rattle.gr_rules.specs.Goroutines.{Wait, channel_of, Status, ready, waiting, finished, Goroutine}
use Rattle.gr_rules.specs.States.{Cell, run_has, go_has, gate_has, tail_has, head_has, slot_has, State, same_go, look, updated, put}
use Rattle.gr_rules.specs.Attempts.{Report, Operation, Attempt, refuse, perform, ask, rule_of}
use Rattle.gr_rules.specs.Steps.{attempt, rulebook, machine}
use Rattle.gr_rules.specs.Touches.{waits_at}
use Rattle.gr_laws.specs.Reached.{Logged}
use Rattle.gr_laws.specs.Soundness.{Sound}
use Rattle.gr_laws.proofs.CellLemmas.{go_is, channel_is}
use Rattle.gr_laws.proofs.RuleSound.{after_sound}
use Rattle.gr_may.specs.Uses.{Use, Usage, Shared}
use Rattle.gr_may.specs.Covers.{wish, StatusFits, GoFits, Covers}
use Rattle.gr_may.specs.MayStill.{Starts, itself, further, use_of}
use Rattle.gr_may.proofs.FitAttempts.{CellFits, CellsFit, UseFits, OperationFits, Begins, Keeps}
use Rattle.gr_may.proofs.FitSteps.{attempt_keeps}

module _ (p : Program) (usage : Usage) where
  put_go : (s : State) (n : List ℕ) (g : Goroutine) → Covers p usage s → GoFits p usage n g → Covers p usage (put s (go_has n (Some g)))
  put_go s n g c f = record {
    code = c.code;
    goroutines = λ m x e. elim (cases_Bool (same_go m n)) [
      | inl t ↦ subst (λ m. GoFits p usage m x) (sym (go_is m n t)) (subst (GoFits p usage n) (some_is _ _ (rw t at e)) f)
      | inr t ↦ c.goroutines m x (rw t at e)
    ];
    sharing = c.sharing;
    queued = c.queued;
    buffered = c.buffered;
    unstarted = λ m k e. elim (cases_Bool (same_go (m ++ k ∷ []) n)) [
      | inl t ↦ absurd (none-some _ (sym (rw t at e)))
      | inr t ↦ c.unstarted m k (rw t at e)
    ];
    unmade = c.unmade;
  }

  put_gate : (s : State) (d : ChName) (gate : GateContent) → Covers p usage s → CellFits p usage (gate_has d (Some gate))
      → Covers p usage (put s (gate_has d (Some gate)))
  put_gate s d gate c f = record {
    code = c.code;
    goroutines = c.goroutines;
    sharing = c.sharing;
    queued = λ b x e w i. elim (cases_Bool (same_channel b d)) [
      | inl t ↦ f w (subst (λ (x : GateContent). In w x.senders) (sym (some_is _ _ (rw t at e))) i)
      | inr t ↦ c.queued b x (rw t at e) w i
    ];
    buffered = c.buffered;
    unstarted = c.unstarted;
    unmade = λ b e. elim (cases_Bool (same_channel b d)) [
      | inl t ↦ absurd (none-some _ (sym (rw t at e)))
      | inr t ↦ c.unmade b (rw t at e)
    ];
  }

  put_slot : (s : State) (d : ChName) (i : ℕ) (item : Option (ℕ × Value)) → Covers p usage s → CellFits p usage (slot_has d i item)
      → Covers p usage (put s (slot_has d i item))
  put_slot s d i item c f = record {
    code = c.code;
    goroutines = c.goroutines;
    sharing = c.sharing;
    queued = c.queued;
    buffered = λ b j k v e. elim (cases_Bool (same_channel b d)) [
      | inl t ↦
          let here : updated nat_eq (s.slots d) i item j ≡ Some (k, v) = (rw t at e) in
          by_place b j k v (channel_is b d t) item f here
      | inr t ↦ c.buffered b j k v (rw t at e)
    ];
    unstarted = c.unstarted;
    unmade = c.unmade;
  }
    where
      by_place : (b : ChName) (j k : ℕ) (v : Value) → b ≡ d → (x : Option (ℕ × Value)) → CellFits p usage (slot_has d i x)
          → updated nat_eq (s.slots d) i x j ≡ Some (k, v) → Shared usage v
      by_place b j k v same x f e = elim (cases_Bool (nat_eq j i)) [
        | inl t ↦ by_item x f (rw t at e)
        | inr t ↦ c.buffered d j k v (rw t at e)
      ]
        where
          by_item : (x : Option (ℕ × Value)) → CellFits p usage (slot_has d i x) → x ≡ Some (k, v) → Shared usage v
          by_item None f e = absurd (none-some _ e)
          by_item (Some y) f e = subst (λ (y : ℕ × Value). Shared usage y.1) (some_is _ _ e) f

  put_cell : (s : State) (x : Cell) → Covers p usage s → CellFits p usage x → Covers p usage (put s x)
  put_cell s (run_has r) c f = record {
    code = c.code;
    goroutines = c.goroutines;
    sharing = c.sharing;
    queued = c.queued;
    buffered = c.buffered;
    unstarted = c.unstarted;
    unmade = c.unmade;
  }
  put_cell s (go_has n None) c f = absurd f
  put_cell s (go_has n (Some g)) c f = put_go s n g c f
  put_cell s (gate_has d None) c f = absurd f
  put_cell s (gate_has d (Some gate)) c f = put_gate s d gate c f
  put_cell s (tail_has d k) c f = record {
    code = c.code;
    goroutines = c.goroutines;
    sharing = c.sharing;
    queued = c.queued;
    buffered = c.buffered;
    unstarted = c.unstarted;
    unmade = c.unmade;
  }
  put_cell s (head_has d k) c f = record {
    code = c.code;
    goroutines = c.goroutines;
    sharing = c.sharing;
    queued = c.queued;
    buffered = c.buffered;
    unstarted = c.unstarted;
    unmade = c.unmade;
  }
  put_cell s (slot_has d i item) c f = put_slot s d i item c f

  put_cells : (s : State) (cells : List Cell) → Covers p usage s → CellsFit p usage cells → Covers p usage (fold put s cells)
  put_cells s [] c f = c
  put_cells s (x ∷ xs) c f = put_cells (put s x) xs (put_cell s x c f.0) f.1

  -- a step within the bounds
  pub record Within (s t : State) (e : Event) (n : Note Object Report) : Type 0 where
    pub covers : Covers p usage t
    pub operation : OperationFits p usage e.go n.kind.operation
    pub begins : Begins p usage s e.go n.kind.deed

  module _ (s : State) (c : Covers p usage s) (sound : Sound s) (e : Event) where
    record Planned (y : Plan Object Cell Report) : Type 0 where
      begins : Begins p usage s e.go y.kind.deed
      operation : OperationFits p usage e.go y.kind.operation
      cells : CellsFit p usage y.cells

    planned : (x : Attempt) (y : Plan Object Cell Report) → Keeps p usage s e.go x → plan (rulebook p) s (rule_of x) ≡ Some y → Planned y
    planned (refuse r) y k h = absurd (none-some _ h)
    planned (perform report cells) y k h = subst Planned (some_is _ _ h) (record { begins = k.0; operation = k.1; cells = k.2 })
    planned (ask o f) y k h = by_rest (λ z. planned (f (look s o)) z k) (plan (rulebook p) s (rule_of (f (look s o)))) refl h
      where
        by_rest : ((z : Plan Object Cell Report) → plan (rulebook p) s (rule_of (f (look s o))) ≡ Some z → Planned z)
            → (x : Option (Plan Object Cell Report)) → plan (rulebook p) s (rule_of (f (look s o))) ≡ x → with_read o x ≡ Some y → Planned y
        by_rest ih None d g = absurd (none-some _ g)
        by_rest ih (Some z) d g = let w = ih z d in subst Planned (some_is _ _ g) (record { begins = w.begins; operation = w.operation; cells = w.cells })

    pub step_within : (t : State) (n : Note Object Report) → (machine p).step s e ≡ Some (t, n) → Within s t e n
    step_within t n h = by_plan (plan (rulebook p) s (rule_of (attempt p e))) refl h
      where
        by_plan : (x : Option (Plan Object Cell Report)) → plan (rulebook p) s (rule_of (attempt p e)) ≡ x → carried (rulebook p) s x ≡ Some (t, n) → Within s t e n
        by_plan None d g = absurd (none-some _ g)
        by_plan (Some y) d g =
            let w = planned (attempt p e) y (attempt_keeps p usage s c sound e).keeps d in
            subst (λ (r : State × Note Object Report). Within s r.0 e r.1) (some_is _ _ g)
            (record { covers = put_cells s y.cells c w.cells; operation = w.operation; begins = w.begins })

  pub covers_along : (s t : State) (steps : List (Logged p)) → Sound s → Covers p usage s → Path (machine p) s steps t → Covers p usage t
  covers_along s t [] sound c w = subst (Covers p usage) w c
  covers_along s t (r ∷ rs) sound c w =
      covers_along w.0 t rs (after_sound p s sound r.event w.0 r.note w.1.does) (step_within s c sound r.event w.0 r.note w.1.does).covers w.2

  pub uses_along : (s t : State) (steps : List (Logged p)) (r : Logged p) → Sound s → Covers p usage s → Path (machine p) s steps t → In r steps
      → OperationFits p usage r.event.go r.note.kind.operation
  uses_along s t [] r sound c w i = absurd i
  uses_along s t (q ∷ qs) r sound c w (inl e) =
      subst (λ (q : Logged p). OperationFits p usage q.event.go q.note.kind.operation) (sym e) (step_within s c sound q.event w.0 q.note w.1.does).operation
  uses_along s t (q ∷ qs) r sound c w (inr i) =
      uses_along w.0 t qs r (after_sound p s sound q.event w.0 q.note w.1.does) (step_within s c sound q.event w.0 q.note w.1.does).covers w.2 i

  pub starts_alike : (s : State) (n m : List ℕ) → Covers p usage s → Starts s n m → usage.permits m ≡ usage.permits n
  starts_alike s n m c itself = refl
  starts_alike s n m c (further {m = l} k b e) = c.unstarted l k e ∙ starts_alike s n l c b

  pub permitted : (n : List ℕ) (c : ChName) (u : Use) (o : Option Operation) → OperationFits p usage n o → option_and_then use_of o ≡ Some (c, u)
      → usage.permits n c u ≡ true
  permitted n c u o h e = by_use (option_and_then use_of o) h e
    where
      by_use : (x : Option (ChName × Use)) → UseFits p usage n x → x ≡ Some (c, u) → usage.permits n c u ≡ true
      by_use None h e = absurd (none-some _ e)
      by_use (Some y) h e = subst (λ (y : ChName × Use). usage.permits n y.0 y.1 ≡ true) (some_is _ _ e) h

  pub waits_permitted : (s : State) (n : List ℕ) (w : Wait) → Covers p usage s → In w (waits_at (s.goroutines n))
      → usage.permits n (channel_of w) (wish w) ≡ true
  waits_permitted s n w c i = by_go (s.goroutines n) refl i
    where
      by_status : (status : Status) → StatusFits usage n status → In w (elim status [ waiting ws ↦ ws | _ ↦ [] ])
          → usage.permits n (channel_of w) (wish w) ≡ true
      by_status ready h i = absurd i
      by_status (waiting ws) h i = h w i
      by_status finished h i = absurd i

      by_go : (x : Option Goroutine) → s.goroutines n ≡ x → In w (waits_at x) → usage.permits n (channel_of w) (wish w) ≡ true
      by_go None e i = absurd i
      by_go (Some g) e i = by_status g.status (c.goroutines n g e).status i
