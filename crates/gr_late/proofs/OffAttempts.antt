-- A goroutine that waits, put back to where it has not yet come: what a step of another does in both states.
use Rattle.std.proofs.Common.{fold, ◌≡◌, ◌⊎◌, ℕ, Bool, true, false, not, if◌then◌else◌, List, [], ◌∷◌, ◌++◌, map, Option, Some, None, option_map, refl, sym, ◌∙◌, ap, subst, inl, inr}
use Rattle.gr_base.specs.declared.names.ChName.{ChName}
use Rattle.gr_base.specs.declared.values.Value.{Value}
use Rattle.gr_base.specs.declared.objects.Object.{Object}
use Rattle.gr_base.specs.declared.objects.Object.TheVariants.{Run as TheRun, Go}
use Rattle.gr_causal.specs.Rules.{Plan, plan, with_read}
use Rattle.gr_causal.specs.Sequences.{In}
use Rattle.gr_causal.proofs.ListLemmas.{true_or_false, some_is, none_not}
use Rattle.gr_channels.specs.declared.waiter.Waiter.{Waiter}
use Rattle.gr_channels.specs.Objects.{GateContent}
use Rattle.gr_channels.specs.Queues.{others}
use Rattle.gr_program.specs.Programs.{Program}
use Rattle.gr_rules.specs.Goroutines.{Goroutine}
use Rattle.gr_rules.specs.Operators.{same_channel}
use Rattle.gr_rules.specs.States.{Cell, run_has, go_has, gate_has, tail_has, head_has, slot_has, State, same_go, object_of, look, updated, put}
use Rattle.gr_rules.specs.Attempts.{Refusal, Report, Attempt, refuse, perform, ask, rule_of}
use Rattle.gr_rules.specs.Actors.{without}
use Rattle.gr_rules.specs.Steps.{rulebook}
use Rattle.gr_laws.proofs.CellLemmas.{go_is, channel_is}
use Rattle.gr_late.specs.Waiting.{waits_in}

-- all of these wait for one goroutine
abbrev pub AllOf : {X : Type 0} → List ℕ → List (Waiter X) → Type 0
AllOf name [] = Unit {0}
AllOf name (w ∷ ws) = (w.go ≡ name) × AllOf name ws

abbrev pub NoneOf : {X : Type 0} → List ℕ → List (Waiter X) → Type 0
NoneOf name [] = Unit {0}
NoneOf name (w ∷ ws) = (w.go ≡ name → ⊥) × NoneOf name ws

pub other_go : (n m : List ℕ) → (n ≡ m → ⊥) → same_go n m ≡ false
other_go n m h = elim (true_or_false (same_go n m)) [ inl t ↦ absurd (h (go_is n m t)) | inr f ↦ f ]

others_keep : {X : Type 0} (a name : List ℕ) (ws : List (Waiter X)) → AllOf name ws → (a ≡ name → ⊥) → others a ws ≡ ws
others_keep a name [] h n = refl
others_keep a name (w ∷ ws) h n =
    let f : same_go w.go a ≡ false = other_go w.go a (λ e. n (sym e ∙ h.0)) in
    ap (λ b. if not b then w ∷ others a ws else others a ws) f ∙ ap (λ xs. w ∷ xs) (others_keep a name ws h.1 n)

others_join : {X : Type 0} (a name : List ℕ) (xs ws : List (Waiter X)) → AllOf name ws → (a ≡ name → ⊥) → others a (xs ++ ws) ≡ others a xs ++ ws
others_join a name [] ws h n = others_keep a name ws h n
others_join a name (x ∷ xs) ws h n = by (same_go x.go a) refl (others_join a name xs ws h n)
  where
    by : (b : Bool) → same_go x.go a ≡ b → others a (xs ++ ws) ≡ others a xs ++ ws
        → (if not b then x ∷ others a (xs ++ ws) else others a (xs ++ ws)) ≡ (if not b then x ∷ others a xs else others a xs) ++ ws
    by true e ih = ih
    by false e ih = ap (λ ys. x ∷ ys) ih

swapped : {K X : Type 0} (equal : K → K → Bool) (is : (a b : K) → equal a b ≡ true → a ≡ b) (f : K → X) (j k n : K) (x y : X) → (j ≡ k → ⊥)
    → updated equal (updated equal f j x) k y n ≡ updated equal (updated equal f k y) j x n
swapped equal is f j k n x y h = by (equal n k) refl (equal n j) refl
  where
    by : (a : Bool) → equal n k ≡ a → (b : Bool) → equal n j ≡ b → updated equal (updated equal f j x) k y n ≡ updated equal (updated equal f k y) j x n
    by true p true q = absurd (h (sym (is n j q) ∙ is n k p))
    by true p false q = ap (λ b. if b then y else updated equal f j x n) p ∙ sym (ap (λ b. if b then x else updated equal f k y n) q ∙ ap (λ b. if b then y else f n) p)
    by false p true q = ap (λ b. if b then y else updated equal f j x n) p ∙ ap (λ b. if b then x else f n) q ∙ sym (ap (λ b. if b then x else updated equal f k y n) q)
    by false p false q = ap (λ b. if b then y else updated equal f j x n) p ∙ ap (λ b. if b then x else f n) q
        ∙ sym (ap (λ b. if b then x else updated equal f k y n) q ∙ ap (λ b. if b then y else f n) p)

-- Beside each state stands the one in which the goroutine waits, as this, at the end of these queues.
module _ (name : List ℕ) (left : Goroutine) (sending : ChName → List (Waiter Value)) (receiving : ChName → List (Waiter (Unit {0}))) where
  abbrev pub joined : ChName → GateContent → GateContent
  joined c gate = record gate { senders = gate.senders ++ sending c; receivers = gate.receivers ++ receiving c }

  abbrev pub parked : State → State
  parked r = record r { goroutines = updated same_go r.goroutines name (Some left); gates = λ c. option_map (joined c) (r.gates c) }

  pub data OffCell : Cell → Cell → Type 0 where
    go_cell : (n : List ℕ) → (n ≡ name → ⊥) → (g : Option Goroutine) → OffCell (go_has n g) (go_has n g)
    gate_cell : (c : ChName) (gate : GateContent) → OffCell (gate_has c (Some (joined c gate))) (gate_has c (Some gate))
    tail_cell : (c : ChName) (n : ℕ) → OffCell (tail_has c n) (tail_has c n)
    head_cell : (c : ChName) (n : ℕ) → OffCell (head_has c n) (head_has c n)
    slot_cell : (c : ChName) (i : ℕ) (item : Option (ℕ × Value)) → OffCell (slot_has c i item) (slot_has c i item)

  pub data OffCells : List Cell → List Cell → Type 0 where
    no_cells : OffCells [] []
    more_cells : {c d : Cell} {cs ds : List Cell} → OffCell c d → OffCells cs ds → OffCells (c ∷ cs) (d ∷ ds)

  put_parked : (r : State) (c d : Cell) → OffCell c d → put (parked r) c ≡ parked (put r d)
  put_parked r _ _ (go_cell n off g) = λ i. record (parked r) { goroutines = λ m. swapped same_go go_is r.goroutines name n m (Some left) g (λ e. off (sym e)) i }
  put_parked r _ _ (gate_cell c gate) = λ i. record (parked r) { gates = λ d. by d (same_channel d c) refl i }
    where
      by : (d : ChName) (b : Bool) → same_channel d c ≡ b → (if b then Some (joined c gate) else option_map (joined d) (r.gates d)) ≡ option_map (joined d) (if b then Some gate else r.gates d)
      by d true e = ap (λ x. Some (joined x gate)) (sym (channel_is d c e))
      by d false e = refl
  put_parked r _ _ (tail_cell c n) = refl
  put_parked r _ _ (head_cell c n) = refl
  put_parked r _ _ (slot_cell c i item) = refl

  pub all_parked : (r : State) (cs ds : List Cell) → OffCells cs ds → fold put (parked r) cs ≡ parked (fold put r ds)
  all_parked r _ _ no_cells = refl
  all_parked r _ _ (more_cells {c} {d} {cs} {ds} here more) = ap (λ s. fold put s cs) (put_parked r c d here) ∙ all_parked (put r d) cs ds more

  -- the goroutine itself is not written
  pub own_kept : (r : State) (cs ds : List Cell) → OffCells cs ds → (fold put r ds).goroutines name ≡ r.goroutines name
  own_kept r _ _ no_cells = refl
  own_kept r _ _ (more_cells {c} {d} {cs} {ds} here more) = own_kept (put r d) cs ds more ∙ by here
    where
      by : {c d : Cell} → OffCell c d → (put r d).goroutines name ≡ r.goroutines name
      by (go_cell n off g) = ap (λ b. if b then g else r.goroutines name) (other_go name n (λ e. off (sym e)))
      by (gate_cell c gate) = refl
      by (tail_cell c n) = refl
      by (head_cell c n) = refl
      by (slot_cell c i item) = refl

  -- the gate without the waits of others
  pub without_one : (a : List ℕ) (c : ChName) (gate : GateContent) → AllOf name (sending c) → AllOf name (receiving c) → (a ≡ name → ⊥) → without (a ∷ []) (joined c gate) ≡ joined c (without (a ∷ []) gate)
  without_one a c gate h k off = λ i. record gate { senders = others_join a name gate.senders (sending c) h off i; receivers = others_join a name gate.receivers (receiving c) k off i }

  pub without_all : (names : List (List ℕ)) (c : ChName) (gate : GateContent) → AllOf name (sending c) → AllOf name (receiving c) → ((a : List ℕ) → In a names → a ≡ name → ⊥)
      → without names (joined c gate) ≡ joined c (without names gate)
  without_all [] c gate h k off = refl
  without_all (a ∷ names) c gate h k off = ap (without names) (without_one a c gate h k (off a (inl refl))) ∙ without_all names c (without (a ∷ []) gate) h k (λ b i. off b (inr i))

  module _ (r : State) (actor : List ℕ) where
    -- the actor waits, and nothing else has changed but gates
    abbrev pub AllGates : List Cell → Type 0
    AllGates [] = Unit {0}
    AllGates (gate_has c x ∷ cs) = AllGates cs
    AllGates (_ ∷ cs) = ⊥

    -- gates are no goroutines
    pub gates_keep : (v : State) (cells : List Cell) → AllGates cells → (fold put v cells).goroutines ≡ v.goroutines
    gates_keep v [] h = refl
    gates_keep v (gate_has c x ∷ cs) h = gates_keep (put v (gate_has c x)) cs h
    gates_keep v (run_has x ∷ cs) h = absurd h
    gates_keep v (go_has n x ∷ cs) h = absurd h
    gates_keep v (tail_has c x ∷ cs) h = absurd h
    gates_keep v (head_has c x ∷ cs) h = absurd h
    gates_keep v (slot_has c i x ∷ cs) h = absurd h

    pub record Parks (cells : List Cell) : Type 0 where
      pub goroutine : Goroutine
      pub gates : List Cell
      pub is : cells ≡ go_has actor (Some goroutine) ∷ gates
      pub waits : waits_in (Some goroutine) ≡ true
      pub all : AllGates gates

    -- what ends the wait, or the program, or is a wait itself
    abbrev pub Other : List Cell → Type 0
    Other cells = In (Go name) (map object_of cells) ⊎ (In TheRun (map object_of cells) ⊎ Parks cells)

    abbrev pub Others : Attempt → Type 0
    Others (refuse q) = Unit {0}
    Others (perform q cells) = Other cells
    Others (ask o f) = Others (f (look (parked r) o))

    -- Each attempt in the one state goes alike in the other, or is of another kind.
    pub data OffTry : Attempt → Attempt → Type 0 where
      refuses : {q : Refusal} {b : Attempt} → OffTry (refuse q) b
      performs : {q : Report} {cs ds : List Cell} → OffCells cs ds → OffTry (perform q cs) (perform q ds)
      asks : {o : Object} {f g : Cell → Attempt} → OffTry (f (look (parked r) o)) (g (look r o)) → OffTry (ask o f) (ask o g)
      differs : {a b : Attempt} → Others a → OffTry a b

    pub record OffPlan (p : Program) (b : Attempt) (cs : List Cell) : Type 0 where
      pub plan_is : Plan Object Cell Report
      pub planned : plan (rulebook p) r (rule_of b) ≡ Some plan_is
      pub cells : OffCells cs plan_is.cells

    others_plan : (p : Program) (a : Attempt) (x : Plan Object Cell Report) → Others a → plan (rulebook p) (parked r) (rule_of a) ≡ Some x → Other x.cells
    others_plan p (refuse q) x h e = absurd (none_not _ e)
    others_plan p (perform q cells) x h e = subst (λ (z : Plan Object Cell Report). Other z.cells) (some_is _ _ e) h
    others_plan p (ask o f) x h e = by (λ z. others_plan p (f (look (parked r) o)) z h) (plan (rulebook p) (parked r) (rule_of (f (look (parked r) o)))) refl e
      where
        by : ((z : Plan Object Cell Report) → plan (rulebook p) (parked r) (rule_of (f (look (parked r) o))) ≡ Some z → Other z.cells)
            → (o' : Option (Plan Object Cell Report)) → plan (rulebook p) (parked r) (rule_of (f (look (parked r) o))) ≡ o' → with_read o o' ≡ Some x → Other x.cells
        by ih None d q = absurd (none_not _ q)
        by ih (Some z) d q = subst (λ (y : Plan Object Cell Report). Other y.cells) (some_is _ _ q) (ih z d)

    pub off_plan : (p : Program) (a b : Attempt) (x : Plan Object Cell Report) → OffTry a b → plan (rulebook p) (parked r) (rule_of a) ≡ Some x → Other x.cells ⊎ OffPlan p b x.cells
    off_plan p _ b x refuses e = absurd (none_not _ e)
    off_plan p a b x (differs h) e = inl (others_plan p a x h e)
    off_plan p _ _ x (performs {q} {cs} {ds} cells) e = inr (record {
      plan_is = record { kind = q; reads = []; cells = ds };
      planned = refl;
      cells = subst (λ (z : Plan Object Cell Report). OffCells z.cells ds) (some_is _ _ e) cells;
    })
    off_plan p _ _ x (asks {o} {f} {g} like) e = by (λ z. off_plan p (f (look (parked r) o)) (g (look r o)) z like) (plan (rulebook p) (parked r) (rule_of (f (look (parked r) o)))) refl e
      where
        by : ((z : Plan Object Cell Report) → plan (rulebook p) (parked r) (rule_of (f (look (parked r) o))) ≡ Some z → Other z.cells ⊎ OffPlan p (g (look r o)) z.cells)
            → (y : Option (Plan Object Cell Report)) → plan (rulebook p) (parked r) (rule_of (f (look (parked r) o))) ≡ y → with_read o y ≡ Some x → Other x.cells ⊎ OffPlan p (ask o g) x.cells
        by ih None d q = absurd (none_not _ q)
        by ih (Some z) d q = elim (ih z d) [
          | inl h ↦ inl (subst (λ (y : Plan Object Cell Report). Other y.cells) (some_is _ _ q) h)
          | inr v ↦ inr (record {
            plan_is = record { kind = v.plan_is.kind; reads = o ∷ v.plan_is.reads; cells = v.plan_is.cells };
            planned = ap (with_read o) v.planned;
            cells = subst (λ (y : Plan Object Cell Report). OffCells y.cells v.plan_is.cells) (some_is _ _ q) v.cells;
          })
        ]
