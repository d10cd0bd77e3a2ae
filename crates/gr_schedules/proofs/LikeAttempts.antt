-- States that differ in what no rule hangs on: counts of steps, texts, and by how much the numbers of a channel's items are shifted.
use Rattle.std.proofs.Common.{fold, ◌≡◌, ℕ, zero, suc, nat_eq, eqb-true, eq-eqb, ◌+◌, ◌*◌, ◌/◌, ◌%◌, Bool, true, false, if◌then◌else◌, List, [], ◌∷◌, Option, Some, None, option_map, refl, sym, ◌∙◌, ap, subst, inl, inr, arith, div-add-mod', mod-lt}
use Rattle.std.proofs.lemmas.Nat.{mod-mul-add}
use Rattle.gr_base.specs.declared.names.ChName.{ChName}
use Rattle.gr_base.specs.declared.values.Value.{Value}
use Rattle.gr_base.specs.declared.events.Event.{Event}
use Rattle.gr_base.specs.declared.objects.Object.{Object}
use Rattle.gr_causal.specs.Rules.{Plan, plan, carried, with_read}
use Rattle.gr_causal.proofs.ListLemmas.{true_or_false, some_is, none_not}
use Rattle.gr_channels.specs.Objects.{GateContent}
use Rattle.gr_program.specs.Programs.{Program}
use Rattle.gr_rules.specs.Operators.{same_channel}
use Rattle.gr_rules.specs.Goroutines.{Goroutine}
use Rattle.gr_rules.specs.States.{Run, Cell, run_has, go_has, gate_has, tail_has, head_has, slot_has, State, same_go, look, updated, put}
use Rattle.gr_rules.specs.Attempts.{Report, Refusal, Attempt, refuse, perform, ask, rule_of}
use Rattle.gr_rules.specs.Steps.{rulebook, attempt}
use Rattle.gr_laws.proofs.CellLemmas.{go_is, channel_is}
use Rattle.gr_schedules.specs.Schedules.{next_state}

-- the goroutine with another count of steps and another text
abbrev pub aged : Goroutine → ℕ → List (List ℕ) → Goroutine
aged g n text = record g { steps = n; text = text }

-- goroutines that differ in these alone
pub data LikeGo : Option Goroutine → Option Goroutine → Type 0 where
  neither : LikeGo None None
  both : (g : Goroutine) (n : ℕ) (text : List (List ℕ)) → LikeGo (Some g) (Some (aged g n text))

-- numbers modulo a capacity
one_turn : (j t k : ℕ) → (j + t * k) % k ≡ j % k
one_turn j t zero = ap (λ n. n % 0) (omega arith)
one_turn j t (suc k) =
    let w = suc k in
    let whole : (j / w) * w + j % w ≡ j = div-add-mod' j w in
    let parts : j + t * w ≡ (j / w + t) * w + j % w = grind (arith, whole) in
    ap (λ n. n % w) parts ∙ mod-mul-add (j / w + t) w (j % w) (mod-lt j (omega arith))

-- as much more is in one place, too
as_far : (a b z k : ℕ) → a % k ≡ b % k → (a + z) % k ≡ (b + z) % k
as_far a b z k e = by_rest a z k ∙ ap (λ r. (r + z) % k) e ∙ sym (by_rest b z k)
  where
    by_rest : (a z k : ℕ) → (a + z) % k ≡ (a % k + z) % k
    by_rest a z k =
        let whole : (a / k) * k + a % k ≡ a = div-add-mod' a k in
        let parts : a + z ≡ (a % k + z) + (a / k) * k = grind (arith, whole) in
        ap (λ n. n % k) parts ∙ one_turn (a % k + z) (a / k) k

-- and as much less
as_near : (a b z k : ℕ) → (a + z) % k ≡ (b + z) % k → a % k ≡ b % k
as_near a b z zero e =
    let first : (a + z) / 0 * 0 + (a + z) % 0 ≡ a + z = div-add-mod' (a + z) 0 in
    let second : (b + z) / 0 * 0 + (b + z) % 0 ≡ b + z = div-add-mod' (b + z) 0 in
    ap (λ n. n % 0) (omega (arith, first, second, e))
as_near a b z (suc k) e = back a ∙ as_far (a + z) (b + z) (z * k) (suc k) e ∙ sym (back b)
  where
    back : (a : ℕ) → a % suc k ≡ (a + z + z * k) % suc k
    back a = sym (one_turn a z (suc k)) ∙ ap (λ n. n % suc k) (let e : a + z * suc k ≡ a + z + z * k = grind arith in e)

pub same_test : (a b z k : ℕ) → nat_eq ((a + z) % k) ((b + z) % k) ≡ nat_eq (a % k) (b % k)
same_test a b z k = by (nat_eq (a % k) (b % k)) refl
  where
    by : (t : Bool) → nat_eq (a % k) (b % k) ≡ t → nat_eq ((a + z) % k) ((b + z) % k) ≡ t
    by true h = eq-eqb _ _ (as_far a b z k (eqb-true _ _ h))
    by false h = elim (true_or_false (nat_eq ((a + z) % k) ((b + z) % k))) [
      | inl t ↦ let same = eq-eqb (a % k) (b % k) (as_near a b z k (eqb-true _ _ t)) in absurd (let q : true ≡ false = sym same ∙ h in cc)
      | inr f ↦ f
    ]

-- The numbers of each channel's items are greater by `x` in the one state, and by `y` in the other. `caps` are the capacities of
-- the channels that were there to begin with.
module _ (x y : ChName → ℕ) (caps : ChName → Option ℕ) where
  -- a number of the one state, and the same number of the other
  pub record Shifted (c : ChName) (n m : ℕ) : Type 0 where
    pub number : ℕ
    pub first : n ≡ number + x c
    pub second : m ≡ number + y c

  -- both slots are empty, or hold the same value
  pub data LikeItem : Option (ℕ × Value) → Option (ℕ × Value) → Type 0 where
    no_item : LikeItem None None
    an_item : (n m : ℕ) (v : Value) → LikeItem (Some (n, v)) (Some (m, v))

  -- each number has the same in its slot in both
  abbrev pub LikeSlots : ChName → Option ℕ → (ℕ → Option (ℕ × Value)) → (ℕ → Option (ℕ × Value)) → Type 0
  LikeSlots c None f g = (i : ℕ) → LikeItem (f i) (g i)
  LikeSlots c (Some k) f g = (number : ℕ) → LikeItem (f ((number + x c) % k)) (g ((number + y c) % k))

  -- the channel still has the capacity that it had
  abbrev pub KeepsCapacity : Option ℕ → Option GateContent → Type 0
  KeepsCapacity None gate = Unit {0}
  KeepsCapacity (Some k) gate = (g : GateContent) × (gate ≡ Some g) × (g.capacity ≡ k)

  pub record Like (s r : State) : Type 0 where
    pub run : s.run ≡ r.run
    pub goroutines : (n : List ℕ) → LikeGo (s.goroutines n) (r.goroutines n)
    pub gates : (c : ChName) → s.gates c ≡ r.gates c
    pub capacities : (c : ChName) → KeepsCapacity (caps c) (s.gates c)
    pub tails : (c : ChName) → Shifted c (s.tails c) (r.tails c)
    pub heads : (c : ChName) → Shifted c (s.heads c) (r.heads c)
    pub slots : (c : ChName) → LikeSlots c (caps c) (s.slots c) (r.slots c)

  pub data LikeCell : Cell → Cell → Type 0 where
    run_cell : (r : Run) → LikeCell (run_has r) (run_has r)
    go_cell : (n : List ℕ) {g h : Option Goroutine} → LikeGo g h → LikeCell (go_has n g) (go_has n h)
    gate_cell : (c : ChName) (gate : Option GateContent) → KeepsCapacity (caps c) gate → LikeCell (gate_has c gate) (gate_has c gate)
    tail_cell : (c : ChName) {n m : ℕ} → Shifted c n m → LikeCell (tail_has c n) (tail_has c m)
    head_cell : (c : ChName) {n m : ℕ} → Shifted c n m → LikeCell (head_has c n) (head_has c m)
    slot_cell : (c : ChName) (k : ℕ) {n m : ℕ} {o q : Option (ℕ × Value)} → caps c ≡ Some k → Shifted c n m → LikeItem o q → LikeCell (slot_has c (n % k) o) (slot_has c (m % k) q)

  pub data LikeCells : List Cell → List Cell → Type 0 where
    no_cells : LikeCells [] []
    more_cells : {c d : Cell} {cs ds : List Cell} → LikeCell c d → LikeCells cs ds → LikeCells (c ∷ cs) (d ∷ ds)

  module _ (s r : State) where
    -- the attempts end alike in the two states
    pub data LikeTry : Attempt → Attempt → Type 0 where
      refuses : {q : Refusal} → LikeTry (refuse q) (refuse q)
      performs : {q p : Report} {cs ds : List Cell} → LikeCells cs ds → LikeTry (perform q cs) (perform p ds)
      asks : {o p : Object} {f g : Cell → Attempt} → LikeTry (f (look s o)) (g (look r p)) → LikeTry (ask o f) (ask p g)

  -- the next number of both
  pub next_shifted : {c : ChName} {n m : ℕ} → Shifted c n m → Shifted c (n + 1) (m + 1)
  next_shifted {c} {n} {m} h = record { number = h.number + 1; first = let e = h.first in omega (arith, e); second = let e = h.second in omega (arith, e) }

  -- the same cell put into both
  by_name : {K X : Type 0} (equal : K → K → Bool) (is : (a b : K) → equal a b ≡ true → a ≡ b) (R : K → X → X → Type 0) (f g : K → X) (k : K) (a b : X)
      → ((n : K) → R n (f n) (g n)) → R k a b → (n : K) → R n (updated equal f k a n) (updated equal g k b n)
  by_name equal is R f g k a b all here n = by (equal n k) refl
    where
      by : (t : Bool) → equal n k ≡ t → R n (if t then a else f n) (if t then b else g n)
      by true e = subst (λ m. R m a b) (sym (is n k e)) here
      by false e = all n

  slots_like : (s r : State) (c : ChName) (k n m : ℕ) (o q : Option (ℕ × Value)) → caps c ≡ Some k → Shifted c n m → LikeItem o q → LikeSlots c (caps c) (s.slots c) (r.slots c)
      → LikeSlots c (caps c) (updated nat_eq (s.slots c) (n % k) o) (updated nat_eq (r.slots c) (m % k) q)
  slots_like s r c k n m o q at like item all =
      subst (λ z. LikeSlots c z (updated nat_eq (s.slots c) (n % k) o) (updated nat_eq (r.slots c) (m % k) q)) (sym at) (each (subst (λ z. LikeSlots c z (s.slots c) (r.slots c)) at all))
    where
      each : ((number : ℕ) → LikeItem (s.slots c ((number + x c) % k)) (r.slots c ((number + y c) % k))) → (number : ℕ)
          → LikeItem (updated nat_eq (s.slots c) (n % k) o ((number + x c) % k)) (updated nat_eq (r.slots c) (m % k) q ((number + y c) % k))
      each all number = by (nat_eq (number % k) (like.number % k))
          (ap (λ z. nat_eq ((number + x c) % k) (z % k)) like.first ∙ same_test number like.number (x c) k)
          (ap (λ z. nat_eq ((number + y c) % k) (z % k)) like.second ∙ same_test number like.number (y c) k)
        where
          by : (t : Bool) → nat_eq ((number + x c) % k) (n % k) ≡ t → nat_eq ((number + y c) % k) (m % k) ≡ t
              → LikeItem (updated nat_eq (s.slots c) (n % k) o ((number + x c) % k)) (updated nat_eq (r.slots c) (m % k) q ((number + y c) % k))
          by true e f = rw (e, f) item
          by false e f = rw (e, f) (all number)

  put_like : (s r : State) (c d : Cell) → Like s r → LikeCell c d → Like (put s c) (put r d)
  put_like s r _ _ w (run_cell q) = record {
    run = refl;
    goroutines = w.goroutines;
    gates = w.gates;
    capacities = w.capacities;
    tails = w.tails;
    heads = w.heads;
    slots = w.slots;
  }
  put_like s r _ _ w (go_cell n {g} {h} like) = record {
    run = w.run;
    goroutines = by_name same_go go_is (λ m a b. LikeGo a b) s.goroutines r.goroutines n g h w.goroutines like;
    gates = w.gates;
    capacities = w.capacities;
    tails = w.tails;
    heads = w.heads;
    slots = w.slots;
  }
  put_like s r _ _ w (gate_cell c gate keeps) = record {
    run = w.run;
    goroutines = w.goroutines;
    gates = by_name same_channel channel_is (λ m a b. a ≡ b) s.gates r.gates c gate gate w.gates refl;
    capacities = by_name same_channel channel_is (λ m a b. KeepsCapacity (caps m) a) s.gates s.gates c gate gate w.capacities keeps;
    tails = w.tails;
    heads = w.heads;
    slots = w.slots;
  }
  put_like s r _ _ w (tail_cell c {n} {m} like) = record {
    run = w.run;
    goroutines = w.goroutines;
    gates = w.gates;
    capacities = w.capacities;
    tails = by_name same_channel channel_is Shifted s.tails r.tails c n m w.tails like;
    heads = w.heads;
    slots = w.slots;
  }
  put_like s r _ _ w (head_cell c {n} {m} like) = record {
    run = w.run;
    goroutines = w.goroutines;
    gates = w.gates;
    capacities = w.capacities;
    tails = w.tails;
    heads = by_name same_channel channel_is Shifted s.heads r.heads c n m w.heads like;
    slots = w.slots;
  }
  put_like s r _ _ w (slot_cell c k {n} {m} {o} {q} at like item) = record {
    run = w.run;
    goroutines = w.goroutines;
    gates = w.gates;
    capacities = w.capacities;
    tails = w.tails;
    heads = w.heads;
    slots = by_name same_channel channel_is (λ d a b. LikeSlots d (caps d) a b) s.slots r.slots c (updated nat_eq (s.slots c) (n % k) o) (updated nat_eq (r.slots c) (m % k) q) w.slots
        (slots_like s r c k n m o q at like item (w.slots c));
  }

  all_like : (cs ds : List Cell) (s r : State) → Like s r → LikeCells cs ds → Like (fold put s cs) (fold put r ds)
  all_like _ _ s r w no_cells = w
  all_like _ _ s r w (more_cells {c} {d} {cs} {ds} here more) = all_like cs ds (put s c) (put r d) (put_like s r c d w here) more

  module _ (p : Program) (s r : State) where
    abbrev PlanOf : Type 0
    PlanOf = Plan Object Cell Report

    -- what the second attempt comes to
    record Planned (b : Attempt) (cs : List Cell) : Type 0 where
      plan_is : PlanOf
      planned : plan (rulebook p) r (rule_of b) ≡ Some plan_is
      cells : LikeCells cs plan_is.cells

    plan_like : (a b : Attempt) (x : PlanOf) → LikeTry s r a b → plan (rulebook p) s (rule_of a) ≡ Some x → Planned b x.cells
    plan_like _ _ x refuses h = absurd (none_not _ h)
    plan_like _ _ x (performs {q} {p = report} {cs} {ds} cells) h = record {
      plan_is = record { kind = report; reads = []; cells = ds };
      planned = refl;
      cells = subst (λ (z : PlanOf). LikeCells z.cells ds) (some_is _ _ h) cells;
    }
    plan_like _ _ x (asks {o} {p = e} {f} {g} like) h =
        by_rest (λ z k. plan_like (f (look s o)) (g (look r e)) z like k) (plan (rulebook p) s (rule_of (f (look s o)))) refl h
      where
        by_rest : ((z : PlanOf) → plan (rulebook p) s (rule_of (f (look s o))) ≡ Some z → Planned (g (look r e)) z.cells) → (z : Option PlanOf)
            → plan (rulebook p) s (rule_of (f (look s o))) ≡ z → with_read o z ≡ Some x → Planned (ask e g) x.cells
        by_rest ih None d k = absurd (none_not _ k)
        by_rest ih (Some z) d k =
            let v = ih z d in
            record {
              plan_is = record { kind = v.plan_is.kind; reads = e ∷ v.plan_is.reads; cells = v.plan_is.cells };
              planned = ap (with_read e) v.planned;
              cells = subst (λ (z : PlanOf). LikeCells z.cells v.plan_is.cells) (some_is _ _ k) v.cells;
            }

    -- from like states an event whose attempts are alike leads to like states
    pub goes_alike : (t : State) (e : Event) → Like s r → LikeTry s r (attempt p e) (attempt p e) → next_state p s e ≡ Some t
        → (u : State) × (next_state p r e ≡ Some u) × Like t u
    goes_alike t e w like h = by (plan (rulebook p) s (rule_of (attempt p e))) refl h
      where
        by : (x : Option PlanOf) → plan (rulebook p) s (rule_of (attempt p e)) ≡ x → option_map (λ q. q.0) (carried (rulebook p) s x) ≡ Some t
            → (u : State) × (next_state p r e ≡ Some u) × Like t u
        by None d k = absurd (none_not _ k)
        by (Some x) d k =
            let v = plan_like (attempt p e) (attempt p e) x like d in (
              fold put r v.plan_is.cells,
              ap (λ z. option_map (λ q. q.0) (carried (rulebook p) r z)) v.planned,
              subst (λ z. Like z (fold put r v.plan_is.cells)) (some_is _ _ k) (all_like x.cells v.plan_is.cells s r w v.cells),
            )
