-- States in which the same matters go on alike, and are bad alike.
use Rattle.std.proofs.Common.{◌≡◌, ℕ, ◌+◌, ◌-◌, ◌%◌, ◌≤◌, List, [], ◌∷◌, Option, Some, None, option_map, refl, sym, ◌∙◌, ap, subst, inl, inr, arith}
use Rattle.gr_base.specs.declared.names.ChName.{ChName}
use Rattle.gr_base.specs.declared.values.Value.{Value}
use Rattle.gr_base.specs.declared.events.Event.{Event}
use Rattle.gr_causal.proofs.ListLemmas.{some_is, none_not}
use Rattle.gr_channels.specs.Objects.{GateContent}
use Rattle.gr_program.specs.Programs.{Program}
use Rattle.gr_rules.specs.Goroutines.{Goroutine, ready}
use Rattle.gr_rules.specs.States.{State}
use Rattle.gr_laws.specs.Reached.{Reached}
use Rattle.gr_laws.specs.Soundness.{SoundChannel, Sound, made_by}
use Rattle.gr_laws.proofs.RuleSound.{reached_sound}
use Rattle.gr_schedules.specs.Matters.{Matter, bare, values_from, matter}
use Rattle.gr_schedules.specs.Schedules.{IsBad, next_state}
use Rattle.gr_schedules.specs.Aims.{Leaks, is_left, is_waiting}
use Rattle.gr_schedules.proofs.LikeAttempts.{aged, LikeGo, neither, both, Shifted, LikeItem, no_item, an_item, LikeSlots, KeepsCapacity, Like, goes_alike}
use Rattle.gr_schedules.proofs.LikeRules.{capacities_in, NextIsFresh, attempt_like}

-- goroutines that are bare the same
aged_by : (g h : Goroutine) → bare g ≡ bare h → aged g h.steps h.text ≡ h
aged_by g h e = λ i. record (e i) { steps = h.steps; text = h.text }

like_goroutines : (a b : Option Goroutine) → option_map bare a ≡ option_map bare b → LikeGo a b
like_goroutines None None e = neither
like_goroutines None (Some h) e = absurd (none_not _ e)
like_goroutines (Some g) None e = absurd (none_not _ (sym e))
like_goroutines (Some g) (Some h) e = subst (λ z. LikeGo (Some g) (Some z)) (aged_by g h (some_is _ _ e)) (both g h.steps h.text)

same_bare : (a b : Option Goroutine) → LikeGo a b → option_map bare a ≡ option_map bare b
same_bare _ _ neither = refl
same_bare _ _ (both g n text) = refl

abbrev value_in : Option (ℕ × Value) → Option Value
value_in o = option_map (λ item. item.1) o

module _ (x y : ChName → ℕ) (caps : ChName → Option ℕ) where
  like_items : (a b : Option (ℕ × Value)) → value_in a ≡ value_in b → LikeItem x y caps a b
  like_items None None e = no_item
  like_items None (Some b) e = absurd (none_not _ e)
  like_items (Some a) None e = absurd (none_not _ (sym e))
  like_items (Some (n, v)) (Some (m, u)) e = subst (λ z. LikeItem x y caps (Some (n, v)) (Some (m, z))) (some_is v u e) (an_item n m v)

  same_values : (a b : Option (ℕ × Value)) → LikeItem x y caps a b → value_in a ≡ value_in b
  same_values _ _ no_item = refl
  same_values _ _ (an_item n m v) = refl

-- no value left a buffer before it entered
ordered : (o : Option GateContent) (head tail : ℕ) (slots : ℕ → Option (ℕ × Value)) → SoundChannel o head tail slots → head ≤ tail
ordered None head tail slots h = let e = h.none_left in omega (arith, e)
ordered (Some gate) head tail slots h = h.ordered

-- states in which the same matters are alike
module _ (s r : State) (first : Sound s) (second : Sound r) (same : matter s ≡ matter r) where
  gates_same : (c : ChName) → s.gates c ≡ r.gates c
  gates_same c = ap (λ (m : Matter). m.gates c) same

  counts_same : (c : ChName) → s.tails c - s.heads c ≡ r.tails c - r.heads c
  counts_same c = ap (λ (m : Matter). m.counts c) same

  ends_like : (c : ChName) → Shifted s.heads r.heads (capacities_in s) c (s.tails c) (r.tails c)
  ends_like c =
      let a = ordered (s.gates c) (s.heads c) (s.tails c) (s.slots c) (first.channels c) in
      let b = ordered (r.gates c) (r.heads c) (r.tails c) (r.slots c) (second.channels c) in
      let e = counts_same c in
      record { number = s.tails c - s.heads c; first = omega (arith, a); second = omega (arith, b, e) }

  slots_like : (c : ChName) → LikeSlots s.heads r.heads (capacities_in s) c (capacities_in s c) (s.slots c) (r.slots c)
  slots_like c = by (s.gates c) refl
    where
      by : (o : Option GateContent) → s.gates c ≡ o → LikeSlots s.heads r.heads (capacities_in s) c (option_map (λ (gate : GateContent). gate.capacity) o) (s.slots c) (r.slots c)
      by None e = λ i.
          let a = subst (λ o. SoundChannel o (s.heads c) (s.tails c) (s.slots c)) e (first.channels c) in
          let b = subst (λ o. SoundChannel o (r.heads c) (r.tails c) (r.slots c)) (sym (gates_same c) ∙ e) (second.channels c) in
          like_items s.heads r.heads (capacities_in s) (s.slots c i) (r.slots c i) (ap value_in (a.none_held i) ∙ sym (ap value_in (b.none_held i)))
      by (Some gate) e = λ i.
          like_items s.heads r.heads (capacities_in s) (s.slots c ((i + s.heads c) % gate.capacity)) (r.slots c ((i + r.heads c) % gate.capacity))
          (sym (ap (λ o. values_from o (s.heads c) (s.slots c) i) e) ∙ ap (λ (m : Matter). m.values c i) same ∙ ap (λ o. values_from o (r.heads c) (r.slots c) i) (sym (gates_same c) ∙ e))

  keeps : (c : ChName) (o : Option GateContent) → KeepsCapacity s.heads r.heads (capacities_in s) (option_map (λ (gate : GateContent). gate.capacity) o) o
  keeps c None = tt
  keeps c (Some gate) = (gate, refl, refl)

  pub like_by : Like s.heads r.heads (capacities_in s) s r
  like_by = record {
    run = ap (λ (m : Matter). m.run) same;
    goroutines = λ n. like_goroutines (s.goroutines n) (r.goroutines n) (ap (λ (m : Matter). m.goroutines n) same);
    gates = gates_same;
    capacities = λ c. keeps c (s.gates c);
    tails = ends_like;
    heads = λ c. record { number = 0; first = omega arith; second = omega arith };
    slots = slots_like;
  }

  -- no value left a channel that is not there
  pub none_left : (c : ChName) → capacities_in s c ≡ None → (s.heads c ≡ 0) × (r.heads c ≡ 0)
  none_left c e = by (s.gates c) refl e
    where
      by : (o : Option GateContent) → s.gates c ≡ o → option_map (λ (gate : GateContent). gate.capacity) o ≡ None → (s.heads c ≡ 0) × (r.heads c ≡ 0)
      by None at e =
          let a = subst (λ o. SoundChannel o (s.heads c) (s.tails c) (s.slots c)) at (first.channels c) in
          let b = subst (λ o. SoundChannel o (r.heads c) (r.tails c) (r.slots c)) (sym (gates_same c) ∙ at) (second.channels c) in
          (a.none_left, b.none_left)
      by (Some gate) at e = absurd (none_not _ (sym e))

-- in states that are alike the same matters
module _ (x y : ChName → ℕ) (caps : ChName → Option ℕ) (new : (c : ChName) → caps c ≡ None → (x c ≡ 0) × (y c ≡ 0)) (t u : State) (w : Like x y caps t u) where
  same_counts : (c : ChName) → t.tails c - t.heads c ≡ u.tails c - u.heads c
  same_counts c =
      let h = w.tails c in
      let k = w.heads c in
      let a = h.first in
      let b = h.second in
      let d = k.first in
      let e = k.second in
      omega (arith, a, b, d, e)

  -- the value in a place of both buffers
  in_place : (c : ChName) (k i : ℕ) → caps c ≡ Some k → value_in (t.slots c ((i + t.heads c) % k)) ≡ value_in (u.slots c ((i + u.heads c) % k))
  in_place c k i at =
      let h = w.heads c in
      let a = h.first in
      let b = h.second in
      let left : i + t.heads c ≡ (i + h.number) + x c = omega (arith, a) in
      let right : i + u.heads c ≡ (i + h.number) + y c = omega (arith, b) in
      let all : (number : ℕ) → LikeItem x y caps (t.slots c ((number + x c) % k)) (u.slots c ((number + y c) % k)) = subst (λ o. LikeSlots x y caps c o (t.slots c) (u.slots c)) at (w.slots c) in
      ap (λ n. value_in (t.slots c (n % k))) left ∙ same_values x y caps _ _ (all (i + h.number)) ∙ sym (ap (λ n. value_in (u.slots c (n % k))) right)

  values_by : (c : ChName) (i : ℕ) (o : Option ℕ) → caps c ≡ o → values_from (t.gates c) (t.heads c) (t.slots c) i ≡ values_from (t.gates c) (u.heads c) (u.slots c) i
  values_by c i (Some k) at =
      let g = subst (λ o. KeepsCapacity x y caps o (t.gates c)) at (w.capacities c) in
      let here : (head : ℕ) (slots : ℕ → Option (ℕ × Value)) → values_from (t.gates c) head slots i ≡ value_in (slots ((i + head) % k)) =
      λ head slots. ap (λ o. values_from o head slots i) g.1 ∙ ap (λ n. value_in (slots ((i + head) % n))) g.2 in
      here (t.heads c) (t.slots c) ∙ in_place c k i at ∙ sym (here (u.heads c) (u.slots c))
  values_by c i None at =
      let all : (i : ℕ) → LikeItem x y caps (t.slots c i) (u.slots c i) = subst (λ o. LikeSlots x y caps c o (t.slots c) (u.slots c)) at (w.slots c) in
      let h = w.heads c in
      let a = h.first in
      let b = h.second in
      let d = (new c at).0 in
      let e = (new c at).1 in
      let heads : t.heads c ≡ u.heads c = omega (arith, a, b, d, e) in
      by (t.gates c) all ∙ ap (λ n. values_from (t.gates c) n (u.slots c) i) heads
    where
      by : (o : Option GateContent) → ((i : ℕ) → LikeItem x y caps (t.slots c i) (u.slots c i)) → values_from o (t.heads c) (t.slots c) i ≡ values_from o (t.heads c) (u.slots c) i
      by None all = refl
      by (Some gate) all = same_values x y caps _ _ (all ((i + t.heads c) % gate.capacity))

  pub same_matter : matter t ≡ matter u
  same_matter =
      let run = w.run in
      let goroutines : (n : List ℕ) → option_map bare (t.goroutines n) ≡ option_map bare (u.goroutines n) = λ n. same_bare (t.goroutines n) (u.goroutines n) (w.goroutines n) in
      let gates = w.gates in
      let values : (c : ChName) (i : ℕ) → values_from (t.gates c) (t.heads c) (t.slots c) i ≡ values_from (u.gates c) (u.heads c) (u.slots c) i =
      λ c i. values_by c i (caps c) refl ∙ ap (λ o. values_from o (u.heads c) (u.slots c) i) (gates c) in
      λ j. record { run = run j; goroutines = λ n. goroutines n j; gates = λ c. gates c j; counts = λ c. same_counts c j; values = λ c i. values c i j }

-- the channel that a goroutine makes next is not there
next_is_fresh : (s : State) (name : List ℕ) (o : Option Goroutine) → s.goroutines name ≡ o → Sound s → (x y : ChName → ℕ) (r : State) (w : Like x y (capacities_in s) s r)
    → NextIsFresh x y s r w name o
next_is_fresh s name None at sound x y r w = tt
next_is_fresh s name (Some g) at sound x y r w =
    let made : made_by (s.goroutines name) ≡ g.channels = ap made_by at in
    sound.named (record { go = name; n = g.channels + 1 }) (omega (arith, made))

-- where the same matters, an event leads to where the same matters
pub goes_like : (p : Program) (s r t : State) (e : Event) → Reached p s → Reached p r → matter s ≡ matter r → next_state p s e ≡ Some t
    → (u : State) × (next_state p r e ≡ Some u) × (matter t ≡ matter u)
goes_like p s r t e i j same h =
    let first = reached_sound p s i.log i.leads in
    let second = reached_sound p r j.log j.leads in
    let w = like_by s r first second same in
    let fresh = next_is_fresh s e.go (s.goroutines e.go) refl first s.heads r.heads r w in
    let u = goes_alike s.heads r.heads (capacities_in s) p s r t e w (attempt_like s.heads r.heads s r w p e fresh) h in
    (u.0, u.1, same_matter s.heads r.heads (capacities_in s) (none_left s r first second same) t u.0 u.2)

-- and is bad alike
ready_like : (a b : Option Goroutine) → LikeGo a b → (z : Goroutine) × (b ≡ Some z) × (z.status ≡ ready) → (z : Goroutine) × (a ≡ Some z) × (z.status ≡ ready)
ready_like _ _ neither h = absurd (none_not _ h.1)
ready_like _ _ (both g n text) h = (g, refl, ap (λ (z : Goroutine). z.status) (some_is _ _ h.1) ∙ h.2)

pub bad_like : (s r : State) → matter s ≡ matter r → IsBad s → IsBad r
bad_like s r same bad = elim bad [
  | inl f ↦ inl (f.0, sym (ap (λ (m : Matter). m.run) same) ∙ f.1)
  | inr q ↦ inr (
    sym (ap (λ (m : Matter). m.run) same) ∙ q.0,
    λ g ready. q.1 g (ready_like (s.goroutines g) (r.goroutines g) (like_goroutines (s.goroutines g) (r.goroutines g) (ap (λ (m : Matter). m.goroutines g) same)) ready),
  )
]

-- and leaks alike
bare_waits : (o : Option Goroutine) → is_waiting o ≡ is_waiting (option_map bare o)
bare_waits None = refl
bare_waits (Some g) = refl

same_left : (s r : State) → matter s ≡ matter r → (g : List ℕ) → is_left s g ≡ is_left r g
same_left s r same [] = refl
same_left s r same (n ∷ ns) =
    bare_waits (s.goroutines (n ∷ ns)) ∙ ap is_waiting (ap (λ (m : Matter). m.goroutines (n ∷ ns)) same) ∙ sym (bare_waits (r.goroutines (n ∷ ns)))

pub leaks_like : (s r : State) → matter s ≡ matter r → Leaks s → Leaks r
leaks_like s r same k =
    let like : (g : List ℕ) → LikeGo (s.goroutines g) (r.goroutines g) = λ g. like_goroutines (s.goroutines g) (r.goroutines g) (ap (λ (m : Matter). m.goroutines g) same) in
    record {
      over = sym (ap (λ (m : Matter). m.run) same) ∙ k.over;
      left = k.left;
      waits = sym (same_left s r same k.left) ∙ k.waits;
      none_ready = λ g ready. k.none_ready g (ready_like (s.goroutines g) (r.goroutines g) (like g) ready);
    }
