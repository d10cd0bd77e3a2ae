-- Each step raises the count of its goroutine by one, notes the new count, and prints to the text of its goroutine; it leaves
-- the counts and the texts of all others. Each end of a buffer stays, or goes on by one place.
use Rattle.std.proofs.Common.{fold, ◌≡◌, ◌⊎◌, ℕ, ◌+◌, ◌%◌, ◌==◌, Bool, true, false, if◌then◌else◌, List, [], ◌∷◌, ◌++◌, Option, Some, None, option_map, refl, sym, ◌∙◌, ap, subst, inl, inr}
use Rattle.gr_base.specs.declared.names.ChName.{ChName}
use Rattle.gr_base.specs.declared.values.Value.{Value}
use Rattle.gr_base.specs.declared.kinds.Fault.{Fault}
use Rattle.gr_base.specs.declared.kinds.Kind.{Kind}
use Rattle.gr_base.specs.declared.objects.Object.{Object}
use Rattle.gr_causal.proofs.ListLemmas.{true_or_false, some_is}
use Rattle.gr_channels.specs.declared.waiter.Waiter.{Waiter}
use Rattle.gr_channels.specs.Objects.{GateContent}
use Rattle.gr_rules.specs.Outcomes.{Outcome, gives, faults, wrong, ◌>>=◌}
use Rattle.gr_rules.specs.Operators.{same_channel}
use Rattle.gr_rules.specs.Frames.{Frame}
use Rattle.gr_rules.specs.Deeds.{past}
use Rattle.gr_rules.specs.Goroutines.{Wait, Status, ready, waiting, finished, Goroutine}
use Rattle.gr_rules.specs.States.{Cell, run_has, go_has, gate_has, tail_has, head_has, slot_has, State, same_go, look, updated, put}
use Rattle.gr_rules.specs.Attempts.{Refusal, Operation, Attempt, refuse, perform, ask, if_there, ask_gate, room_for, ask_room, ask_item}
use Rattle.gr_rules.specs.Actors.{Actor, does, fault, given, if_gives, without, channels_but, if_waiting, ask_waiter, ask_withdrawn, met, ask_met}
use Rattle.gr_rules.specs.Steps.{steps_of, count}
use Rattle.gr_laws.specs.Consoles.{text_of}
use Rattle.gr_laws.proofs.CellLemmas.{go_is, go_self, channel_is, updated_here, updated_else}

-- how many steps a goroutine took, and what it printed
abbrev pub Tally : Type 0
Tally = ℕ × List (List ℕ)

abbrev pub tally : Option Goroutine → Tally
tally g = (steps_of g, text_of g)

-- after one step more, with the line that it printed
abbrev pub with_line : Option (List ℕ) → List (List ℕ) → List (List ℕ)
with_line None text = text
with_line (Some line) text = text ++ line ∷ []

abbrev pub stepped_on : Option (List ℕ) → Tally → Tally
stepped_on printed t = (t.0 + 1, with_line printed t.1)

-- the end of a buffer stays, or goes on by one place
abbrev pub GoesOn : ℕ → ℕ → Type 0
GoesOn old new = (new ≡ old) ⊎ (new ≡ old + 1)

module _ (s : State) (me : List ℕ) where
  -- none of these cells is of the goroutine, none changes the tally of another, and ends of buffers go on by one place
  abbrev pub Others : List Cell → Type 0
  Others [] = Unit {0}
  Others (go_has n x ∷ cs) = (n ≡ me → ⊥) × (tally x ≡ tally (s.goroutines n)) × Others cs
  Others (run_has r ∷ cs) = Others cs
  Others (gate_has c x ∷ cs) = Others cs
  Others (tail_has c n ∷ cs) = (n ≡ s.tails c + 1) × Others cs
  Others (head_has c n ∷ cs) = (n ≡ s.heads c + 1) × Others cs
  Others (slot_has c i x ∷ cs) = Others cs

  -- the attempt, where it is a step, writes its goroutine first, with one step more, which it notes, and what it printed
  abbrev pub Counts : Attempt → Type 0
  Counts (refuse r) = Unit {0}
  Counts (perform report []) = ⊥
  Counts (perform report (go_has n x ∷ cs)) =
      (n ≡ me) × (report.ordinal ≡ count s me + 1) × (tally x ≡ stepped_on report.printed (tally (s.goroutines me))) × Others cs
  Counts (perform report (run_has r ∷ cs)) = ⊥
  Counts (perform report (gate_has d x ∷ cs)) = ⊥
  Counts (perform report (tail_has d n ∷ cs)) = ⊥
  Counts (perform report (head_has d n ∷ cs)) = ⊥
  Counts (perform report (slot_has d i x ∷ cs)) = ⊥
  Counts (ask o f) = Counts (f (look s o))

  -- a state after such cells
  pub record Raised (printed : Option (List ℕ)) (t : State) : Type 0 where
    pub mine : tally (t.goroutines me) ≡ stepped_on printed (tally (s.goroutines me))
    pub others : (n : List ℕ) → (n ≡ me → ⊥) → tally (t.goroutines n) ≡ tally (s.goroutines n)
    pub tails : (c : ChName) → GoesOn (s.tails c) (t.tails c)
    pub heads : (c : ChName) → GoesOn (s.heads c) (t.heads c)

  put_other : {line : Option (List ℕ)} (t : State) (n : List ℕ) (x : Option Goroutine) → (n ≡ me → ⊥)
      → tally x ≡ tally (s.goroutines n)
      → Raised line t → Raised line (put t (go_has n x))
  put_other t n x h same r = record {
    mine = ap tally (updated_else same_go go_is t.goroutines n me x (λ e. h (sym e))) ∙ r.mine;
    others = λ o k. elim (true_or_false (same_go o n)) [
      | inl e ↦ let q = go_is o n e in rw e (same ∙ ap (λ m. tally (s.goroutines m)) (sym q))
      | inr e ↦ rw e (r.others o k)
    ];
    tails = r.tails;
    heads = r.heads;
  }

  -- the place of an end, where that of one channel changes
  end_goes_on : (f old : ChName → ℕ) (c : ChName) (n : ℕ) → n ≡ old c + 1 → ((d : ChName) → GoesOn (old d) (f d))
      → (d : ChName) → GoesOn (old d) (updated same_channel f c n d)
  end_goes_on f old c n is h d = elim (true_or_false (same_channel d c)) [
    | inl e ↦ rw e (inr (subst (λ m. n ≡ old m + 1) (sym (channel_is d c e)) is))
    | inr e ↦ rw e (h d)
  ]

  -- where neither goroutines nor ends change
  put_beside : {line : Option (List ℕ)} (t u : State) → u.goroutines ≡ t.goroutines → u.tails ≡ t.tails → u.heads ≡ t.heads
      → Raised line t → Raised line u
  put_beside t u goroutines tails heads r = record {
    mine = ap (λ (g : List ℕ → Option Goroutine). tally (g me)) goroutines ∙ r.mine;
    others = λ o k. ap (λ (g : List ℕ → Option Goroutine). tally (g o)) goroutines ∙ r.others o k;
    tails = λ c. subst (λ (f : ChName → ℕ). GoesOn (s.tails c) (f c)) (sym tails) (r.tails c);
    heads = λ c. subst (λ (f : ChName → ℕ). GoesOn (s.heads c) (f c)) (sym heads) (r.heads c);
  }

  put_tail : {line : Option (List ℕ)} (t : State) (c : ChName) (n : ℕ) → n ≡ s.tails c + 1 → Raised line t
      → Raised line (put t (tail_has c n))
  put_tail t c n is r = record { mine = r.mine; others = r.others; tails = end_goes_on t.tails s.tails c n is r.tails; heads = r.heads }

  put_head : {line : Option (List ℕ)} (t : State) (c : ChName) (n : ℕ) → n ≡ s.heads c + 1 → Raised line t
      → Raised line (put t (head_has c n))
  put_head t c n is r = record { mine = r.mine; others = r.others; tails = r.tails; heads = end_goes_on t.heads s.heads c n is r.heads }

  pub put_others : {line : Option (List ℕ)} (t : State) (cs : List Cell) → Others cs → Raised line t → Raised line (fold put t cs)
  put_others t [] o r = r
  put_others t (go_has n x ∷ cs) o r = put_others (put t (go_has n x)) cs o.2 (put_other t n x o.0 o.1 r)
  put_others t (tail_has c n ∷ cs) o r = put_others (put t (tail_has c n)) cs o.1 (put_tail t c n o.0 r)
  put_others t (head_has c n ∷ cs) o r = put_others (put t (head_has c n)) cs o.1 (put_head t c n o.0 r)
  put_others t (run_has q ∷ cs) o r = put_others (put t (run_has q)) cs o (put_beside t _ refl refl refl r)
  put_others t (gate_has c x ∷ cs) o r = put_others (put t (gate_has c x)) cs o (put_beside t _ refl refl refl r)
  put_others t (slot_has c i x ∷ cs) o r = put_others (put t (slot_has c i x)) cs o (put_beside t _ refl refl refl r)

  pub put_mine : {line : Option (List ℕ)} (x : Option Goroutine) → tally x ≡ stepped_on line (tally (s.goroutines me))
      → Raised line (put s (go_has me x))
  put_mine x e = record {
    mine = ap tally (updated_here same_go go_self s.goroutines me x) ∙ e;
    others = λ o k. ap tally (updated_else same_go go_is s.goroutines me o x k);
    tails = λ c. inl refl;
    heads = λ c. inl refl;
  }

not_both : (ws : List Wait) → ready ≡ waiting ws → ⊥
not_both ws e = cc

wrong_gives_none : {A : Type 0} {x : A} → wrong ≡ gives x → ⊥
wrong_gives_none e = cc

fault_gives_none : {A : Type 0} {x : A} {f : Fault} → faults f ≡ gives x → ⊥
fault_gives_none e = cc

gives_is : {A : Type 0} (x y : A) → gives x ≡ gives y → x ≡ y
gives_is x y e = cc

-- one that is met keeps its tally
pub met_tally : (clause : Option ℕ) (got : Option (Value × Bool)) (g q : Goroutine) (fs : List Frame)
    → met clause got g fs ≡ gives q → tally (Some q) ≡ tally (Some g)
met_tally clause got g q [] e = absurd (wrong_gives_none e)
met_tally clause got g q (f ∷ fs) e = by_past (past f clause got) e
  where
    by_past : (x : Outcome Frame) → (x >>= λ f. gives (record g { status = ready; frames = f ∷ fs })) ≡ gives q
        → tally (Some q) ≡ tally (Some g)
    by_past (gives f) d = sym (ap (λ x. tally (Some x)) (gives_is _ _ d))
    by_past (faults i) d = absurd (fault_gives_none d)
    by_past wrong d = absurd (wrong_gives_none d)

-- the rules, taken by a goroutine that is ready
module _ (s : State) (a : Actor) where
  -- the goroutine of the actor is this one, and it is ready
  pub record Ready : Type 0 where
    pub here : s.goroutines a.name ≡ Some a.before
    pub status : a.before.status ≡ ready

  pub record C (x : Attempt) : Type 0 where
    pub counts : Counts s a.name x

  abbrev pub O : List Cell → Type 0
  O = Others s a.name

  pub refused : {r : Refusal} → C (refuse r)
  refused = record { counts = tt }

  pub asked : {o : Object} {f : Cell → Attempt} → C (f (look s o)) → C (ask o f)
  asked h = record { counts = h.counts }

  pub there_counts : {A : Type 0} {k : A → Attempt} (o : Option A) → ((v : A) → C (k v)) → C (if_there k o)
  there_counts (Some v) h = h v
  there_counts None h = refused

  pub if_counts : (b : Bool) {x y : Attempt} → C x → C y → C (if b then x else y)
  if_counts true p q = p
  if_counts false p q = q

  pub gate_counts : {c : ChName} {k : GateContent → Attempt} → ((gate : GateContent) → C (k gate)) → C (ask_gate c k)
  gate_counts {c} h = asked (there_counts (s.gates c) h)

  pub room_counts : (c : ChName) (gate : GateContent) (k : Option ℕ → Attempt)
      → C (k None) → C (k (Some (s.tails c))) → C (ask_room c gate k)
  room_counts c gate k none some = asked (if_counts (gate.capacity == 0) none (asked (by_slot (s.slots c (s.tails c % gate.capacity)))))
    where
      by_slot : (x : Option (ℕ × Value)) → C (k (room_for (s.tails c) x))
      by_slot None = some
      by_slot (Some x) = none

  pub item_counts : (c : ChName) (gate : GateContent) (k : Option (ℕ × Value) → Attempt)
      → C (k None) → ((v : Value) → C (k (Some (s.heads c, v)))) → C (ask_item c gate k)
  item_counts c gate k none some = asked (if_counts (gate.capacity == 0) none (asked (by_slot (s.slots c (s.heads c % gate.capacity)))))
    where
      by_slot : (x : Option (ℕ × Value)) → C (k (option_map (λ x. (s.heads c, x.1)) x))
      by_slot None = none
      by_slot (Some x) = some x.1

  pub withdrawn_counts : (names : List (List ℕ)) (cs : List ChName) (k : List Cell → Attempt)
      → ((cells : List Cell) → O cells → C (k cells)) → C (ask_withdrawn names cs k)
  withdrawn_counts names [] k h = h [] tt
  withdrawn_counts names (c ∷ cs) k h = gate_counts (λ gate. withdrawn_counts names cs (λ cells. k (gate_has c (Some (without names gate)) ∷ cells))
      (λ cells o. h (gate_has c (Some (without names gate)) ∷ cells) o))

  module _ (it : Ready) where
    pub own : {x : Tally} (line : Option (List ℕ)) → x ≡ stepped_on line (tally (Some a.before))
        → x ≡ stepped_on line (tally (s.goroutines a.name))
    own line e = e ∙ ap (λ x. stepped_on line (tally x)) (sym it.here)

    pub own_count : a.before.steps + 1 ≡ count s a.name + 1
    own_count = ap (λ x. steps_of x + 1) (sym it.here)

    pub does_counts : {clause : Option ℕ} {operation : Option Operation} {kind : Kind} {g : Goroutine} {cells : List Cell}
        → tally (Some g) ≡ (a.before.steps + 1, a.before.text) → O cells → C (does a clause operation kind g cells)
    does_counts e o = record { counts = (refl, own_count, own None e, o) }

    pub fault_counts : (operation : Option Operation) (e : Fault) → C (fault a operation e)
    fault_counts operation e = does_counts refl tt

    pub given_counts : {A : Type 0} (x : Outcome A) {k : A → Attempt} → ((v : A) → C (k v)) → C (given a x k)
    given_counts (gives v) h = h v
    given_counts (faults e) h = fault_counts None e
    given_counts wrong h = refused

    waits_elsewhere : (n : List ℕ) (g : Goroutine) (ws : List Wait) → s.goroutines n ≡ Some g
        → g.status ≡ waiting ws → n ≡ a.name → ⊥
    waits_elsewhere n g ws at w e =
        let same : Some g ≡ Some a.before = sym at ∙ ap s.goroutines e ∙ it.here in
        let r : ready ≡ waiting ws = sym it.status ∙ sym (ap (λ (x : Goroutine). x.status) (some_is _ _ same)) ∙ w in
        not_both ws r

    pub waiter_counts : (n : List ℕ) (k : Goroutine → List Wait → Attempt)
        → ((g : Goroutine) (ws : List Wait) → (n ≡ a.name → ⊥) → tally (Some g) ≡ tally (s.goroutines n) → C (k g ws))
        → C (ask_waiter n k)
    waiter_counts n k h = asked (by_found (s.goroutines n) refl)
      where
        by_status : (g : Goroutine) → s.goroutines n ≡ Some g → (x : Status) → g.status ≡ x → C (if_waiting (k g) x)
        by_status g at ready e = refused
        by_status g at (waiting ws) e = h g ws (waits_elsewhere n g ws at e) (ap tally (sym at))
        by_status g at finished e = refused

        by_found : (x : Option Goroutine) → s.goroutines n ≡ x → C (if_there (λ g. if_waiting (k g) g.status) x)
        by_found None at = refused
        by_found (Some g) at = by_status g at g.status refl

    pub met_counts : {X : Type 0} (c : ChName) (w : Waiter X) (got : Option (Value × Bool)) (k : List Cell → Attempt)
        → ((cells : List Cell) → O cells → C (k cells)) → C (ask_met c w got k)
    met_counts c w got k h = waiter_counts w.go _ (λ g ws n e. withdrawn_counts (w.go ∷ []) (channels_but (c ∷ []) ws) _
        (λ cells o. by_met g n e cells o (met w.case got g g.frames) refl))
      where
        by_met : (g : Goroutine) → (w.go ≡ a.name → ⊥) → tally (Some g) ≡ tally (s.goroutines w.go) → (cells : List Cell)
            → O cells → (x : Outcome Goroutine)
            → met w.case got g g.frames ≡ x → C (if_gives (λ partner. k (go_has w.go (Some partner) ∷ cells)) x)
        by_met g n e cells o (gives q) d = h _ (n, met_tally w.case got g q g.frames d ∙ e, o)
        by_met g n e cells o (faults f) d = refused
        by_met g n e cells o wrong d = refused
