-- Preservation: what a step writes leaves a state whose values have sorts.
use Rattle.std.proofs.Common.{fold, ◌≡◌, ◌⊎◌, if◌then◌else◌, ℕ, ◌+◌, ◌<◌, ◌≤◌, arith, List, [], ◌∷◌, ◌++◌, Option, Some, None, refl, sym, ◌∙◌, ap, subst, inl, inr}
use Rattle.std.specs.List.{AllByRecursion}
use Rattle.std.proofs.lemmas.Bool.{cases_Bool}
use Rattle.std.proofs.lemmas.Option.{same_Some, none-some}
use Rattle.gr_base.specs.declared.names.ChName.{ChName}
use Rattle.gr_base.specs.declared.values.Value.{Value}
use Rattle.gr_base.specs.declared.objects.Object.{Object}
use Rattle.gr_base.specs.declared.objects.Object.TheVariants as objects
use Rattle.gr_base.specs.declared.objects.Object.TheVariants.{Go, Gate, Tail, Head, Slot}
use Rattle.gr_causal.specs.Sequences.{In}
use Rattle.gr_causal.proofs.ListLemmas.{cons_is}
use Rattle.gr_channels.specs.declared.waiter.Waiter.{Waiter}
use Rattle.gr_channels.specs.Objects.{GateContent}
use Rattle.gr_typing.specs.Scopes.{Signature}
use Rattle.gr_rules.specs.Operators.{same_channel}
use Rattle.gr_rules.specs.Goroutines.{Goroutine}
use Rattle.gr_rules.specs.States.{Cell, run_has, go_has, gate_has, tail_has, head_has, slot_has, State, same_go, look, updated, put}
use Rattle.gr_laws.specs.Soundness.{SoundChannel, Sound}
use Rattle.gr_laws.proofs.CellLemmas.{go_is, go_self, channel_is, channel_self, updated_here, updated_else}
use Rattle.gr_laws.proofs.WaitLemmas.{all_map, which_go, settled}
use Rattle.type_safety.specs.Standing.{children_of, AreFresh}
use Rattle.type_safety.proofs.Sorts.{Sort, Made, More, HasSort}
use Rattle.type_safety.proofs.Running.{SortedGoroutine, SortedState}
use Rattle.type_safety.proofs.Attempting.{SortedCell, SortedCells, plain, makes, starts, with_channel}
use Rattle.type_safety.proofs.SortedValues.{sort_more}
use Rattle.type_safety.proofs.SortedFrames.{goroutine_more}

pub more_itself : (made : Made) → More made made
more_itself made c k e = e

-- a channel that was not made before
pub more_channel : (made : Made) (c : ChName) (k : Sort) → made c ≡ None → More made (with_channel made c k)
more_channel made c k none d l e =
    updated_else same_channel channel_is made c d (Some k) (λ q. none-some _ (sym none ∙ ap made (sym q) ∙ e)) ∙ e

pub has_channel_made : (made : Made) (c : ChName) (k : Sort) → with_channel made c k c ≡ Some k
has_channel_made made c k = updated_here same_channel channel_self made c (Some k)

not_empty : (m : List ℕ) (i : ℕ) (rest : List ℕ) → m ++ i ∷ rest ≡ [] → ⊥
not_empty [] i rest e = cc
not_empty (x ∷ m) i rest e = cc

-- a name that begins with another and a count is that of a child, or its parent's begins so too
child_or_below : (m : List ℕ) (i : ℕ) (rest n : List ℕ) (j : ℕ) → m ++ i ∷ rest ≡ n ++ j ∷ []
    → ((m ≡ n) × (i ≡ j)) ⊎ ((others : List ℕ) × (n ≡ m ++ i ∷ others))
child_or_below [] i rest [] j e = inl (refl, (cons_is _ _ _ _ e).0)
child_or_below [] i rest (y ∷ n) j e = inr (n, ap (λ z. z ∷ n) (sym (cons_is _ _ _ _ e).0))
child_or_below (x ∷ m) i rest [] j e = absurd (not_empty m i rest (cons_is _ _ _ _ e).1)
child_or_below (x ∷ m) i rest (y ∷ n) j e =
    let h = cons_is _ _ _ _ e in
    elim (child_or_below m i rest n j h.1) [
      | inl p ↦ inl (ap (λ z. z ∷ m) h.0 ∙ ap (◌∷◌ y) p.0, p.1)
      | inr p ↦ inr (p.0, ap (◌∷◌ y) p.1 ∙ ap (λ z. z ∷ m ++ i ∷ p.0) (sym h.0))
    ]

longer : (n : List ℕ) (i : ℕ) → n ≡ n ++ i ∷ [] → ⊥
longer [] i e = cc
longer (x ∷ n) i e = longer n i (cons_is _ _ _ _ e).1

-- what the sorts of its values say of an object with its content
abbrev Good : List Signature → Made → Cell → Type 0
Good fs made (go_has n x) = (g : Goroutine) → x ≡ Some g → SortedGoroutine fs made g
Good fs made (gate_has c x) =
    (gate : GateContent) → x ≡ Some gate
    → (k : Sort) × (made c ≡ Some k) × ((w : Waiter Value) → In w gate.senders → HasSort made w.value k)
Good fs made (slot_has c i x) =
    (item : ℕ × Value) (k : Sort) → x ≡ Some item → made c ≡ Some k → HasSort made item.1 k
Good fs made _ = Unit {0}

-- a channel that was made has a gate
abbrev There : Made → Cell → Type 0
There made (gate_has c x) = (k : Sort) → made c ≡ Some k → (gate : GateContent) × (x ≡ Some gate)
There made _ = Unit {0}

-- a goroutine has as many children as before, and none came
abbrev Same : State → Cell → Type 0
Same s (go_has n x) = (children_of x ≡ children_of (s.goroutines n)) × (s.goroutines n ≡ None → x ≡ None)
Same s _ = Unit {0}

same_itself : (s : State) (o : Object) → Same s (look s o)
same_itself s objects.Run = tt
same_itself s (Go n) = (refl, λ e. e)
same_itself s (Gate c) = tt
same_itself s (Tail c) = tt
same_itself s (Head c) = tt
same_itself s (Slot c i) = tt

from_good : (fs : List Signature) (made : Made) (t : State) → ((o : Object) → Good fs made (look t o))
    → ((o : Object) → There made (look t o))
    → AreFresh t → SortedState fs made t
from_good fs made t good there fresh = record {
  goroutines = λ n. good (Go n);
  gates = λ c. there (Gate c);
  channels = λ c gate e. let x = good (Gate c) gate e in (x.0, x.1);
  senders =
      λ c gate k w e m i. let x =
      good (Gate c) gate e in subst (HasSort made w.value) (same_Some _ _ (sym x.1 ∙ m)) (x.2 w i);
  items = λ c i n v k. good (Slot c i) (n, v) k;
  fresh = fresh;
}

module _ (fs : List Signature) (made : Made) (s : State) (sound : Sound s) (sorted : SortedState fs made s) where
  there_before : (o : Object) → There made (look s o)
  there_before objects.Run = tt
  there_before (Go n) = tt
  there_before (Gate c) = sorted.gates c
  there_before (Tail c) = tt
  there_before (Head c) = tt
  there_before (Slot c i) = tt

  -- a channel in whose slots a value is was made
  made_by_item : (c : ChName) (i : ℕ) (item : ℕ × Value) → s.slots c i ≡ Some item → (k : Sort) × (made c ≡ Some k)
  made_by_item c i item e = by_gate (s.gates c) refl (sound.channels c)
    where
      by_gate : (x : Option GateContent) → s.gates c ≡ x → SoundChannel x (s.heads c) (s.tails c) (s.slots c)
          → (k : Sort) × (made c ≡ Some k)
      by_gate None d h = absurd (none-some _ (sym (h.none_held i) ∙ e))
      by_gate (Some gate) d h = sorted.channels c gate d

  module _ (after : Made) (more : More made after) where
    good_before : (o : Object) → Good fs after (look s o)
    good_before objects.Run = tt
    good_before (Go n) = λ g e. goroutine_more fs made after g more (sorted.goroutines n g e)
    good_before (Gate c) = λ gate e.
        let k = sorted.channels c gate e in
        (k.0, more c k.0 k.1, λ w i. sort_more made after more (sorted.senders c gate k.0 w e k.1 i))
    good_before (Tail c) = tt
    good_before (Head c) = tt
    good_before (Slot c i) = λ item k e m.
        let l = made_by_item c i item e in
        subst (HasSort after item.1) (same_Some _ _ (sym (more c l.0 l.1) ∙ m)) (sort_more made after more (sorted.items c i item.0 item.1 l.0 e l.1))

  good_cell : (x : Cell) → SortedCell fs made s x → Good fs made x
  good_cell (run_has r) h = tt
  good_cell (go_has n None) h = absurd h
  good_cell (go_has n (Some g)) h = λ g' e. subst (SortedGoroutine fs made) (same_Some _ _ e) h.0
  good_cell (gate_has c None) h = absurd h
  good_cell (gate_has c (Some gate)) h =
      λ m e. subst
      (λ (gate : GateContent).
      (k : Sort) × (made c ≡ Some k) × ((w : Waiter Value) → In w gate.senders → HasSort made w.value k))
      (same_Some _ _ e) h
  good_cell (tail_has c n) h = tt
  good_cell (head_has c n) h = tt
  good_cell (slot_has c i None) h = λ item k e. absurd (none-some _ e)
  good_cell (slot_has c i (Some item)) h =
      λ it k e m. subst (λ (item : ℕ × Value). HasSort made item.1 k) (same_Some _ _ e) (h k m)

  there_cell : (x : Cell) → SortedCell fs made s x → There made x
  there_cell (run_has r) h = tt
  there_cell (go_has n x) h = tt
  there_cell (gate_has c None) h = absurd h
  there_cell (gate_has c (Some gate)) h = λ k e. (gate, refl)
  there_cell (tail_has c n) h = tt
  there_cell (head_has c n) h = tt
  there_cell (slot_has c i x) h = tt

  same_cell : (x : Cell) → SortedCell fs made s x → Same s x
  same_cell (run_has r) h = tt
  same_cell (go_has n None) h = absurd h
  same_cell (go_has n (Some g)) h = (h.3 ∙ sym (ap children_of h.2), λ e. absurd (none-some _ (sym e ∙ h.2)))
  same_cell (gate_has c x) h = tt
  same_cell (tail_has c n) h = tt
  same_cell (head_has c n) h = tt
  same_cell (slot_has c i x) h = tt

  plain_sorted : (cells : List Cell) → AllByRecursion (SortedCell fs made s) cells → SortedState fs made (fold put s cells)
  plain_sorted cells h =
      let t = fold put s cells in
      let same : (o : Object) → Same s (look t o) =
      λ o. settled (Same s) o s cells (all_map _ _ cells same_cell h) (inr (same_itself s o)) in
      from_good fs made t
      (λ o. settled (Good fs made) o s cells (all_map _ _ cells good_cell h)
      (inr (good_before made (more_itself made) o)))
      (λ o. settled (There made) o s cells (all_map _ _ cells there_cell h) (inr (there_before o)))
      (λ n i rest less. (same (Go (n ++ i ∷ rest))).1
      (sorted.fresh n i rest (subst (λ x. x < i) (same (Go n)).0 less)))

  -- a state in which one more channel was made
  made_sorted : (n : List ℕ) (g h : Goroutine) (c : ChName) (gate : GateContent) (k : Sort) → made c ≡ None
      → SortedGoroutine fs (with_channel made c k) g → s.goroutines n ≡ Some h
      → g.children ≡ h.children → gate.senders ≡ []
      → SortedState fs (with_channel made c k) (fold put s (go_has n (Some g) ∷ gate_has c (Some gate) ∷ []))
  made_sorted n g h c gate k none on at same nobody =
      let after = with_channel made c k in
      let cells = go_has n (Some g) ∷ gate_has c (Some gate) ∷ [] in
      let t = fold put s cells in
      let here : Same s (go_has n (Some g)) =
      (same ∙ sym (ap children_of at), λ e. absurd (none-some _ (sym e ∙ at))) in
      let kept : (o : Object) → Same s (look t o) =
      λ o. settled (Same s) o s cells (here, (tt, tt)) (inr (same_itself s o)) in
      from_good fs after t
      (λ o. settled (Good fs after) o s cells (
        λ g' e. subst (SortedGoroutine fs after) (same_Some _ _ e) on,
        (
          λ gate' e. (
            k,
            has_channel_made made c k,
            λ w i. absurd
                (subst (In w) (ap (λ (x : GateContent). x.senders) (sym (same_Some _ _ e)) ∙ nobody) i),
          ),
          tt,
        ),
      ) (inr (good_before after (more_channel made c k none) o)))
      (λ o. settled (There after) o s cells (tt, (λ l e. (gate, refl), tt)) (gates o))
      (λ m i rest less. (kept (Go (m ++ i ∷ rest))).1
      (sorted.fresh m i rest (subst (λ x. x < i) (kept (Go m)).0 less)))
    where
      gates : (o : Object) → In o (Go n ∷ Gate c ∷ []) ⊎ There (with_channel made c k) (look s o)
      gates objects.Run = inr tt
      gates (Go m) = inr tt
      gates (Gate d) = elim (cases_Bool (same_channel d c)) [
        | inl e ↦ inl (inr (inl (ap Gate (channel_is d c e))))
        | inr e ↦ inr (λ l q. sorted.gates d l (sym (ap (λ b. if b then Some k else made d) e) ∙ q))
      ]
      gates (Tail d) = inr tt
      gates (Head d) = inr tt
      gates (Slot d i) = inr tt

  -- a state in which one more goroutine was started
  module _ (n : List ℕ) (g h child : Goroutine) (on : SortedGoroutine fs made g) (at : s.goroutines n ≡ Some h) (more : g.children ≡ h.children + 1)
      (begins : SortedGoroutine fs made child) (none : child.children ≡ 0) where
    abbrev name : List ℕ
    name = n ++ g.children ∷ []

    abbrev t : State
    t = fold put s (go_has n (Some g) ∷ go_has name (Some child) ∷ [])

    count_before : children_of (s.goroutines n) ≡ h.children
    count_before = ap children_of at

    absent_before : s.goroutines name ≡ None
    absent_before = let count = count_before in sorted.fresh n g.children [] (omega arith)

    -- where a goroutine has no more children than before, none that was absent came
    abbrev Grew : Cell → Type 0
    Grew (go_has m x) = children_of (s.goroutines m) ≤ children_of x
    Grew _ = Unit {0}

    grew_itself : (o : Object) → Grew (look s o)
    grew_itself objects.Run = tt
    grew_itself (Go m) = omega arith
    grew_itself (Gate c) = tt
    grew_itself (Tail c) = tt
    grew_itself (Head c) = tt
    grew_itself (Slot c i) = tt

    grew : (m : List ℕ) → children_of (s.goroutines m) ≤ children_of (t.goroutines m)
    grew m =
        let before = count_before in
        let count : children_of (s.goroutines name) ≡ 0 = ap children_of absent_before in
        settled Grew (Go m) s (go_has n (Some g) ∷ go_has name (Some child) ∷ []) (omega arith, (omega arith, tt)) (inr (grew_itself (Go m)))

    parent_there : t.goroutines n ≡ Some g
    parent_there =
        updated_else same_go go_is (updated same_go s.goroutines n (Some g)) name n (Some child)
        (longer n g.children) ∙ updated_here same_go go_self s.goroutines n (Some g)

    -- a name that begins with that of a goroutine and a count beyond its children is not the new one
    not_new : (m : List ℕ) (i : ℕ) (rest : List ℕ) → children_of (t.goroutines m) < i → m ++ i ∷ rest ≡ name → ⊥
    not_new m i rest less e =
        let le = grew m in
        elim (child_or_below m i rest n g.children e) [
          | inl p ↦
              let count : children_of (t.goroutines m) ≡ g.children =
              ap (λ m. children_of (t.goroutines m)) p.0 ∙ ap children_of parent_there in
              let same : i ≡ g.children = p.1 in
              absurd (omega arith)
          | inr p ↦ none-some _ (sym (sorted.fresh m i p.0 (omega arith)) ∙ ap s.goroutines (sym p.1) ∙ at)
        ]

    absent : AreFresh t
    absent m i rest less =
        let le = grew m in
        let none_before : s.goroutines (m ++ i ∷ rest) ≡ None = sorted.fresh m i rest (omega arith) in
        elim (which_go (m ++ i ∷ rest) n) [
          | inl e ↦ absurd (none-some _ (sym none_before ∙ ap s.goroutines e ∙ at))
          | inr other ↦
              updated_else same_go go_is (updated same_go s.goroutines n (Some g)) name (m ++ i ∷ rest) (Some child) (not_new m i rest less)
              ∙ updated_else same_go go_is s.goroutines n (m ++ i ∷ rest) (Some g) other ∙ none_before
        ]

    started_sorted : SortedState fs made t
    started_sorted =
        let cells = go_has n (Some g) ∷ go_has name (Some child) ∷ [] in
        from_good fs made t
        (λ o. settled (Good fs made) o s cells (
          λ g' e. subst (SortedGoroutine fs made) (same_Some _ _ e) on,
          (λ g' e. subst (SortedGoroutine fs made) (same_Some _ _ e) begins, tt),
        )
        (inr (good_before made (more_itself made) o)))
        (λ o. settled (There made) o s cells (tt, (tt, tt)) (inr (there_before o)))
        absent

  -- what a step writes leaves a state whose values have sorts, among more channels it may be
  pub written_sorted : (cells : List Cell) → SortedCells fs made s cells → (after : Made)
      × SortedState fs after (fold put s cells)
  written_sorted cells (plain h) = (made, plain_sorted cells h)
  written_sorted cells (makes none on at same nobody) = (_, made_sorted _ _ _ _ _ _ none on at same nobody)
  written_sorted cells (starts on at more begins none) = (made, started_sorted _ _ _ _ on at more begins none)
