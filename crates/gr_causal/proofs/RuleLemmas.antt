-- A machine made of rules meets the laws, whatever the rules.
use Rattle.std.proofs.Common.{◌≡◌, true, false, List, [], ◌∷◌, ◌++◌, map, fold, Option, Some, None, ◌⊎◌, refl, sym, ◌∙◌, ap, subst, inl, inr}
use Rattle.gr_causal.specs.Sequences.{In}
use Rattle.gr_causal.specs.Machine.{Laws}
use Rattle.gr_causal.specs.Rules.{Rule, Plan, Note, Rulebook, CellLaws, machine_of, plan, carried, with_read}
use Rattle.gr_causal.specs.Rules.Rule.{stuck, does, ask}
use Rattle.gr_causal.proofs.ListLemmas.{In-append_left, In-append_right, true_or_false, some_is, none_not}

module _ (B : Rulebook) where
  open B use {Object, Cell, State, Event, Kind, look}

  abbrev pub PlanOf : Type 0
  PlanOf = Plan Object Cell Kind

  -- a rule comes to the same in every state that agrees on what it asked for
  pub plan_local : (s s' : State) (r : Rule Object Cell Kind) (a : PlanOf) → plan B s r ≡ Some a → ((o : Object) → In o a.reads → look s' o ≡ look s o) → plan B s' r ≡ Some a
  plan_local s s' stuck a e h = absurd (none_not _ e)
  plan_local s s' (does k cs) a e h = e
  plan_local s s' (ask p f) a e h = by_rest (λ b. plan_local s s' (f (look s p)) b) (plan B s (f (look s p))) refl e
    where
      by_rest : ((b : PlanOf) → plan B s (f (look s p)) ≡ Some b → ((o : Object) → In o b.reads → look s' o ≡ look s o) → plan B s' (f (look s p)) ≡ Some b) → (x : Option PlanOf) → plan B s (f (look s p)) ≡ x → with_read p x ≡ Some a → with_read p (plan B s' (f (look s' p))) ≡ Some a
      by_rest ih None d g = absurd (none_not _ g)
      by_rest ih (Some b) d g =
          let is = some_is _ _ g in
          let reads : (o : Object) → In o (p ∷ b.reads) → look s' o ≡ look s o = λ o i. h o (subst (λ (a : PlanOf). In o a.reads) is i) in
          rw (reads p (inl refl)) (ap (with_read p) (ih b d (λ o i. reads o (inr i))) ∙ g)

module _ (B : Rulebook) (laws : CellLaws B) where
  open B use {Object, Cell, State, Event, Kind, same, name, look, put, rule}
  open laws use {same_is, same_self, ext, name-look, put_here, put_else}

  abbrev Out : Type 0
  Out = State × Note Object Kind

  which : (o p : Object) → (o ≡ p) ⊎ (o ≡ p → ⊥)
  which o p = elim (true_or_false (same o p)) [
    | inl h ↦ inl (same_is o p h)
    | inr h ↦ inr (λ e. let s : same o o ≡ true = same_self o in let t : same o o ≡ false = ap (same o) e ∙ h in absurd (let q : true ≡ false = sym s ∙ t in cc))
  ]

  left_alone : (s : State) (cs : List Cell) (o : Object) → (In o (map name cs) → ⊥) → look (fold put s cs) o ≡ look s o
  left_alone s [] o n = refl
  left_alone s (c ∷ cs) o n = left_alone (put s c) cs o (λ h. n (inr h)) ∙ put_else s c o (λ e. n (inl e))

  written : (s s' : State) (cs : List Cell) (o : Object) → In o (map name cs) ⊎ (look s' o ≡ look s o) → look (fold put s' cs) o ≡ look (fold put s cs) o
  written s s' [] o (inl h) = absurd h
  written s s' [] o (inr e) = e
  written s s' (c ∷ cs) o h = written (put s c) (put s' c) cs o (elim (which o (name c)) [
    | inl q ↦ inr (subst (λ x. look (put s' c) x ≡ look (put s c) x) (sym q) (put_here s' c ∙ sym (put_here s c)))
    | inr n ↦ elim h [ inl i ↦ elim i [ inl q ↦ absurd (n q) | inr j ↦ inl j ] | inr e ↦ inr (put_else s' c o n ∙ e ∙ sym (put_else s c o n)) ]
  ])

  only : (s : State) (x : Option (PlanOf B)) (t : State) (n : Note Object Kind) → carried B s x ≡ Some (t, n) → (o : Object) → (In o n.writes → ⊥) → look t o ≡ look s o
  only s None t n e o h = absurd (none_not _ e)
  only s (Some a) t n e o h =
      let p = some_is _ _ e in
      ap (λ (p : Out). look p.0 o) (sym p) ∙ left_alone s a.cells o (λ i. h (subst (λ (p : Out). In o p.1.writes) p i))

  elsewhere : (s s' : State) (r : Rule Object Cell Kind) (x : Option (PlanOf B)) → plan B s r ≡ x → (t : State) (n : Note Object Kind) → carried B s x ≡ Some (t, n)
      → ((o : Object) → In o (n.reads ++ n.writes) → look s' o ≡ look s o)
      → (t' : State) × (carried B s' (plan B s' r) ≡ Some (t', n)) × ((o : Object) → In o n.writes → look t' o ≡ look t o)
  elsewhere s s' r None d t n e h = absurd (none_not _ e)
  elsewhere s s' r (Some a) d t n e h =
      let p = some_is _ _ e in
      let note : record { kind = a.kind; reads = a.reads; writes = map name a.cells } ≡ n = ap (λ (p : Out). p.1) p in
      let reads : (o : Object) → In o a.reads → look s' o ≡ look s o = λ o i. h o (In-append_left o n.reads n.writes (subst (λ (m : Note Object Kind). In o m.reads) note i)) in (
        fold put s' a.cells,
        ap (carried B s') (plan_local B s s' r a d reads) ∙ ap (λ m. Some (fold put s' a.cells, m)) note,
        λ o i. written s s' a.cells o (inl (subst (λ (m : Note Object Kind). In o m.writes) (sym note) i)) ∙ ap (λ (p : Out). look p.0 o) p,
      )

  pub laws_of_rules : Laws (machine_of B)
  laws_of_rules = record {
    same_is = same_is;
    same_self = same_self;
    ext = ext;
    put_here = λ s t o. subst (λ x. look (put s (look t o)) x ≡ look t o) (name-look t o) (put_here s (look t o));
    put_else = λ s t o p n. put_else s (look t o) p (λ e. n (e ∙ name-look t o));
    within = λ s t e n d o h. In-append_right o n.reads n.writes h;
    only_writes = λ s t e n d. only s (plan B s (rule e)) t n d;
    local = λ s t e n d s' h. elsewhere s s' (rule e) (plan B s (rule e)) refl t n d h;
  }
