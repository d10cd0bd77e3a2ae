-- A closed part of a log can go to the end.
use Rattle.std.proofs.Common.{◌≡◌, ℕ, Bool, List, [], ◌∷◌, ◌++◌, refl, sym, subst, inl, inr}
use Rattle.gr_causal.specs.Sequences.{In, Distinct, Before}
use Rattle.gr_causal.specs.Dependence.{Depends, IsClosedPart, AreTheOthers, dependents}
use Rattle.gr_causal.specs.Orders.{IsOrder}
use Rattle.gr_causal.specs.Machine.{Machine, Laws, StepOf, conflict, undo, IsLog}
use Rattle.gr_causal.proofs.ListLemmas.{In-append_left, In-append_right, In-append_cases, Before-left, Before-right, Before-one_way, either}
use Rattle.gr_causal.proofs.PathLemmas.{Path, path_of, log_of, path-append}
use Rattle.gr_causal.proofs.DependenceLemmas.{dependents_part}
use Rattle.gr_causal.proofs.OrderLemmas.{reached}
use Rattle.gr_causal.proofs.SwapLemmas.{swaps_keep, undone}

module _ {A : Type 0} where
  -- what stands in the order of a list without repetition is without repetition
  pub Distinct-in_order : (K L : List A) → Distinct L → ((a b : A) → Before K a b → Before L a b) → Distinct K
  Distinct-in_order [] L d o = tt
  Distinct-in_order (x ∷ K) L d o = (λ h. let b = o x x (inl (refl, h)) in Before-one_way L x x d b b, Distinct-in_order K L d (λ a b h. o a b (inr h)))

  Distinct-append : (K G : List A) → Distinct K → Distinct G → ((x : A) → In x K → In x G → ⊥) → Distinct (K ++ G)
  Distinct-append [] G d e n = e
  Distinct-append (x ∷ K) G d e n = (
    λ h. elim (In-append_cases x K G h) [ inl i ↦ d.0 i | inr i ↦ n x (inl refl) i ],
    Distinct-append K G d.1 e (λ y i. n y (inr i)),
  )

  Before-append_left : (K G : List A) (a b : A) → Before K a b → Before (K ++ G) a b
  Before-append_left [] G a b h = elim h [ ]
  Before-append_left (x ∷ K) G a b (inl h) = inl (h.0, In-append_left b K G h.1)
  Before-append_left (x ∷ K) G a b (inr h) = inr (Before-append_left K G a b h)

  Before-append_right : (K G : List A) (a b : A) → Before G a b → Before (K ++ G) a b
  Before-append_right [] G a b h = h
  Before-append_right (x ∷ K) G a b h = inr (Before-append_right K G a b h)

  pub Before-append_across : (K G : List A) (a b : A) → In a K → In b G → Before (K ++ G) a b
  Before-append_across [] G a b h k = elim h [ ]
  Before-append_across (x ∷ K) G a b (inl h) k = inl (h, In-append_right b K G k)
  Before-append_across (x ∷ K) G a b (inr h) k = inr (Before-append_across K G a b h k)

  -- two elements stand in a part in log order as they stand in the log
  as_in_log : (K L : List A) (a b : A) → Distinct L → ((x y : A) → Before K x y → Before L x y) → In a K → In b K → Before L a b → Before K a b
  as_in_log K L a b d o h k l = elim (either K a b h k) [
    | inl e ↦ let w : Before L b b = subst (λ z. Before L z b) e l in absurd (Before-one_way L b b d w w)
    | inr i ↦ elim i [ inl j ↦ j | inr j ↦ absurd (Before-one_way L a b d l (o b a j)) ]
  ]

module _ {A : Type 0} (clash : A → A → Bool) where
  abbrev pub Onward : List A → A → A → Type 0
  Onward L a b = Depends clash L b a

  -- the others followed by a closed part are an order that respects dependence
  pub part_to_end : (L ds ks : List A) → Distinct L → IsClosedPart (Onward L) L ds → AreTheOthers L ds ks → IsOrder clash L (ks ++ ds)
  part_to_end L ds ks d c o = record {
    steps = record {
      once = Distinct-append ks ds (Distinct-in_order ks L d o.in_order) (Distinct-in_order ds L d c.in_order) (λ x i j. (o.others x i).1 j);
      all = λ r. (
        λ h. elim (o.each r h) [ inl i ↦ In-append_right r ks ds i | inr i ↦ In-append_left r ks ds i ],
        λ h. elim (In-append_cases r ks ds h) [ inl i ↦ (o.others r i).0 | inr i ↦ c.within_log r i ],
      );
    };
    keeps = λ a b h k. elim (o.each a (Before-left L a b h)) [
      | inl i ↦ Before-append_right ks ds a b (as_in_log ds L a b d c.in_order i (c.closed a b (h, k) i) h)
      | inr i ↦ elim (o.each b (Before-right L a b h)) [
        | inl j ↦ Before-append_across ks ds a b i j
        | inr j ↦ Before-append_left ks ds a b (as_in_log ks L a b d o.in_order i j h)
      ]
    ];
  }

  -- the last of a closed part are a closed part
  pub end_of_part : (L ds es : List A) → Distinct L → IsClosedPart (Onward L) L (ds ++ es) → IsClosedPart (Onward L) L es
  end_of_part L ds es d c = record {
    within_log = λ r h. c.within_log r (In-append_right r ds es h);
    in_order = λ a b h. c.in_order a b (Before-append_right ds es a b h);
    closed = λ a b h i. elim (In-append_cases b ds es (c.closed a b h (In-append_right a ds es i))) [
      | inl j ↦ absurd (Before-one_way L a b d h.0 (c.in_order b a (Before-append_across ds es b a j i)))
      | inr j ↦ j
    ];
  }

  pub last_dependents : (L ds es : List A) (i : ℕ) → Distinct L → dependents clash L i ≡ ds ++ es → IsClosedPart (Onward L) L es
  last_dependents L ds es i d e = end_of_part L ds es d (subst (IsClosedPart (Onward L) L) e (dependents_part clash L i d))

module _ (M : Machine) (laws : Laws M) where
  open M use {State, put}

  -- taking back a closed part, the last step first, leaves the replay of the others, from which it goes again
  pub part_goes_back : (s t : State) (L ds ks : List (StepOf M)) → IsLog M s L t → Distinct L → IsClosedPart (Onward (conflict M) L) L ds → AreTheOthers L ds ks
      → IsLog M s ks (undo put t ds) × IsLog M (undo put t ds) ds t
  part_goes_back s t L ds ks l d c o =
      let p = swaps_keep M laws L (ks ++ ds) (reached (conflict M) L (ks ++ ds) d (part_to_end (conflict M) L ds ks d c o)) s t (path_of M s L t l) in
      let q = path-append M s ks ds t p in
      let e = undone M laws ds q.0 t q.2 in (
        log_of M s ks _ (subst (Path M s ks) (sym e) q.1),
        log_of M _ ds t (subst (λ x. Path M x ds t) (sym e) q.2),
      )
