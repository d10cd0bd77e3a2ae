-- What the test of an order by names answers, and when.
use Rattle.std.proofs.Common.{◌≡◌, Bool, true, false, List, [], ◌∷◌, map, Option, Some, None, find, option_map, option_and_then, ◌⊎◌, refl, sym, ◌∙◌, ap, ap₂, subst, inl, inr}
use Rattle.std.specs.Option.{option_map_or, option_or}
use Rattle.gr_causal.specs.Sequences.{In, Distinct, Before, Rearranges}
use Rattle.gr_causal.specs.Orders.{IsOrder}
use Rattle.gr_causal.specs.OrderByNames.{Ordered, NamesEach, ChangePlaces, FirstToChange, steps_named, first_before, without, first_change, ordered}
use Rattle.gr_causal.specs.OrderByNames.Ordered.{accepted, other_steps, broken}
use Rattle.gr_causal.proofs.ListLemmas.{true_or_false, some_is, none_not, In-map, In-of_map, either, Distinct-by_name, Before-left, Before-right, Before-one_way, Picks, In-itself, In-picked, picked_cases, Before-picked, Before-kept, Distinct-picked, rest_rearranged, front_rearranged, picked as pick}
use Rattle.gr_causal.proofs.ListLemmas.Picks.{first, later}

cons_names : {A N : Type 0} (name : A → N) (x : A) (n : N) (K : List A) (ns : List N) → name x ≡ n → map name K ≡ ns → map name (x ∷ K) ≡ n ∷ ns
cons_names name x n K ns e f = ap₂ (λ a b. a ∷ b) e f

pub accepted_is : {A : Type 0} (M N : List A) → accepted M ≡ accepted N → M ≡ N
accepted_is M N e = cc

pub broken_is : {A : Type 0} (x y a b : A) → broken x y ≡ broken a b → (x ≡ a) × (y ≡ b)
broken_is x y a b e = (cc, cc)

Distinct-names_picked : {A B : Type 0} (f : A → B) (x : A) (L R : List A) → Picks x L R → Distinct (map f L) → Distinct (map f R)
Distinct-names_picked f x L R first d = d.1
Distinct-names_picked f x L R (later {y = y} {L = L'} {R = R'} p) d = (λ h. d.0 (sub L' R' p h), Distinct-names_picked f x L' R' p d.1)
  where
    sub : (L R : List _) → Picks x L R → In (f y) (map f R) → In (f y) (map f L)
    sub L R first h = inr h
    sub L R (later p) (inl e) = inl e
    sub L R (later {L = L'} {R = R'} p) (inr h) = inr (sub L' R' p h)

module _ {A N : Type 0} (clash : A → A → Bool) (name : A → N) (same : N → N → Bool) (is : (m n : N) → same m n ≡ true → m ≡ n) (self : (n : N) → same n n ≡ true) where
  differ : (m n : N) → (m ≡ n → ⊥) → same m n ≡ false
  differ m n h = elim (true_or_false (same m n)) [ inl t ↦ absurd (h (is m n t)) | inr f ↦ f ]

  -- the step of a name is found, and taken out
  pull : (x : A) (L R : List A) → Picks x L R → Distinct (map name L) → find (λ r. same (name x) (name r)) L ≡ Some x
  pull x L R first d = rw (self (name x)) refl
  pull x L R (later {y = y} {L = L'} {R = R'} p) d =
      let i = In-itself x L' R' p in
      rw (differ (name x) (name y) (λ e. d.0 (subst (λ n. In n (map name L')) e (In-map name x L' i))))
      (pull x L' R' p d.1)

  nothing_out : (n : N) (L : List A) → (In n (map name L) → ⊥) → without clash name same n L ≡ L
  nothing_out n [] h = refl
  nothing_out n (r ∷ L) h = rw (differ n (name r) (λ e. h (inl e))) (ap (λ l. r ∷ l) (nothing_out n L (λ i. h (inr i))))

  taken_out : (x : A) (L R : List A) → Picks x L R → Distinct (map name L) → without clash name same (name x) L ≡ R
  taken_out x L R first d = rw (self (name x)) (nothing_out (name x) R d.0)
  taken_out x L R (later {y = y} {L = L'} {R = R'} p) d =
      let i = In-itself x L' R' p in
      rw (differ (name x) (name y) (λ e. d.0 (subst (λ n. In n (map name L')) e (In-map name x L' i))))
      (ap (λ l. y ∷ l) (taken_out x L' R' p d.1))

  -- the steps of a rearrangement are found by its names
  pub complete : (L M : List A) → Distinct (map name L) → Rearranges L M → steps_named clash name same (map name M) L ≡ Some M
  complete [] [] d o = refl
  complete (r ∷ L) [] d o = absurd ((o.all r).0 (inl refl))
  complete L (x ∷ M) d o =
      let p = pick x L ((o.all x).1 (inl refl)) in
      rw (pull x L p.0 p.1 d, taken_out x L p.0 p.1 d)
      (rw (complete p.0 M (Distinct-names_picked name x L p.0 p.1 d) (rest_rearranged L x M p.0 p.1 (Distinct-by_name name L d) o)) refl)

  -- names that are those of the log, each once, are the names of a rearrangement
  pub named : (L : List A) (names : List N) → Distinct (map name L) → NamesEach name L names → (M : List A) × Rearranges L M × (map name M ≡ names)
  named [] [] d o = ([], record { once = tt; all = λ r. (λ h. h, λ h. h) }, refl)
  named (r ∷ L) [] d o = absurd ((o.all (name r)).0 (inl refl))
  named L (n ∷ ns) d o =
      let w = In-of_map name n L ((o.all n).1 (inl refl)) in
      let p = pick w.0 L w.1 in
      let dp = Distinct-names_picked name w.0 L p.0 p.1 d in
      let dx = Distinct-picked w.0 L p.0 p.1 (Distinct-by_name name L d) in
      let fresh : In n (map name p.0) → ⊥ = λ h. let v = In-of_map name n p.0 h in dx.1 (subst (λ z. In z p.0) (one L d v.0 w.0 (In-picked w.0 v.0 L p.0 p.1 v.1) w.1 (sym v.2 ∙ w.2)) v.1) in
      let q = named p.0 ns dp (record {
        once = o.once.1;
        all = λ m. (
          λ h. let v = In-of_map name m p.0 h in
              elim ((o.all m).0 (subst (λ k. In k (map name L)) (sym v.2) (In-map name v.0 L (In-picked w.0 v.0 L p.0 p.1 v.1)))) [ inl e ↦ absurd (fresh (subst (λ k. In k (map name p.0)) e h)) | inr i ↦ i ],
          λ h. let v = In-of_map name m L ((o.all m).1 (inr h)) in
              elim (picked_cases w.0 v.0 L p.0 p.1 v.1) [
                | inl e ↦ absurd (o.once.0 (subst (λ k. In k ns) (v.2 ∙ ap name e ∙ sym w.2) h))
                | inr i ↦ subst (λ k. In k (map name p.0)) (sym v.2) (In-map name v.0 p.0 i)
              ],
        );
      }) in (
        w.0 ∷ q.0,
        front_rearranged L w.0 q.0 p.0 p.1 (Distinct-by_name name L d) q.1,
        cons_names name w.0 n q.0 ns (sym w.2) q.2,
      )
    where
      one : (L : List A) → Distinct (map name L) → (x y : A) → In x L → In y L → name x ≡ name y → x ≡ y
      one [] d x y h k e = elim h [ ]
      one (r ∷ L) d x y (inl h) (inl k) e = h ∙ sym k
      one (r ∷ L) d x y (inl h) (inr k) e = absurd (d.0 (subst (λ m. In m (map name L)) (sym e ∙ ap name h) (In-map name y L k)))
      one (r ∷ L) d x y (inr h) (inl k) e = absurd (d.0 (subst (λ m. In m (map name L)) (e ∙ ap name k) (In-map name x L h)))
      one (r ∷ L) d x y (inr h) (inr k) e = one L d.1 x y h k e

  -- the names of a rearrangement are those of the log, each once
  pub names_each : (L M : List A) → Distinct (map name L) → Rearranges L M → NamesEach name L (map name M)
  names_each L M d o = record {
    once = once M L d o;
    all = λ n. (
      λ h. let v = In-of_map name n L h in subst (λ k. In k (map name M)) (sym v.2) (In-map name v.0 M ((o.all v.0).0 v.1)),
      λ h. let v = In-of_map name n M h in subst (λ k. In k (map name L)) (sym v.2) (In-map name v.0 L ((o.all v.0).1 v.1)),
    );
  }
    where
      once : (M L : List A) → Distinct (map name L) → Rearranges L M → Distinct (map name M)
      once [] L d o = tt
      once (x ∷ M) L d o =
          let p = pick x L ((o.all x).1 (inl refl)) in
          let ro = rest_rearranged L x M p.0 p.1 (Distinct-by_name name L d) o in
          (λ h. let v = In-of_map name (name x) M h in let w = apart L p.0 p.1 d in w (subst (λ k. In k (map name p.0)) (sym v.2) (In-map name v.0 p.0 ((ro.all v.0).1 v.1))), once M p.0 (Distinct-names_picked name x L p.0 p.1 d) ro)
        where
          apart : (L R : List A) → Picks x L R → Distinct (map name L) → In (name x) (map name R) → ⊥
          apart L R first d h = d.0 h
          apart L R (later {y = y} {L = L'} {R = R'} p) d (inl e) = d.0 (subst (λ k. In k (map name L')) e (In-map name x L' (In-itself x L' R' p)))
          apart L R (later {L = L'} {R = R'} p) d (inr h) = apart L' R' p d.1 h

  other : (y r : A) (L : List A) → Distinct (map name (r ∷ L)) → In y L → same (name y) (name r) ≡ false
  other y r L d h = differ (name y) (name r) (λ e. d.0 (subst (λ m. In m (map name L)) e (In-map name y L h)))

  -- the first step before x that conflicts with it
  first_before_is : (y : A) (L : List A) → Distinct (map name L) → In y L → (x : A) → first_before clash name same y L ≡ Some x
      → Before L x y × (clash x y ≡ true) × ((a : A) → Before L a y → clash a y ≡ true → (a ≡ x) ⊎ Before L x a)
  first_before_is y [] d h x e = elim h [ ]
  first_before_is y (r ∷ L) d (inl q) x e = absurd (none_not _ (rw (ap (same (name y)) (sym (ap name q)) ∙ self (name y)) at e))
  first_before_is y (r ∷ L) d (inr h) x e = elim (true_or_false (clash r y)) [
    | inl t ↦
        let q : r ≡ x = some_is _ _ (rw t at (rw (other y r L d h) at e)) in (
          inl (sym q, h),
          subst (λ z. clash z y ≡ true) q t,
          λ a b c. elim b [ inl k ↦ inl (k.0 ∙ q) | inr k ↦ inr (inl (sym q, Before-left L a y k)) ],
        )
    | inr f ↦
        let w = first_before_is y L d.1 h x (rw f at (rw (other y r L d h) at e)) in (
          inr w.0,
          w.1,
          λ a b c. elim b [
            | inl k ↦ absurd (let z : true ≡ false = sym (subst (λ z. clash z y ≡ true) k.0 c) ∙ f in cc)
            | inr k ↦ elim (w.2 a k c) [ inl i ↦ inl i | inr i ↦ inr (inr i) ]
          ],
        )
  ]

  -- no step before x conflicts with it
  none_before_is : (y : A) (L : List A) → Distinct (map name L) → In y L → first_before clash name same y L ≡ None → (a : A) → Before L a y → clash a y ≡ true → ⊥
  none_before_is y [] d h e a b c = elim h [ ]
  none_before_is y (r ∷ L) d (inl q) e a b c = elim b [
    | inl k ↦ d.0 (subst (λ m. In m (map name L)) (ap name q) (In-map name y L k.1))
    | inr k ↦ d.0 (subst (λ m. In m (map name L)) (ap name q) (In-map name y L (Before-right L a y k)))
  ]
  none_before_is y (r ∷ L) d (inr h) e a b c = elim (true_or_false (clash r y)) [
    | inl t ↦ absurd (none_not r (sym (rw t at (rw (other y r L d h) at e))))
    | inr f ↦ elim b [
      | inl k ↦ absurd (let z : true ≡ false = sym (subst (λ z. clash z y ≡ true) k.0 c) ∙ f in cc)
      | inr k ↦ none_before_is y L d.1 h (rw f at (rw (other y r L d h) at e)) a k c
    ]
  ]

  -- the step found by a name has that name
  found : (n : N) (L : List A) (x : A) → find (λ r. same n (name r)) L ≡ Some x → In x L × (name x ≡ n)
  found n [] x e = absurd (none_not _ e)
  found n (r ∷ L) x e = elim (true_or_false (same n (name r))) [
    | inl t ↦ let q : r ≡ x = some_is _ _ (rw t at e) in (inl (sym q), ap name (sym q) ∙ sym (is n (name r) t))
    | inr f ↦ let w = found n L x (rw f at e) in (inr w.0, w.1)
  ]

  -- the steps found by names are a rearrangement with these names
  pub sound : (ns : List N) (L M : List A) → Distinct (map name L) → steps_named clash name same ns L ≡ Some M → Rearranges L M × (map name M ≡ ns)
  sound [] [] M d e = subst (λ (x : List A). Rearranges [] x × (map name x ≡ [])) (some_is _ _ e) (record { once = tt; all = λ r. (λ h. h, λ h. h) }, refl)
  sound [] (r ∷ L) M d e = absurd (none_not _ e)
  sound (n ∷ ns) L M d e = by_find (λ R K. sound ns R K) (find (λ r. same n (name r)) L) refl e
    where
      by_rest : ((R K : List A) → Distinct (map name R) → steps_named clash name same ns R ≡ Some K → Rearranges R K × (map name K ≡ ns)) → (x : A) → In x L × (name x ≡ n)
          → (o : Option (List A)) → steps_named clash name same ns (without clash name same n L) ≡ o → option_map (λ xs. x ∷ xs) o ≡ Some M → Rearranges L M × (map name M ≡ n ∷ ns)
      by_rest ih x z None f g = absurd (none_not _ g)
      by_rest ih x z (Some K) f g =
          let p = pick x L z.0 in
          let out : without clash name same n L ≡ p.0 = ap (λ k. without clash name same k L) (sym z.1) ∙ taken_out x L p.0 p.1 d in
          let h = ih p.0 K (Distinct-names_picked name x L p.0 p.1 d) (ap (steps_named clash name same ns) (sym out) ∙ f) in
          subst (λ (x : List A). Rearranges L x × (map name x ≡ n ∷ ns)) (some_is _ _ g) (front_rearranged L x K p.0 p.1 (Distinct-by_name name L d) h.0, ap₂ (λ a b. a ∷ b) z.1 h.1)

      by_find : ((R K : List A) → Distinct (map name R) → steps_named clash name same ns R ≡ Some K → Rearranges R K × (map name K ≡ ns)) → (o : Option A) → find (λ r. same n (name r)) L ≡ o
          → option_and_then (λ x. option_map (λ xs. x ∷ xs) (steps_named clash name same ns (without clash name same n L))) o ≡ Some M → Rearranges L M × (map name M ≡ n ∷ ns)
      by_find ih None f g = absurd (none_not _ g)
      by_find ih (Some x) f g = by_rest ih x (found n L x f) (steps_named clash name same ns (without clash name same n L)) refl g

  -- the first pair at y, or else the first after it
  abbrev pair_or : Option A → A → Option (A × A) → Option (A × A)
  pair_or o y p = option_or (option_map (λ x. (x, y)) o) p

  or_none : (o : Option A) (y : A) (p : Option (A × A)) → pair_or o y p ≡ None → (o ≡ None) × (p ≡ None)
  or_none None y p e = (refl, e)
  or_none (Some x) y p e = absurd (none_not _ (sym e))

  abbrev judged : List A → Option (A × A) → Ordered A
  judged M p = option_map_or (λ p. broken p.0 p.1) p (accepted M)

  abbrev judge : List A → Option (List A) → Ordered A
  judge L o = option_map_or (λ M. judged M (first_change clash name same L M)) o other_steps

  -- a pair that changes places among the rest does so among all
  change_of_rest : (L : List A) (y : A) (M R : List A) → Picks y L R → (a b : A) → ChangePlaces clash R M a b → ChangePlaces clash L (y ∷ M) a b
  change_of_rest L y M R p a b c = record { earlier = Before-picked y a b L R p c.earlier; conflicts = c.conflicts; turned = inr c.turned }

  -- where nothing that conflicts with y stands before it, a pair that changes places does so among the rest
  change_in_rest : (L : List A) (y : A) (M R : List A) → Picks y L R → Rearranges L (y ∷ M) → ((a : A) → Before L a y → clash a y ≡ true → ⊥)
      → (a b : A) → ChangePlaces clash L (y ∷ M) a b → ChangePlaces clash R M a b × Before M b a
  change_in_rest L y M R p o n a b c = elim c.turned [
    | inl k ↦ absurd (n a (subst (Before L a) k.0 c.earlier) (subst (λ z. clash a z ≡ true) k.0 c.conflicts))
    | inr k ↦ (
      record {
        earlier = Before-kept y a b L R p (λ e. o.once.0 (subst (λ z. In z M) e (Before-right M b a k))) (λ e. o.once.0 (subst (λ z. In z M) e (Before-left M b a k))) c.earlier;
        conflicts = c.conflicts;
        turned = k;
      },
      k,
    )
  ]

  -- where the test finds no pair, none changes places
  none_changes : (L M : List A) → Distinct (map name L) → Rearranges L M → first_change clash name same L M ≡ None → (a b : A) → ChangePlaces clash L M a b → ⊥
  none_changes L [] d o e a b c = elim c.turned [ ]
  none_changes L (y ∷ M) d o e a b c =
      let h = (o.all y).1 (inl refl) in
      let p = pick y L h in
      let w = or_none _ _ _ e in
      none_changes p.0 M (Distinct-names_picked name y L p.0 p.1 d) (rest_rearranged L y M p.0 p.1 (Distinct-by_name name L d) o)
      (ap (λ R. first_change clash name same R M) (sym (taken_out y L p.0 p.1 d)) ∙ w.1)
      a b (change_in_rest L y M p.0 p.1 o (none_before_is y L d h w.0) a b c).0

  -- the pair that the test finds is the first
  found_changes : (L M : List A) → Distinct (map name L) → Rearranges L M → (q : A × A) → first_change clash name same L M ≡ Some q → FirstToChange clash L M q.0 q.1
  found_changes L [] d o q e = absurd (none_not _ e)
  found_changes L (y ∷ M) d o q e = by_first (λ R. found_changes R M) (first_before clash name same y L) refl e
    where
      by_first : ((R : List A) → Distinct (map name R) → Rearranges R M → (q : A × A) → first_change clash name same R M ≡ Some q → FirstToChange clash R M q.0 q.1)
          → (f : Option A) → first_before clash name same y L ≡ f → pair_or f y (first_change clash name same (without clash name same (name y) L) M) ≡ Some q → FirstToChange clash L (y ∷ M) q.0 q.1
      by_first ih None f g =
          let h = (o.all y).1 (inl refl) in
          let p = pick y L h in
          let n = none_before_is y L d h f in
          let w = ih p.0 (Distinct-names_picked name y L p.0 p.1 d) (rest_rearranged L y M p.0 p.1 (Distinct-by_name name L d) o) q
          (ap (λ R. first_change clash name same R M) (sym (taken_out y L p.0 p.1 d)) ∙ g) in
          record {
            change = change_of_rest L y M p.0 p.1 q.0 q.1 w.change;
            first_in_order = λ a b c. elim (w.first_in_order a b (change_in_rest L y M p.0 p.1 o n a b c).0) [ inl i ↦ inl i | inr i ↦ inr (inr i) ];
            first_in_log = λ a c. elim (w.first_in_log a (change_in_rest L y M p.0 p.1 o n a q.1 c).0) [ inl i ↦ inl i | inr i ↦ inr (Before-picked y q.0 a L p.0 p.1 i) ];
          }
      by_first ih (Some x) f g =
          let h = (o.all y).1 (inl refl) in
          let w = first_before_is y L d h x f in
          let behind : In x M = elim ((o.all x).0 (Before-left L x y w.0)) [
            | inl e' ↦ let b : Before L y y = subst (λ z. Before L z y) e' w.0 in absurd (Before-one_way L y y (Distinct-by_name name L d) b b)
            | inr i ↦ i
          ] in
          subst (λ (q : A × A). FirstToChange clash L (y ∷ M) q.0 q.1) (some_is _ _ g) (record {
            change = record { earlier = w.0; conflicts = w.1; turned = inl (refl, behind) };
            first_in_order = λ a b c. elim c.turned [ inl k ↦ inl k.0 | inr k ↦ inr (inl (refl, Before-left M b a k)) ];
            first_in_log = λ a c. w.2 a c.earlier c.conflicts;
          })

  -- there is but one first pair
  one_first : (L M : List A) → Distinct L → Distinct M → (x y a b : A) → FirstToChange clash L M x y → FirstToChange clash L M a b → (x ≡ a) × (y ≡ b)
  one_first L M d k x y a b f g =
      let later : b ≡ y = elim (f.first_in_order a b g.change) [
        | inl e ↦ e
        | inr i ↦ elim (g.first_in_order x y f.change) [ inl e ↦ sym e | inr j ↦ absurd (Before-one_way M y b k i j) ]
      ] in
      let early : x ≡ a = elim (f.first_in_log a (subst (λ z. ChangePlaces clash L M a z) later g.change)) [
        | inl e ↦ sym e
        | inr i ↦ elim (g.first_in_log x (subst (λ z. ChangePlaces clash L M x z) (sym later) f.change)) [ inl e ↦ e | inr j ↦ absurd (Before-one_way L x a d i j) ]
      ] in
      (early, sym later)

  -- an order in which no two change places respects dependence
  keeps_of_none : (L M : List A) → Rearranges L M → ((a b : A) → ChangePlaces clash L M a b → ⊥) → Distinct L → IsOrder clash L M
  keeps_of_none L M o n d = record {
    steps = o;
    keeps = λ a b h c. elim (either M a b ((o.all a).0 (Before-left L a b h)) ((o.all b).0 (Before-right L a b h))) [
      | inl e ↦ let w : Before L b b = subst (λ z. Before L z b) e h in absurd (Before-one_way L b b d w w)
      | inr k ↦ elim k [ inl i ↦ i | inr i ↦ absurd (n a b (record { earlier = h; conflicts = c; turned = i })) ]
    ];
  }

  answer : (L : List A) (ns : List N) (o : Option (List A)) → steps_named clash name same ns L ≡ o → ordered clash name same ns L ≡ judge L o
  answer L ns o e = ap (judge L) e

  judged_by : (L M : List A) (p : Option (A × A)) → first_change clash name same L M ≡ p → judge L (Some M) ≡ judged M p
  judged_by L M p e = ap (judged M) e

  module _ (L : List A) (d : Distinct (map name L)) (ns : List N) where
    -- each order that respects dependence is accepted, and no other list of steps
    pub accepts : (M : List A) → IsOrder clash L M → map name M ≡ ns → ordered clash name same ns L ≡ accepted M
    accepts M o e = by_change (first_change clash name same L M) refl
      where
        by_change : (p : Option (A × A)) → first_change clash name same L M ≡ p → ordered clash name same ns L ≡ accepted M
        by_change None f = answer L ns (Some M) (subst (λ k. steps_named clash name same k L ≡ Some M) e (complete L M d o.steps)) ∙ judged_by L M None f
        by_change (Some q) f =
            let w = (found_changes L M d o.steps q f).change in
            absurd (Before-one_way M q.0 q.1 o.steps.once (o.keeps q.0 q.1 w.earlier w.conflicts) w.turned)

    pub breaks : (M : List A) (x y : A) → Rearranges L M → map name M ≡ ns → FirstToChange clash L M x y → ordered clash name same ns L ≡ broken x y
    breaks M x y o e t = by_change (first_change clash name same L M) refl
      where
        by_change : (p : Option (A × A)) → first_change clash name same L M ≡ p → ordered clash name same ns L ≡ broken x y
        by_change None f = absurd (none_changes L M d o f x y t.change)
        by_change (Some q) f =
            let u = one_first L M (Distinct-by_name name L d) o.once x y q.0 q.1 t (found_changes L M d o q f) in
            answer L ns (Some M) (subst (λ k. steps_named clash name same k L ≡ Some M) e (complete L M d o)) ∙ judged_by L M (Some q) f ∙ ap₂ broken (sym u.0) (sym u.1)

    pub refuses : (NamesEach name L ns → ⊥) → ordered clash name same ns L ≡ other_steps
    refuses n = by_steps (steps_named clash name same ns L) refl
      where
        by_steps : (o : Option (List A)) → steps_named clash name same ns L ≡ o → ordered clash name same ns L ≡ other_steps
        by_steps None e = answer L ns None e
        by_steps (Some M) e = let w = sound ns L M d e in absurd (n (subst (NamesEach name L) w.1 (names_each L M d w.0)))

    pub refused : ordered clash name same ns L ≡ other_steps → NamesEach name L ns → ⊥
    refused e n =
        let w = named L ns d n in
        let k = answer L ns (Some w.0) (subst (λ k. steps_named clash name same k L ≡ Some w.0) w.2 (complete L w.0 d w.1)) in
        by_change w.0 (first_change clash name same L w.0) (sym k ∙ e)
      where
        by_change : (M : List A) (p : Option (A × A)) → judged M p ≡ other_steps → ⊥
        by_change M None e = cc
        by_change M (Some q) e = cc

    pub is_order : (M : List A) → ordered clash name same ns L ≡ accepted M → IsOrder clash L M × (map name M ≡ ns)
    is_order M e = by_steps (steps_named clash name same ns L) refl e
      where
        by_change : (K : List A) → Rearranges L K × (map name K ≡ ns) → (p : Option (A × A)) → first_change clash name same L K ≡ p → judged K p ≡ accepted M → IsOrder clash L M × (map name M ≡ ns)
        by_change K w None f g = subst (λ z. IsOrder clash L z × (map name z ≡ ns)) (accepted_is K M g) (keeps_of_none L K w.0 (none_changes L K d w.0 f) (Distinct-by_name name L d), w.1)
        by_change K w (Some q) f g = absurd (let h : broken q.0 q.1 ≡ accepted M = g in cc)

        by_steps : (o : Option (List A)) → steps_named clash name same ns L ≡ o → judge L o ≡ accepted M → IsOrder clash L M × (map name M ≡ ns)
        by_steps None f g = absurd (let h : other_steps ≡ accepted M = g in cc)
        by_steps (Some K) f g = by_change K (sound ns L K d f) (first_change clash name same L K) refl g

    pub is_broken : (x y : A) → ordered clash name same ns L ≡ broken x y → (M : List A) × (map name M ≡ ns) × Rearranges L M × FirstToChange clash L M x y
    is_broken x y e = by_steps (steps_named clash name same ns L) refl e
      where
        by_change : (K : List A) → Rearranges L K × (map name K ≡ ns) → (p : Option (A × A)) → first_change clash name same L K ≡ p → judged K p ≡ broken x y → (M : List A) × (map name M ≡ ns) × Rearranges L M × FirstToChange clash L M x y
        by_change K w None f g = absurd (let h : accepted K ≡ broken x y = g in cc)
        by_change K w (Some q) f g =
            let u = broken_is q.0 q.1 x y g in
            (K, w.1, w.0, subst (λ z. FirstToChange clash L K x z) u.1 (subst (λ z. FirstToChange clash L K z q.1) u.0 (found_changes L K d w.0 q f)))

        by_steps : (o : Option (List A)) → steps_named clash name same ns L ≡ o → judge L o ≡ broken x y → (M : List A) × (map name M ≡ ns) × Rearranges L M × FirstToChange clash L M x y
        by_steps None f g = absurd (let h : other_steps ≡ broken x y = g in cc)
        by_steps (Some K) f g = by_change K (sound ns L K d f) (first_change clash name same L K) refl g
