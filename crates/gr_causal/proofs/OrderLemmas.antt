-- An order respects dependence exactly when swaps of neighbours that do not conflict reach it.
use Rattle.std.proofs.Common.{◌≡◌, Bool, false, List, [], ◌∷◌, refl, sym, subst, inl, inr}
use Rattle.gr_causal.specs.Sequences.{In, Distinct, Before}
use Rattle.gr_causal.specs.Orders.{IsOrder, Swaps}
use Rattle.gr_causal.specs.Orders.Swaps.{none, here, there, and}
use Rattle.gr_causal.proofs.ListLemmas.{Before-left, Before-right, true_or_false, Picks, picked, In-itself, Before-picked, Distinct-picked, rest_rearranged}
use Rattle.gr_causal.proofs.ListLemmas.Picks.{first, later}

module _ {A : Type 0} (clash : A → A → Bool) where
  -- a step comes to the front if it conflicts with none before it
  to_front : (x : A) (L R : List A) → Picks x L R → ((a : A) → Before L a x → clash a x ≡ false) → Swaps clash L (x ∷ R)
  to_front x L R first h = none
  to_front x L R (later {y = y} {L = L'} {R = R'} p) h =
      and (there (to_front x L' R' p (λ a b. h a (inr b)))) (here (h y (inl (refl, In-itself x L' R' p))))

  -- of an order that begins with x: nothing before x clashes with it, and the rest is an order of the rest
  pub first_free : (L : List A) (x : A) (N : List A) → IsOrder clash L (x ∷ N) → (a : A) → Before L a x → clash a x ≡ false
  first_free L x N o a h = elim (true_or_false (clash a x)) [
    | inl c ↦ absurd (o.steps.once.0 (elim (o.keeps a x h c) [ inl q ↦ q.1 | inr j ↦ Before-right N a x j ]))
    | inr c ↦ c
  ]

  pub rest_order : (L : List A) (x : A) (N R : List A) → Picks x L R → Distinct L → IsOrder clash L (x ∷ N) → IsOrder clash R N
  rest_order L x N R p d o =
      let e = Distinct-picked x L R p d in record {
        steps = rest_rearranged L x N R p d o.steps;
        keeps = λ a b h c. elim (o.keeps a b (Before-picked x a b L R p h) c) [ inl q ↦ absurd (e.1 (subst (λ z. In z R) q.0 (Before-left R a b h))) | inr j ↦ j ];
      }

  pub reached : (L N : List A) → Distinct L → IsOrder clash L N → Swaps clash L N
  reached [] [] d o = none
  reached (r ∷ L) [] d o = absurd ((o.steps.all r).0 (inl refl))
  reached L (x ∷ N) d o =
      let p = picked x L ((o.steps.all x).1 (inl refl)) in
      and (to_front x L p.0 p.1 (first_free L x N o)) (there (reached p.0 N (Distinct-picked x L p.0 p.1 d).0 (rest_order L x N p.0 p.1 d o)))

  pub swaps_order : (L N : List A) → Swaps clash L N → Distinct L → IsOrder clash L N
  swaps_order L N none d = record { steps = record { once = d; all = λ r. (λ h. h, λ h. h) }; keeps = λ a b h c. h }
  swaps_order L N (here {a = a} {b = b} {L = K} f) d = record {
    steps = record {
      once = (elim [ inl q ↦ d.0 (inl (sym q)) | inr h ↦ d.1.0 h ], (λ h. d.0 (inr h), d.1.1));
      all = λ r. (
        elim [ inl q ↦ inr (inl q) | inr h ↦ elim h [ inl q ↦ inl q | inr k ↦ inr (inr k) ] ],
        elim [ inl q ↦ inr (inl q) | inr h ↦ elim h [ inl q ↦ inl q | inr k ↦ inr (inr k) ] ],
      );
    };
    keeps = λ x y h c. elim h [
      | inl p ↦ elim p.1 [ inl q ↦ absurd (let u = p.0 in cc) | inr k ↦ inr (inl (p.0, k)) ]
      | inr h ↦ elim h [ inl p ↦ inl (p.0, inr p.1) | inr k ↦ inr (inr k) ]
    ];
  }
  swaps_order L N (there {a = a} {L = L'} {N = N'} w) d =
      let o = swaps_order L' N' w d.1 in record {
        steps = record {
          once = (λ h. d.0 ((o.steps.all a).1 h), o.steps.once);
          all = λ r. (elim [ inl q ↦ inl q | inr h ↦ inr ((o.steps.all r).0 h) ], elim [ inl q ↦ inl q | inr h ↦ inr ((o.steps.all r).1 h) ]);
        };
        keeps = λ x y h c. elim h [ inl p ↦ inl (p.0, (o.steps.all y).0 p.1) | inr k ↦ inr (o.keeps x y k c) ];
      }
  swaps_order L N (and {L = L'} {N = N'} {P = P'} v w) d =
      let o = swaps_order L' N' v d in
      let q = swaps_order N' P' w o.steps.once in record {
        steps = record {
          once = q.steps.once;
          all = λ r. (λ h. (q.steps.all r).0 ((o.steps.all r).0 h), λ h. (o.steps.all r).1 ((q.steps.all r).1 h));
        };
        keeps = λ a b h c. q.keeps a b (o.keeps a b h c) c;
      }
