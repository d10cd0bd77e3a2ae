-- Progress: where some choice is a step the usual one is.
use Rattle.std.proofs.Common.{◌≡◌, ◌⊎◌, ℕ, Bool, true, false, List, [], ◌∷◌, ◌++◌, map, filter, is_none, Option, Some, None, refl, sym, ◌∙◌, ap, subst, inl, inr}
use Rattle.gr_base.specs.declared.events.Choice.{Choice}
use Rattle.gr_base.specs.declared.events.Choice.TheVariants as choices
use Rattle.gr_base.specs.declared.events.Choice.TheVariants.{Plain, Pick, Default, Park}
use Rattle.gr_causal.specs.Sequences.{In}
use Rattle.gr_causal.proofs.ListLemmas.{In-append_cases, In-append_left, In-append_right, In-map, In-of_map}
use Rattle.gr_program.specs.Programs.{Program}
use Rattle.gr_rules.specs.States.{State}
use Rattle.gr_rules.specs.Attempts.{Refusal}
use Rattle.gr_rules.specs.Steps.{refusal}
use Rattle.std.specs.List.{range_with_len}
use Rattle.std.proofs.lemmas.Bool.{cases_Bool}
use Rattle.std.specs.Prelude.{get_or}
use Rattle.gr_rules.specs.Tells.{how_many_clauses, may, ready_clauses, usual_choice}
use Rattle.type_safety.proofs.FineSelects.{Within}

filtered : {A : Type 0} (test : A → Bool) (x : A) (xs : List A) → In x (filter test xs) → test x ≡ true
filtered test x [] i = absurd i
filtered test x (y ∷ xs) i = elim (cases_Bool (test y)) [
  | inl e ↦ elim (subst (In x) (kept e) i) [ inl q ↦ ap test q ∙ e | inr j ↦ filtered test x xs j ]
  | inr e ↦ filtered test x xs (subst (In x) (dropped e) i)
]
  where
    kept : test y ≡ true → filter test (y ∷ xs) ≡ y ∷ filter test xs
    kept e = rw e refl

    dropped : test y ≡ false → filter test (y ∷ xs) ≡ filter test xs
    dropped e = rw e refl

kept_in_filter : {A : Type 0} (test : A → Bool) (x : A) (xs : List A) → In x xs → test x ≡ true
    → In x (filter test xs)
kept_in_filter test x [] i t = absurd i
kept_in_filter test x (y ∷ xs) i t = elim (cases_Bool (test y)) [
  | inl e ↦ subst (In x) (sym (kept e)) (elim i [ inl q ↦ inl q | inr j ↦ inr (kept_in_filter test x xs j t) ])
  | inr e ↦
      subst (In x) (sym (dropped e)) (elim i [ inl q ↦ absurd (let f : true ≡ false = sym t ∙ ap test q ∙ e in cc) | inr j ↦ kept_in_filter test x xs j t ])
]
  where
    kept : test y ≡ true → filter test (y ∷ xs) ≡ y ∷ filter test xs
    kept e = rw e refl

    dropped : test y ≡ false → filter test (y ∷ xs) ≡ filter test xs
    dropped e = rw e refl

module _ (p : Program) (s : State) (name : List ℕ) where
  abbrev refused : Choice → Option Refusal
  refused choice = refusal p s (record { go = name; choice = choice })

  may_go : (choice : Choice) → refused choice ≡ None → may p s name choice ≡ true
  may_go choice e = ap is_none e

  goes : (choice : Choice) → may p s name choice ≡ true → refused choice ≡ None
  goes choice e = by_refusal (refused choice) e
    where
      by_refusal : (x : Option Refusal) → is_none x ≡ true → x ≡ None
      by_refusal None e = refl
      by_refusal (Some r) e = absurd (let f : false ≡ true = e in cc)

  abbrev picks : List ℕ
  picks = range_with_len 1 (how_many_clauses (s.goroutines name))

  abbrev steps : List Choice
  steps = map Pick (ready_clauses p s name) ++ filter (may p s name) (Default ∷ Park ∷ [])

  -- all of these are steps, and all steps are among these but a plain one
  all_go : (choice : Choice) → In choice steps → refused choice ≡ None
  all_go choice i =
      elim (In-append_cases choice (map Pick (ready_clauses p s name)) (filter (may p s name) (Default ∷ Park ∷ [])) i) [
        | inl j ↦
            let x = In-of_map Pick choice (ready_clauses p s name) j in
            subst (λ c. refused c ≡ None) (sym x.2) (goes (Pick x.0) (filtered (λ i. may p s name (Pick i)) x.0 picks x.1))
        | inr j ↦ goes choice (filtered (may p s name) choice (Default ∷ Park ∷ []) j)
      ]

  among : (choice : Choice) → Within (how_many_clauses (s.goroutines name)) choice → refused choice ≡ None
      → (choice ≡ Plain) ⊎ In choice steps
  among choices.Plain w e = inl refl
  among (choices.Pick i) w e =
      inr (In-append_left (Pick i) (map Pick (ready_clauses p s name)) (filter (may p s name) (Default ∷ Park ∷ []))
      (In-map Pick i (ready_clauses p s name)
      (kept_in_filter (λ i. may p s name (Pick i)) i picks w (may_go (Pick i) e))))
  among choices.Default w e =
      inr (In-append_right Default (map Pick (ready_clauses p s name)) (filter (may p s name) (Default ∷ Park ∷ []))
      (kept_in_filter (may p s name) Default (Default ∷ Park ∷ []) (inl refl) (may_go Default e)))
  among choices.Park w e =
      inr (In-append_right Park (map Pick (ready_clauses p s name)) (filter (may p s name) (Default ∷ Park ∷ []))
      (kept_in_filter (may p s name) Park (Default ∷ Park ∷ []) (inr (inl refl)) (may_go Park e)))

  first_goes : (cs : List Choice) (choice : Choice) → ((c : Choice) → In c cs → refused c ≡ None) → (choice ≡ Plain)
      ⊎ In choice cs → refused choice ≡ None → refused (get_or cs 0 Plain) ≡ None
  first_goes [] choice all (inl q) e = subst (λ c. refused c ≡ None) q e
  first_goes [] choice all (inr i) e = absurd i
  first_goes (c ∷ cs) choice all i e = all c (inl refl)

  pub usual_goes : (choice : Choice) → Within (how_many_clauses (s.goroutines name)) choice → refused choice ≡ None
      → refused (usual_choice p s name) ≡ None
  usual_goes choice w e = first_goes steps choice all_go (among choice w e) e
