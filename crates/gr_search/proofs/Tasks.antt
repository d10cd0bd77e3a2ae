-- What each task leads to.
use Rattle.std.proofs.Common.{◌≡◌, ℕ, ◌+◌, ◌-◌, Bool, true, false, List, [], ◌∷◌, ◌++◌, length, Option, Some, None, drop, sym, ◌∙◌, ap, subst, arith, length-drop}
use Rattle.std.proofs.lemmas.List.{nil_from_length}
use Rattle.std.specs.Option.{option_to_list}
use Rattle.gr_search.specs.System.{System, Laws, IsSafe, Closed, Leads, Follows}
use Rattle.gr_search.specs.Going.{Going, Arriving, Known, Stepped}
use Rattle.gr_search.specs.declared.search.Task.{Task}
use Rattle.gr_search.specs.declared.search.Task.TheVariants.{Try, TakeBack}
use Rattle.gr_search.proofs.Arrivals.{none_there, comes_to, all_done, all_closed}
use Rattle.gr_search.proofs.Turns.{possible, impossible, drop_steps}

module _ {State Event Key : Type 0} (Y : System State Event Key) (V : Key → Type 0) (all ts : List (Task Event)) (log : List Event) (going : Going Y V all log) where
  -- the task that came first
  first_is : (o : Option (Task Event)) (t : Option (Task Event)) → all ≡ option_to_list o ++ ts → o ≡ t → Going Y V (option_to_list t ++ ts) log
  first_is o t e h = subst (λ x. Going Y V x log) (e ∙ ap (λ x. option_to_list x ++ ts) h) going

  pub no_task : (o : Option (Task Event)) → all ≡ option_to_list o ++ ts → o ≡ None → ts ≡ [] → Laws Y → IsSafe Y × Closed Y V × (log ≡ [])
  no_task o e h n laws = let g : Going Y V [] log = subst (λ x. Going Y V x log) n (first_is o None e h) in (all_done Y V log laws g, all_closed Y V log g, g.home)

  pub back_task : (o : Option (Task Event)) (task : Task Event) (count : ℕ) (new : List Event) → all ≡ option_to_list o ++ ts → o ≡ Some task → task ≡ TakeBack count → new ≡ drop count log → Going Y V ts new
  back_task o task count new e h b d =
      let g : Going Y V (TakeBack count ∷ ts) log = first_is o (Some (TakeBack count)) e (h ∙ ap Some b) in
      let r : Going Y V ts (drop count log) = record { home = g.home; begins = g.begins; known = g.known } in
      subst (Going Y V ts) (sym d) r

  module _ (o : Option (Task Event)) (task : Task Event) (e : Event) (is : all ≡ option_to_list o ++ ts) (h : o ≡ Some task) (b : task ≡ Try e) (s : State) (l : Leads Y log s) where
    try_first : Going Y V (Try e ∷ ts) log
    try_first = first_is o (Some (Try e)) is (h ∙ ap Some b)

    pub no_step : (done : Bool) (t : State) (new : List Event) → done ≡ false → Stepped Y done e s t log new → Going Y V ts new
    no_step done t new n w =
        let no = impossible Y done e s t log new n w in
        subst (Going Y V ts) (sym no.2) (none_there Y V ts log s e l no.0 try_first)

    pub stepped_on : (done : Bool) (t u : State) (new far : List Event) (more : ℕ) → done ≡ true → Stepped Y done e s t log new → Follows Y t u → drop more far ≡ new
        → Arriving Y V ts (drop (more + 1) far) u
    stepped_on done t u new far more n w f d =
        let yes = possible Y done e s t log new n w in
        subst (λ x. Arriving Y V ts x u) (sym (drop_steps more e far new log d yes.1)) (comes_to Y V ts log s t u e l yes.0 f try_first)

    -- the same, where the system is known to be one by equations
    pub arriving_on : (Z : System State Event Key) → Z ≡ Y → (done : Bool) (t u : State) (new far : List Event) (more : ℕ) → done ≡ true → Stepped Y done e s t log new
        → Follows Z t u → drop more far ≡ new → Arriving Y V ts (drop (more + 1) far) u
    arriving_on Z z done t u new far more n step f d =
        stepped_on done t u new far more n step (subst (λ y. Follows y t u) z f) d

own_tail : {A : Type 0} (xs : List A) → xs ≡ drop 1 xs → xs ≡ []
own_tail xs h = let e : length xs ≡ length xs - 1 = ap length h ∙ length-drop 1 xs in nil_from_length xs (omega (arith, e))

-- nothing is left where nothing came first
pub none_left : {A : Type 0} (all ts : List A) (o : Option A) → all ≡ option_to_list o ++ ts → o ≡ None → ts ≡ drop 1 all → ts ≡ []
none_left all ts o e h d = let is : all ≡ ts = e ∙ ap (λ x. option_to_list x ++ ts) h in own_tail ts (d ∙ ap (drop 1) is)

-- what stays may be known by an equation
pub at_fixed : {Fixed State Event Matter : Type 0} (system : Fixed → System State Event Matter) (means : Fixed → List ℕ → Matter → Type 0) (seen : List ℕ → Bool) (f h : Fixed)
    (ts : List (Task Event)) (log : List Event) (u : State) → h ≡ f → Arriving (system f) (Known (means f) seen) ts log u → Arriving (system h) (Known (means h) seen) ts log u
at_fixed system means seen f h ts log u e a = subst (λ x. Arriving (system x) (Known (means x) seen) ts log u) (sym e) a
