-- What a turn of the search keeps.
use Rattle.std.proofs.Common.{◌≡◌, ◌⊎◌, ℕ, List, [], ◌∷◌, Some, None, drop, refl, sym, ◌∙◌, ap, subst, inl, inr}
use Rattle.gr_search.specs.System.{System, Leads, Follows, Reaches, Expands, Closed, IsSafe, Laws}
use Rattle.gr_search.specs.Going.{In, GoesHome, Pending, Going, Arriving, HasAll, tries}
use Rattle.gr_search.specs.declared.search.Task.{Task}
use Rattle.gr_search.specs.declared.search.Task.TheVariants.{Try, TakeBack}
use Rattle.gr_search.proofs.Safe.{some_is, none_not, safe}

home_tries : {E : Type 0} (es : List E) (ts : List (Task E)) (log : List E) → GoesHome ts log → GoesHome (tries es ts) log
home_tries [] ts log h = h
home_tries (e ∷ es) ts log h = home_tries es (Try e ∷ ts) log h

module _ {State Event Key : Type 0} (Y : System State Event Key) where
  open Y use {start, next, bad, alone, key}

  -- a log leads to one state
  leads_one : (log : List Event) (s t : State) → Leads Y log s → Leads Y log t → s ≡ t
  leads_one [] s t h g = h ∙ sym g
  leads_one (e ∷ log) s t h g = some_is s t (sym h.2 ∙ ap (λ m. next m e) (leads_one log h.0 g.0 h.1 g.1) ∙ g.2)

  pending_more : (es : List Event) (ts : List (Task Event)) (log : List Event) (s : State) (e : Event) → Pending Y ts log s e → Pending Y (tries es ts) log s e
  pending_more [] ts log s e p = p
  pending_more (f ∷ es) ts log s e p = pending_more es (Try f ∷ ts) log s e (inr p)

  pending_each : (es : List Event) (ts : List (Task Event)) (log : List Event) (s : State) (e : Event) → Leads Y log s → In e es → Pending Y (tries es ts) log s e
  pending_each [] ts log s e l h = absurd h
  pending_each (f ∷ es) ts log s e l (inl h) = pending_more es (Try f ∷ ts) log s e (inl (l, h))
  pending_each (f ∷ es) ts log s e l (inr h) = pending_each es (Try f ∷ ts) log s e l h

  -- other reasons why steps lead somewhere
  expands_by : {R Q : State → Event → State → Type 0} (k : Key) → ((s : State) (e : Event) (t : State) → next s e ≡ Some t → R s e t → Q s e t) → Expands Y R k → Expands Y Q k
  expands_by k f x = record { at = x.at; reached = x.reached; is_key = x.is_key; fine = x.fine; each = λ e t h. f x.at e t h (x.each e t h) }

  reaches_more : (V W : Key → Type 0) → ((k : Key) → V k → W k) → (s : State) → Reaches Y V s → Reaches Y W s
  reaches_more V W m s r = record { at = r.at; by = r.by; known = m (key r.at) r.known }

  module _ (V : Key → Type 0) (ts : List (Task Event)) (log : List Event) where
    -- an event that is not possible is done with
    pub none_there : (s : State) (e : Event) → Leads Y log s → next s e ≡ None → Going Y V (Try e ∷ ts) log → Going Y V ts log
    none_there s e l n g = record {
      home = g.home;
      begins = g.begins;
      known = λ k h. expands_by k (λ r f t p w. elim w [
        | inl v ↦ inl v
        | inr (inl v) ↦ absurd (none_not t (sym n ∙ ap (λ m. next m e) (leads_one log s r l v.0) ∙ ap (next r) (sym v.1) ∙ p))
        | inr (inr v) ↦ inr v
      ]) (g.known k h);
    }

    -- an event that was taken leads on
    pub comes_to : (s t u : State) (e : Event) → Leads Y log s → next s e ≡ Some t → Follows Y t u → Going Y V (Try e ∷ ts) log → Arriving Y V ts log u
    comes_to s t u e l n f g = record {
      home = g.home;
      begins = inl g.begins;
      known = λ k h. expands_by k (λ r d q p w. elim w [
        | inl v ↦ inl (inl v)
        | inr (inl v) ↦ inl (inr (subst (λ x. Follows Y x u) (some_is t q (sym n ∙ ap (λ m. next m e) (leads_one log s r l v.0) ∙ ap (next r) (sym v.1) ∙ p)) f))
        | inr (inr v) ↦ inr v
      ]) (g.known k h);
    }

    reaches_by : (u t : State) → V (key u) → Reaches Y V t ⊎ Follows Y t u → Reaches Y V t
    reaches_by u t i (inl v) = v
    reaches_by u t i (inr f) = record { at = u; by = f; known = i }

    -- it came to a known key
    pub known_there : (u : State) → V (key u) → Arriving Y V ts log u → Going Y V ts log
    known_there u i g = record {
      home = g.home;
      begins = reaches_by u start i g.begins;
      known = λ k h. expands_by k (λ r f t p w. elim w [ inl v ↦ inl (reaches_by u t i v) | inr v ↦ inr v ]) (g.known k h);
    }

    -- it came to a new key
    pub new_there : (W : Key → Type 0) (us : List (Task Event)) (more : List Event) (u : State) (es : List Event)
        → W (key u) → ((k : Key) → V k → W k) → ((k : Key) → W k → (k ≡ key u) ⊎ (V k))
        → Leads Y more u → ¬ bad u → HasAll Y u es
        → GoesHome us more → ((s : State) (e : Event) → Pending Y ts log s e → Pending Y us more s e) → ((e : Event) → In e es → Pending Y us more u e)
        → Arriving Y V ts log u → Going Y W us more
    new_there W us more u es i m o l b a h p q g =
        let known : (t : State) → Reaches Y V t ⊎ Follows Y t u → Reaches Y W t = λ t w. elim w [
          | inl v ↦ reaches_more V W m t v
          | inr f ↦ record { at = u; by = f; known = i }
        ] in
        let fresh : Expands Y (λ s e t. Reaches Y W t ⊎ Pending Y us more s e) (key u) =
        record { at = u; reached = record { log = more; leads = l }; is_key = refl; fine = b; each = λ e t n. inr (q e (a e t n)) } in
        record {
          home = h;
          begins = known start g.begins;
          known = λ k w. elim (o k w) [
            | inl same ↦ subst (Expands Y (λ s e t. Reaches Y W t ⊎ Pending Y us more s e)) (sym same) fresh
            | inr v ↦ expands_by k (λ r f t n w. elim w [ inl v ↦ inl (known t v) | inr v ↦ inr (p r f v) ]) (g.known k v)
          ];
        }

    pub new_tries : (W : Key → Type 0) (count : ℕ) (more : List Event) (u : State) (es : List Event)
        → W (key u) → ((k : Key) → V k → W k) → ((k : Key) → W k → (k ≡ key u) ⊎ (V k))
        → Leads Y more u → ¬ bad u → HasAll Y u es → drop count more ≡ log
        → Arriving Y V ts log u → Going Y W (tries es (TakeBack count ∷ ts)) more
    new_tries W count more u es i m o l b a d g =
        let base : List (Task Event) = TakeBack count ∷ ts in
        new_there W (tries es base) more u es i m o l b a
        (home_tries es base more (subst (GoesHome ts) (sym d) g.home))
        (λ s e p. pending_more es base more s e (subst (λ x. Pending Y ts x s e) (sym d) p))
        (λ e h. pending_each es base more u e l h) g

  -- nothing is left to be done
  pub all_closed : (V : Key → Type 0) (log : List Event) → Going Y V [] log → Closed Y V
  all_closed V log g = record {
    begins = g.begins;
    known = λ k h. expands_by k (λ r f t n w. elim w [ inl v ↦ v | inr v ↦ absurd v ]) (g.known k h);
  }

  pub all_done : (V : Key → Type 0) (log : List Event) → Laws Y → Going Y V [] log → IsSafe Y
  all_done V log laws g = safe Y laws V (all_closed V log g)
