-- Progress and preservation of a select: it is refused only where the choice is not possible, and some choice is a step.
use Rattle.std.proofs.Common.{◌≡◌, ◌⊎◌, ℕ, zero, suc, ◌+◌, ◌<◌, arith, true, false, if◌then◌else◌, List, [], ◌∷◌, length, Option, Some, None, refl, sym, ◌∙◌, ap, subst, inl, inr}
use Rattle.std.specs.Prelude.{slice_get}
use Rattle.std.proofs.lemmas.Option.{slice_get_within, same_Some, none-some}
use Rattle.gr_base.specs.declared.names.ChName.{ChName}
use Rattle.gr_base.specs.declared.values.Value.{Value}
use Rattle.gr_base.specs.declared.events.Choice.{Choice}
use Rattle.gr_base.specs.declared.events.Choice.TheVariants as choices
use Rattle.gr_base.specs.declared.kinds.Fault.{Fault}
use Rattle.gr_base.specs.declared.kinds.Kind.TheVariants.{Default, SelectWait}
use Rattle.gr_causal.specs.Sequences.{In}
use Rattle.std.proofs.lemmas.Bool.{cases_Bool}
use Rattle.gr_typing.specs.Scopes.{Signature}
use Rattle.gr_rules.specs.Outcomes.{Outcome, gives, faults, wrong, ◌>>=◌}
use Rattle.gr_rules.specs.Deeds.{Communication, Sending, Receiving, Otherwise, Chooses, deed, past}
use Rattle.gr_rules.specs.States.{State}
use Rattle.gr_rules.specs.Attempts.{Refusal, no_such_choice, Attempt, refuse}
use Rattle.gr_rules.specs.Actors.{Actor, onward, simply, fault, given, clause_at}
use Rattle.gr_rules.specs.Communications.{wait}
use Rattle.gr_rules.specs.Selects.{values_of, if_none_ready, pick, default_from, numbered, default, park, choose}
use Rattle.std.specs.List.{AllByRecursion, range_with_len}
use Rattle.gr_laws.proofs.WaitLemmas.{Known, known_values}
use Rattle.type_safety.specs.Standing.{at_select}
use Rattle.type_safety.proofs.Sorts.{Sort, Made, Yields, yields, faulty}
use Rattle.type_safety.proofs.Running.{GoesOn, SortedNumbered, sends_nil, sends, SortedClause, transfers, otherwise}
use Rattle.type_safety.proofs.Promises.{Acting, Readiness}
use Rattle.type_safety.proofs.FineAttempts.{IsFine, if_fine, given_fine, goes_fine, goes_on_fine, fault_fine}
use Rattle.type_safety.proofs.FineCommunications.{readiness_of}
use Rattle.type_safety.proofs.FineWaits.{wait_fine}

not_wrong : {A : Type 0} (x : A) → gives x ≡ wrong → ⊥
not_wrong x e = cc

fault_not_wrong : {A : Type 0} (e : Fault) → ◌≡◌ {A = Outcome A} (faults e) wrong → ⊥
fault_not_wrong f e = cc

-- a clause that is picked is one of the clauses of the select
abbrev pub Within : ℕ → Choice → Type 0
Within n (choices.Pick i) = In i (range_with_len 1 n)
Within n _ = Unit {0}

-- numbers of clauses
below : (a n i : ℕ) → i < n → In (a + i) (range_with_len a n)
below a zero i h = absurd (omega arith)
below a (suc n) zero h = inl (let e : a + 0 ≡ a = omega arith in e)
below a (suc n) (suc i) h =
    let e : a + 1 + i ≡ a + suc i = omega arith in
    inr (subst (λ k. In k (range_with_len (a + 1) n)) e (below (a + 1) n i (omega arith)))

in_range : {A : Type 0} (xs : List A) (i : ℕ) (x : A) → slice_get xs i ≡ Some x
    → In (suc i) (range_with_len 1 (length xs))
in_range xs i x e =
    let one : 1 + i ≡ suc i = omega arith in
    subst (λ k. In k (range_with_len 1 (length xs))) one (below 1 (length xs) i (slice_get_within xs i x e))

known_at : (cs : List Communication) (i : ℕ) (c : Communication) → AllByRecursion Known cs → clause_at cs i ≡ Some c → Known c
known_at cs zero c h e = absurd (none-some _ e)
known_at [] (suc n) c h e = absurd (none-some _ e)
known_at (d ∷ cs) (suc zero) c h e = subst Known (same_Some _ _ e) h.0
known_at (d ∷ cs) (suc (suc n)) c h e = known_at cs (suc n) c h.1 e

module _ (P : Refusal → Type 0) (fs : List Signature) (made : Made) (s : State) (a : Actor) (k : Sort) (acting : Acting fs made s a k) where
  abbrev Clauses : ℕ → List Communication → Type 0
  Clauses i cs = SortedNumbered fs made k a.frame (numbered i cs)

  value_to_send : (clause : Option ℕ) (c : Option ChName) (v : Outcome Value)
      → SortedClause fs made k a.frame clause (Sending c v) → (e : Sort) × Yields made v e
  value_to_send clause c v (transfers (sends_nil y)) = (_, y)
  value_to_send clause c v (transfers (sends m y o)) = (_, y)

  -- the values to send are there, or a fault
  values_there : (i : ℕ) (cs : List Communication) → Clauses i cs → values_of cs ≡ wrong → ⊥
  values_there i [] h e = not_wrong _ e
  values_there i (Sending c v ∷ cs) h e =
      let y = value_to_send (Some i) c v h.0 in
      by_value v y.1 (values_there (i + 1) cs h.1) e
    where
      by_rest : (v : Value) → (values_of cs ≡ wrong → ⊥) → (x : Outcome (List Value)) → values_of cs ≡ x
          → (x >>= λ xs. gives (v ∷ xs)) ≡ wrong → ⊥
      by_rest v ih (gives xs) d g = not_wrong _ g
      by_rest v ih (faults f) d g = fault_not_wrong f g
      by_rest v ih wrong d g = ih d

      by_value : {e : Sort} (v : Outcome Value) → Yields made v e → (values_of cs ≡ wrong → ⊥)
          → (v >>= λ x. values_of cs >>= λ xs. gives (x ∷ xs)) ≡ wrong → ⊥
      by_value (gives v) (yields h) ih g = by_rest v ih (values_of cs) refl g
      by_value (faults f) faulty ih g = fault_not_wrong f g
      by_value wrong y ih g = elim y [ ]
  values_there i (Receiving c initial ∷ cs) h e = values_there (i + 1) cs h.1 e
  values_there i (Otherwise ∷ cs) h e = values_there (i + 1) cs h.1 e

  ready_of : (clause : Option ℕ) (c : Communication) → SortedClause fs made k a.frame clause c
      → Readiness P fs made s a clause c
  ready_of clause c (transfers h) = readiness_of P fs made s a k clause c acting h
  ready_of clause c (otherwise h) =
      record { can = false; asks = λ k h. h; proceeds = λ other n e. absurd (cc); or_else = λ other n h. h }

  -- past the default clause
  default_sorted : (i : ℕ) (cs : List Communication) (j : ℕ) → Clauses i cs → default_from i cs ≡ Some j
      → GoesOn fs made k a.frame.function (past a.frame (Some j) None)
  default_sorted i [] j h e = absurd (none-some _ e)
  default_sorted i (Otherwise ∷ cs) j h e = by_clause h.0
    where
      by_clause : SortedClause fs made k a.frame (Some i) Otherwise
          → GoesOn fs made k a.frame.function (past a.frame (Some j) None)
      by_clause (otherwise g) =
          subst (λ j. GoesOn fs made k a.frame.function (past a.frame (Some j) None)) (same_Some _ _ e) g
      by_clause (transfers t) = elim t [ ]
  default_sorted i (Sending c v ∷ cs) j h e = default_sorted (i + 1) cs j h.1 e
  default_sorted i (Receiving c initial ∷ cs) j h e = default_sorted (i + 1) cs j h.1 e

  -- a clause by its number
  clause_sorted : (i : ℕ) (cs : List Communication) (n : ℕ) (c : Communication) → Clauses i cs
      → slice_get cs n ≡ Some c → SortedClause fs made k a.frame (Some (i + n)) c
  clause_sorted i [] n c h e = absurd (none-some _ e)
  clause_sorted i (d ∷ cs) zero c h e =
      let q : i ≡ i + 0 = omega arith in
      subst (λ j. SortedClause fs made k a.frame (Some j) c) q (subst (SortedClause fs made k a.frame (Some i)) (same_Some _ _ e) h.0)
  clause_sorted i (d ∷ cs) (suc n) c h e =
      let q : i + 1 + n ≡ i + suc n = omega arith in
      subst (λ j. SortedClause fs made k a.frame (Some j) c) q (clause_sorted (i + 1) cs n c h.1 e)

  picked_sorted : (cs : List Communication) (i : ℕ) (c : Communication) → Clauses 1 cs → clause_at cs i ≡ Some c
      → SortedClause fs made k a.frame (Some i) c
  picked_sorted cs zero c h e = absurd (none-some _ e)
  picked_sorted cs (suc n) c h e =
      let q : 1 + n ≡ suc n = omega arith in
      subst (λ j. SortedClause fs made k a.frame (Some j) c) q (clause_sorted 1 cs n c h e)

  module _ (cs : List Communication) (h : Clauses 1 cs) (at : deed a.frame ≡ gives (Chooses cs)) where
    abbrev G : Attempt → Type 0
    G = IsFine P fs made s

    -- a clause that can proceed, or may be refused
    picked_fine : (i : ℕ) (c : Communication) (e : clause_at cs i ≡ Some c)
        (sorted : SortedClause fs made k a.frame (Some i) c)
        → ((ready_of (Some i) c sorted).can ≡ true) ⊎ P no_such_choice → G (pick a i (values_of cs) (Some c))
    picked_fine i c e sorted may = by_values (values_of cs) refl
      where
        refuses : (ready_of (Some i) c sorted).can ≡ false → ((ready_of (Some i) c sorted).can ≡ true)
            ⊎ P no_such_choice → G (refuse no_such_choice)
        refuses f (inl t) = absurd (let q : true ≡ false = sym t ∙ f in cc)
        refuses f (inr p) = record { fine = p }

        by_values : (vs : Outcome (List Value)) → values_of cs ≡ vs → G (pick a i vs (Some c))
        by_values (gives vs) q =
            let known = known_at cs i c (known_values cs vs q) e in
            elim may [
              | inl t ↦ record { fine = (ready_of (Some i) c sorted).proceeds (refuse no_such_choice) known t }
              | inr p ↦ record { fine = (ready_of (Some i) c sorted).or_else (refuse no_such_choice) known p }
            ]
        by_values (faults f) q =
            let then_this =
            if_fine (ready_of (Some i) c sorted).can (λ t. fault_fine acting None f) (λ n. refuses n may) in
            record { fine = (ready_of (Some i) c sorted).asks (λ b. if b then fault a None f else refuse no_such_choice) then_this.fine }
        by_values wrong q = absurd (values_there 1 cs h q)

    default_then : (j : ℕ) → default_from 1 cs ≡ Some j
        → G (given a (values_of cs)
        (λ vs. given a (past a.frame (Some j) None) (λ f. simply a Default (onward a f) [])))
    default_then j e = given_fine acting (values_of cs) (values_there 1 cs h)
        (λ vs q. goes_on_fine acting (default_sorted 1 cs j h e) (λ f d g. goes_fine acting d g tt))

    park_then : G (given a (values_of cs) (λ vs. wait a None SelectWait (numbered 1 cs)))
    park_then = given_fine acting (values_of cs) (values_there 1 cs h)
        (λ vs q. record { fine = wait_fine P fs made s a k None SelectWait (numbered 1 cs) acting (at_select at) h })

    -- only the choice may be refused
    module _ (may : P no_such_choice) where
      refused : G (refuse no_such_choice)
      refused = record { fine = may }

      none_ready_fine : (i : ℕ) (ds : List Communication) → Clauses i ds → (x : Attempt) → G x
          → G (if_none_ready ds x)
      none_ready_fine i [] g x q = q
      none_ready_fine i (c ∷ ds) g x q =
          let r = ready_of (Some i) c g.0 in
          let rest = if_fine r.can (λ t. refused) (λ n. none_ready_fine (i + 1) ds g.1 x q) in
          record { fine = r.asks (λ b. if b then refuse no_such_choice else if_none_ready ds x) rest.fine }

      pick_fine : (i : ℕ) (o : Option Communication) → clause_at cs i ≡ o → G (pick a i (values_of cs) o)
      pick_fine i None e = refused
      pick_fine i (Some c) e = picked_fine i c e (picked_sorted cs i c h e) (inr may)

      default_fine : (o : Option ℕ) → default_from 1 cs ≡ o → G (default a cs o)
      default_fine None e = refused
      default_fine (Some j) e = none_ready_fine 1 cs h _ (default_then j e)

      park_fine : (o : Option ℕ) → G (park a cs o)
      park_fine None = none_ready_fine 1 cs h _ park_then
      park_fine (Some j) = refused

      pub choose_fine : (choice : Choice) → G (choose a cs choice)
      choose_fine choices.Plain = refused
      choose_fine (choices.Pick i) = pick_fine i (clause_at cs i) refl
      choose_fine choices.Default = default_fine (default_from 1 cs) refl
      choose_fine choices.Park = park_fine (default_from 1 cs)

    -- a clause that can proceed
    record Found : Type 0 where
      number : ℕ
      clause : Communication
      stands : clause_at cs number ≡ Some clause
      sorted : SortedClause fs made k a.frame (Some number) clause
      can : (ready_of (Some number) clause sorted).can ≡ true
      within : In number (range_with_len 1 (length cs))

    -- the number of the first of the rest
    stands_there : (i n : ℕ) (c : Communication) → i ≡ suc n → slice_get cs n ≡ Some c → clause_at cs i ≡ Some c
    stands_there i n c e q = subst (λ i. clause_at cs i ≡ Some c) (sym e) q

    found : (i n : ℕ) (c : Communication) (g : SortedClause fs made k a.frame (Some i) c) → i ≡ suc n
        → slice_get cs n ≡ Some c → (ready_of (Some i) c g).can ≡ true → Found
    found i n c g e q t = record {
      number = i;
      clause = c;
      stands = stands_there i n c e q;
      sorted = g;
      can = t;
      within = subst (λ i. In i (range_with_len 1 (length cs))) (sym e) (in_range cs n c q);
    }

    find : (n i : ℕ) (ds : List Communication) → i ≡ suc n → ((m : ℕ) → slice_get ds m ≡ slice_get cs (n + m))
        → Clauses i ds → Found ⊎ ((x : Attempt) → G x → G (if_none_ready ds x))
    find n i [] q e g = inr (λ x y. y)
    find n i (c ∷ ds) q e g = elim (cases_Bool (ready_of (Some i) c g.0).can) [
      | inl t ↦ let same : n ≡ n + 0 = omega arith in inl (found i n c g.0 q (ap (slice_get cs) same ∙ sym (e 0)) t)
      | inr f ↦ elim (find (suc n) (i + 1) ds (omega arith) (λ m. let r : n + suc m ≡ suc n + m = omega arith in e (suc m) ∙ ap (slice_get cs) r) g.1) [
        | inl x ↦ inl x
        | inr rest ↦ inr (λ x y.
            let goes =
            if_fine (ready_of (Some i) c g.0).can (λ t. absurd (let q : true ≡ false = sym t ∙ f in cc))
            (λ n. rest x y) in
            record { fine = (ready_of (Some i) c g.0).asks (λ b. if b then refuse no_such_choice else if_none_ready ds x) goes.fine })
      ]
    ]

    -- some choice is a step: a clause that can proceed, or else default, or else to wait
    pub select_goes : (choice : Choice) × G (choose a cs choice) × Within (length cs) choice
    select_goes = elim (find 0 1 cs (omega arith) (λ m. let e : m ≡ 0 + m = omega arith in ap (slice_get cs) e) h) [
      | inl x ↦ (
        choices.Pick (x.number),
        subst (λ o. G (pick a (x.number) (values_of cs) o)) (sym x.stands) (picked_fine (x.number) x.clause x.stands x.sorted (inl x.can)),
        x.within,
      )
      | inr none ↦ by_default (default_from 1 cs) refl none
    ]
      where
        by_default : (o : Option ℕ) → default_from 1 cs ≡ o → ((x : Attempt) → G x → G (if_none_ready cs x))
            → (choice : Choice) × G (choose a cs choice) × Within (length cs) choice
        by_default None e none = (choices.Park, subst (λ o. G (park a cs o)) (sym e) (none _ park_then), tt)
        by_default (Some j) e none =
            (choices.Default, subst (λ o. G (default a cs o)) (sym e) (none _ (default_then j e)), tt)
