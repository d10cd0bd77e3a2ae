-- Steps by the round robin go one way: a turn is of one goroutine, and a run stops at one place, for one reason.
use Rattle.std.proofs.Common.{◌≡◌, ℕ, ◌+◌, List, [], ◌∷◌, ◌++◌, length, Option, Some, None, inl, inr, refl, sym, ◌∙◌, ap, subst}
use Rattle.std.specs.declared.cmp.Ordering.{Ordering}
use Rattle.std.specs.declared.cmp.Ordering.TheVariants.{Less, Equal, Greater}
use Rattle.std.proofs.lemmas.Map.Lookups.{exact_bytes}
use Rattle.gr_base.specs.Names.{go_cmp}
use Rattle.gr_causal.proofs.ListLemmas.{some_is, none_not}
use Rattle.gr_causal.proofs.PathLemmas.{log_push}
use Rattle.gr_pool.proofs.Order.{greater_back}
use Rattle.gr_program.specs.Programs.{Program}
use Rattle.gr_rules.specs.States.{State, start}
use Rattle.gr_rules.specs.Steps.{machine}
use Rattle.gr_rules.specs.Tells.{usual_choice}
use Rattle.gr_rules.specs.Turns.{IsReady, IsFirst, HasTurn, IsTurn, RunEnd, Runs, stops, goes, last_owner, why_end}
use Rattle.gr_laws.specs.Reached.{Logged, IsRun}
use Rattle.gr_session.proofs.OneMeaningSteps.{one_step}

-- names of which neither comes before the other are one
neither_before : (g h : List ℕ) → (go_cmp g h ≡ Less → ⊥) → (go_cmp h g ≡ Less → ⊥) → g ≡ h
neither_before g h first second = by_order (go_cmp g h) refl
  where
    by_order : (o : Ordering) → go_cmp g h ≡ o → g ≡ h
    by_order Less e = absurd (first e)
    by_order Equal e = exact_bytes g h e
    by_order Greater e = absurd (second (greater_back g h e))

one_first : (P : List ℕ → Type 0) (g h : List ℕ) → IsFirst P g → IsFirst P h → g ≡ h
one_first P g h a b = neither_before g h (b.first g a.holds) (a.first h b.holds)

-- a goroutine whose turn it is, is ready
pub turn_is_ready : (s : State) (last : Option (List ℕ)) (g : List ℕ) → HasTurn s last g → IsReady s g
turn_is_ready s None g turn = turn.holds
turn_is_ready s (Some last) g (inl turn) = turn.holds.0
turn_is_ready s (Some last) g (inr turn) = turn.1.holds

one_has_turn : (s : State) (last : Option (List ℕ)) (g h : List ℕ) → HasTurn s last g → HasTurn s last h → g ≡ h
one_has_turn s None g h a b = one_first (IsReady s) g h a b
one_has_turn s (Some last) g h (inl a) (inl b) = one_first _ g h a b
one_has_turn s (Some last) g h (inl a) (inr b) = absurd (b.0 g a.holds)
one_has_turn s (Some last) g h (inr a) (inl b) = absurd (a.0 h b.holds)
one_has_turn s (Some last) g h (inr a) (inr b) = one_first (IsReady s) g h a.1 b.1

-- a turn is of one goroutine, or of none
pub one_turn : (s : State) (last a b : Option (List ℕ)) → IsTurn s last a → IsTurn s last b → a ≡ b
one_turn s last None None t u = refl
one_turn s last None (Some h) t u = absurd (t h (turn_is_ready s last h u))
one_turn s last (Some g) None t u = absurd (u g (turn_is_ready s last g t))
one_turn s last (Some g) (Some h) t u = ap Some (one_has_turn s last g h t u)

-- two ends of steps by the round robin that are one
pub record SameEnd (p : Program) (s t : State) (old new : List (Logged p)) (m n : ℕ) (why because : RunEnd) : Type 0 where
  pub state : s ≡ t
  pub log : old ≡ new
  pub taken : m ≡ n
  pub reason : why ≡ because

module _ (p : Program) (breaks : List ℕ) (wanted : ℕ) where
  -- at one place there is not both a reason to end and none
  ends_and_goes : (s : State) (log : List (Logged p)) (taken : ℕ) (a b : Option (List ℕ)) (why : RunEnd)
      → IsTurn s (last_owner p log) a → IsTurn s (last_owner p log) b
      → why_end s breaks wanted taken (length log) a ≡ Some why → why_end s breaks wanted taken (length log) b ≡ None → ⊥
  ends_and_goes s log taken a b why t u ends on =
      none_not why (sym on ∙ ap (why_end s breaks wanted taken (length log)) (one_turn s (last_owner p log) b a u t) ∙ ends)

  one_event : (s : State) (g h : List ℕ) (r q : Logged p) → g ≡ h → r.event ≡ record { go = g; choice = usual_choice p s g }
      → q.event ≡ record { go = h; choice = usual_choice p s h } → r.event ≡ q.event
  one_event s g h r q same a b = a ∙ ap (λ g. record { go = g; choice = usual_choice p s g }) same ∙ sym b

  -- steps by the round robin from one place come to one end
  pub one_end_of_run : (taken : ℕ) (s u v : State) (log old new : List (Logged p)) (m n : ℕ) (why because : RunEnd)
      → Runs p breaks wanted taken s log u old m why → Runs p breaks wanted taken s log v new n because
      → SameEnd p u v old new m n why because
  one_end_of_run taken s u v log old new m n why because (stops a t is) (stops b x so) = record {
    state = refl;
    log = refl;
    taken = refl;
    reason = some_is why because (sym is ∙ ap (why_end s breaks wanted taken (length log)) (one_turn s (last_owner p log) a b t x) ∙ so);
  }
  one_end_of_run taken s u v log old new m n why because (stops a t is) (goes h after q x on event step rest) =
      absurd (ends_and_goes s log taken a (Some h) why t x is on)
  one_end_of_run taken s u v log old new m n why because (goes g after r t on event step rest) (stops b x so) =
      absurd (ends_and_goes s log taken b (Some g) because x t so on)
  one_end_of_run taken s u v log old new m n why because (goes g mid r t on event step rest) (goes h other q x also named leads more) =
      let turn : g ≡ h = some_is g h (one_turn s (last_owner p log) (Some g) (Some h) t x) in
      let one = one_step p s mid other r q (one_event s g h r q turn event named) step leads in
      one_end_of_run (taken + 1) mid u v (log ++ r ∷ []) old new m n why because rest
      (subst (λ y. Runs p breaks wanted (taken + 1) y (log ++ r ∷ []) v new n because) (sym one.1)
      (subst (λ y. Runs p breaks wanted (taken + 1) other (log ++ y ∷ []) v new n because) (sym one.0) more))

  -- steps by the round robin lead on from what a run leads to
  pub runs_lead_on : (taken : ℕ) (s u : State) (log old : List (Logged p)) (m : ℕ) (why : RunEnd)
      → Runs p breaks wanted taken s log u old m why → IsRun p log s → IsRun p old u
  runs_lead_on taken s u log old m why (stops a t is) run = run
  runs_lead_on taken s u log old m why (goes g mid r t on event step rest) run =
      runs_lead_on (taken + 1) mid u (log ++ r ∷ []) old m why rest (log_push (machine p) (start p) log s r mid run step)
