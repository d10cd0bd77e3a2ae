-- When a turn of a worker is due, when a goroutine is lent, and how many steps a log still takes.
use Rattle.std.proofs.Common.{◌≡◌, ℕ, zero, suc, ◌+◌, ◌-◌, ◌%◌, ◌≤◌, ◌<◌, ◌||◌, not, List, [], ◌∷◌, Bool, true, false, true≢false, Option, Some, None, length, refl, sym, ap, subst, ◌∙◌, arith, mod-lt}
use Rattle.std.specs.Prelude.{◌↔◌, IsTrue, IfOk, IfSome, OnErr, Result, Ok, Err, nat_eq, option_map, slice_get}
use Rattle.std.specs.Cmp.Lexicographic.{pointwise}
use Rattle.gr_base.specs.declared.kinds.Fault.{Fault}
use Rattle.gr_base.specs.declared.memory.NoMemory.{NoMemory}
use Rattle.gr_program.specs.Programs.{Program}
use Rattle.gr_rules.specs.Limits.{most_steps}
use Rattle.gr_rules.specs.States.{live, ended, faulted, State}
use Rattle.gr_rules.specs.Turns.{IsTurn, last_owner}
use Rattle.gr_pool.specs.Goroutines.{is_among}
use Rattle.gr_causal.proofs.ListLemmas.{some_is, none_not}
use Rattle.gr_rollback.proofs.NameLemmas.{go_self}
use Rattle.gr_rollback.specs.LentCopy.{LentCopy}
use Rattle.gr_rollback.specs.StepLeasing.{Loan, IsLease, IsAsLent, IsAsLentIn, loan_of}
use Rattle.gr_rollback.specs.Stores.{program_at, contents_at}
use Rattle.gr_rollback.specs.Leasing.{Contains, contains, IsLentAt, SomeGoesAlone}
use Rattle.gr_session.specs.declared.debuggee.Debuggee.{Debuggee}
use Rattle.gr_session.specs.Journal.{World, past_of}
use Rattle.gr_session.specs.Debuggees.{store_in, Stands}
use Rattle.gr_session.specs.Granting.{MayStep, IsTurnDue, CanLend, IsLent, LeaseEnds}
use Rattle.gr_session.proofs.Basics.{or_right}
use Rattle.gr_session.proofs.OneMeaningTurns.{turn_is_ready}

-- what is at most the limit with more is at most the limit without
pub within : (limit counted kept more : ℕ) → counted ≡ kept → kept + more ≤ limit → counted ≤ limit
within limit counted kept more same few = omega (arith, same, few)

-- what is left below a limit
pub rest_of : (limit counted kept : ℕ) → counted ≡ kept → counted ≤ limit → (limit - counted) + kept ≡ limit
rest_of limit counted kept same few = omega (arith, same, few)

none_left : (limit rest kept : ℕ) → rest + kept ≡ limit → rest ≡ 0 → kept < limit → ⊥
none_left limit rest kept all none less = omega (arith, all, none, less)

some_left : (limit rest kept : ℕ) → rest + kept ≡ limit → (rest ≡ 0 → ⊥) → kept < limit
some_left limit rest kept all some = omega (arith, all, some)

not_zero : (n m : ℕ) → n ≡ m → (n ≡ 0 → ⊥) → 0 < m
not_zero n m same some = omega (arith, same, some)

zero_is : (n m : ℕ) → n ≡ m → n ≡ 0 → 0 < m → ⊥
zero_is n m same none some = omega (arith, same, none, some)

-- what never is
pub never : {A : Type 0} → (A → ⊥) → IsTrue false ↔ A
never none = (λ is. absurd (let e : true ≡ false = sym is in cc), λ a. absurd (none a))

-- a name that is found among others is one of them, and where there is one, there is one at each place modulo their number
pub is_found : (names : List (List ℕ)) (i : ℕ) (n : List ℕ) → Some n ≡ slice_get names i → is_among n names ≡ true
is_found [] i n e = absurd (none_not n (sym e))
is_found (x ∷ names) zero n e =
    ap (λ (b : Bool). b || is_among n names) (ap (pointwise nat_eq n) (sym (some_is n x e)) ∙ go_self n)
is_found (x ∷ names) (suc i) n e = or_right (pointwise nat_eq n x) (is_among n names) (is_found names i n e)

is_there : (names : List (List ℕ)) (n : List ℕ) → is_among n names ≡ true → 0 < length names
is_there [] n e = absurd (let no : false ≡ true = e in cc)
is_there (x ∷ names) n e = omega arith

got : (names : List (List ℕ)) (i : ℕ) → i < length names → None ≡ slice_get names i → ⊥
got [] i less e = omega (arith, less)
got (x ∷ names) zero less e = none_not x e
got (x ∷ names) (suc i) less e = got names i (omega (arith, less)) e

-- some goroutine goes alone where one is lent, and none where none is
pub lent_alone : (s : State) (place : ℕ) (n : List ℕ) → IsLentAt s place (Some n) → SomeGoesAlone s
lent_alone s place n is = (n, sym (is.alone.each n) ∙ is_found is.names (place % length is.names) n is.at)

pub none_alone : (s : State) (place : ℕ) → IsLentAt s place None → SomeGoesAlone s → ⊥
none_alone s place is some =
    got is.names (place % length is.names) (mod-lt place (is_there is.names some.0 (is.alone.each some.0 ∙ some.1))) is.at

module _ (p : Program) (w : World p) (d : Debuggee) (s : Stands p w d) where
  -- nothing is granted
  pub without_grant : d.grant ≡ 0 → IsTrue false ↔ MayStep p w
  without_grant none = never (λ may. zero_is d.grant w.grant s.grant none may.granted)

  -- workers may take no step where the log has no room
  pub without_room : (rest : ℕ) → rest + length w.log ≡ most_steps → rest ≡ 0 → IsTrue false ↔ MayStep p w
  without_room rest all none = never (λ may. none_left most_steps rest (length w.log) all none may.room)

  -- workers may take a step where one is granted and the log has room
  pub with_both : (rest : ℕ) → (d.grant ≡ 0 → ⊥) → rest + length w.log ≡ most_steps → (rest ≡ 0 → ⊥) → MayStep p w
  with_both rest granted all some =
      record { granted = not_zero d.grant w.grant s.grant granted; room = some_left most_steps rest (length w.log) all some }

  -- a goroutine can be lent where workers may take a step, and one goes alone
  pub lends_where : (may alone : Bool) → (IsTrue may ↔ MayStep p w) → may ≡ true → (IsTrue alone ↔ SomeGoesAlone w.state)
      → IsTrue alone ↔ CanLend p w
  lends_where may alone steps is goes =
      (λ yes. record { may_step = steps.0 is; some_alone = goes.0 yes }, λ can. goes.1 can.some_alone)

  pub lends_none : (may : Bool) → (IsTrue may ↔ MayStep p w) → may ≡ false → IsTrue false ↔ CanLend p w
  lends_none may steps is = never (λ can. let yes : may ≡ true = steps.1 can.may_step in absurd (true≢false (sym yes ∙ is)))

  pub due_none : (may : Bool) → (IsTrue may ↔ MayStep p w) → may ≡ false → IsTrue false ↔ IsTurnDue p w
  due_none may steps is = never (λ due. let yes : may ≡ true = steps.1 due.may_step in absurd (true≢false (sym yes ∙ is)))

  runs_as : w.state.run ≡ (contents_at (store_in d)).run
  runs_as = ap (λ (t : State). t.run) s.machine.holds.state

  -- a turn is not due where the program is over
  pub when_ended : ended ≡ (contents_at (store_in d)).run → IsTrue false ↔ IsTurnDue p w
  when_ended is = never (λ due. let e : ended ≡ live = is ∙ sym runs_as ∙ due.runs in cc)

  pub when_faulted : (fault : Fault) → faulted fault ≡ (contents_at (store_in d)).run → IsTrue false ↔ IsTurnDue p w
  when_faulted fault is = never (λ due. let e : faulted fault ≡ live = is ∙ sym runs_as ∙ due.runs in cc)

  -- a turn is not due where no goroutine is ready
  pub when_stuck : IsTurn w.state (last_owner p w.log) None → IsTrue false ↔ IsTurnDue p w
  when_stuck turn = never (λ due. turn due.owner due.ready)

  -- where one is ready, a turn is due exactly where no goroutine goes alone
  by_turn : (may alone : Bool) (g : List ℕ) → (IsTrue may ↔ MayStep p w) → may ≡ true → live ≡ (contents_at (store_in d)).run
      → IsTurn w.state (last_owner p w.log) (Some g) → (IsTrue alone ↔ SomeGoesAlone w.state) → IsTrue (not alone) ↔ IsTurnDue p w
  by_turn may true g steps is lives turn goes = never (λ due. due.none_alone (goes.0 refl))
  by_turn may false g steps is lives turn goes = (
    λ yes. record {
      may_step = steps.0 is;
      runs = runs_as ∙ sym lives;
      owner = g;
      ready = turn_is_ready w.state (last_owner p w.log) g turn;
      none_alone = λ some. true≢false (sym (goes.1 some));
    },
    λ due. refl,
  )

  pub when_some : (o : Option (List ℕ)) {g : List ℕ} (may alone : Bool) → o ≡ Some g → (IsTrue may ↔ MayStep p w) → may ≡ true
      → live ≡ (contents_at (store_in d)).run → IsTurn w.state (last_owner p w.log) o → (IsTrue alone ↔ SomeGoesAlone w.state)
      → IsTrue (not alone) ↔ IsTurnDue p w
  when_some o {g} may alone some steps is lives turn goes =
      by_turn may alone g steps is lives (subst (IsTurn w.state (last_owner p w.log)) some turn) goes

  pub when_none : (o : Option (List ℕ)) → o ≡ None → IsTurn w.state (last_owner p w.log) o → IsTrue false ↔ IsTurnDue p w
  when_none o none turn = when_stuck (subst (IsTurn w.state (last_owner p w.log)) none turn)

  -- what the store contains is what the steps that are kept lead to
  pub contains_here : Contains p (past_of p w) (contents_at (store_in d))
  contains_here = contains p (past_of p w) d.machine.course s.machine.holds

  -- what stands in the store stands in it for the program of the world
  pub lent_here : (b : Loan) → IsAsLentIn b (program_at (store_in d)) (contents_at (store_in d)) → IsAsLentIn b p (contents_at (store_in d))
  lent_here b is = subst (λ q. IsAsLentIn b q (contents_at (store_in d))) s.machine.holds.program is

  pub not_lent_here : (b : Loan) → (IsAsLentIn b (program_at (store_in d)) (contents_at (store_in d)) → ⊥) → IsAsLentIn b p (contents_at (store_in d)) → ⊥
  not_lent_here b isnt is = isnt (subst (λ q. IsAsLentIn b q (contents_at (store_in d))) (sym s.machine.holds.program) is)

  -- none is lent where workers may take no step
  pub lent_none : (place : ℕ) (may : Bool) → (IsTrue may ↔ MayStep p w) → may ≡ false → IsLent p w place None
  lent_none place may steps is can = let yes : may ≡ true = steps.1 can.may_step in true≢false (sym yes ∙ is)

  -- where workers may take a step, the machine's answer is what is lent
  pub lent_where : (place : ℕ) (may : Bool) (o : Option LentCopy) → (IsTrue may ↔ MayStep p w) → may ≡ true
      → IfSome o (λ l. IsLease l × IsAsLent l (store_in d)) → IfSome o (λ l. (loan_of l).steps ≡ 0)
      → IsLentAt w.state place (option_map (λ l. (loan_of l).name) o) → IsLent p w place o
  lent_where place may None steps is lease fresh which = λ can. none_alone w.state place which can.some_alone
  lent_where place may (Some l) steps is lease fresh which = record {
    can_lend = record { may_step = steps.0 is; some_alone = lent_alone w.state place (loan_of l).name which };
    which = which;
    contents = contents_at (store_in d);
    contains = contains_here;
    there = lent_here (loan_of l) lease.1;
    fresh = fresh;
  }

  pub lent_result : (place : ℕ) (may : Bool) (r : Result (Option LentCopy) NoMemory) → (IsTrue may ↔ MayStep p w) → may ≡ true
      → IfOk r (λ o. IfSome o (λ l. IsLease l × IsAsLent l (store_in d))) → IfOk r (λ o. IfSome o (λ l. (loan_of l).steps ≡ 0))
      → IfOk r (λ o. IsLentAt w.state place (option_map (λ l. (loan_of l).name) o))
      → OnErr r ((go : List ℕ) × IsLentAt w.state place (Some go)) → LeaseEnds p w place r
  lent_result place may (Ok o) steps is lease fresh which wants = lent_where place may o steps is lease fresh which
  lent_result place may (Err e) steps is lease fresh which wants =
      record { may_step = steps.0 is; some_alone = lent_alone w.state place wants.0 wants.1 }
