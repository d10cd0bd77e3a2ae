-- What the steps of a batch come to.
use Rattle.std.proofs.Common.{◌≡◌, ℕ, zero, suc, ◌+◌, ◌-◌, ◌<◌, ◌≤◌, Bool, true, false, List, [], ◌++◌, length, refl, sym, ap, subst, ◌∙◌, inl, inr, arith, eq-eqb, ne_eqb}
use Rattle.std.specs.Prelude.{◌↔◌, ◌⊎◌, if◌then◌else◌}
use Rattle.gr_base.specs.declared.events.Event.{Event}
use Rattle.gr_program.specs.Programs.{Program}
use Rattle.gr_rules.specs.Limits.{most_steps}
use Rattle.gr_rules.specs.States.{State}
use Rattle.gr_laws.specs.Reached.{Logged}
use Rattle.gr_command.specs.declared.refusal.Refusal.TheVariants.{LogFull}
use Rattle.gr_command.specs.Replies.{Said, Committed, Stale, No}
use Rattle.gr_rollback.specs.LocalRun.{LocalRun}
use Rattle.gr_rollback.specs.StepLeasing.{Loan, loan_kept, loan_of, IsAsLentIn}
use Rattle.gr_rollback.specs.Stores.{program_at, contents_at}
use Rattle.gr_rollback.specs.Contents.{Contents}
use Rattle.gr_rollback.specs.LentCopy.{LentCopy}
use Rattle.gr_rollback.specs.Leasing.{JoinAll, TakesAll, led_on}
use Rattle.gr_rollback.specs.Machines as rollback
use Rattle.gr_session.specs.declared.debuggee.Debuggee.{Debuggee}
use Rattle.gr_session.specs.Journal.{World, past_of, course_of, again_past}
use Rattle.gr_session.specs.declared.journal.Asked.TheVariants as asks
use Rattle.gr_session.specs.declared.journal.Memory.{Memory}
use Rattle.gr_session.specs.declared.journal.Memory.TheVariants.{Enough, EnoughFor}
use Rattle.gr_session.specs.Entries.{Means, by_batch}
use Rattle.gr_session.specs.Batches.{Commits, MayJoin, with_steps, all_join, has_no_memory, has_no_room_for_all, has_changed, passes_grant}
use Rattle.gr_session.specs.Debuggees.{HasLines, store_in, Stands}
use Rattle.gr_session.specs.Carried.{CommitsTo}
use Rattle.gr_session.specs.Committing.{contents_after}
use Rattle.gr_session.proofs.GrantLemmas.{contains_here, lent_here, not_lent_here}

-- what comes of a loan comes of the batch that is kept of it
pub means_batch : (p : Program) (w u : World p) (batch : LocalRun) (loan : Loan) (stood : Bool) (memory : Memory) (reply : Said)
    → loan_kept batch ≡ loan → Commits p w loan stood memory u reply → Means p w (asks.Batch batch stood) memory u reply
means_batch p w u batch loan stood memory reply is commits = by_batch (subst (λ l. Commits p w l stood memory u reply) (sym is) commits)

-- what the store contains where all steps were committed, and where not all of them were
pub all_committed : (n : ℕ) (l : LentCopy) (s : Contents) → n ≡ (loan_of l).steps → led_on l s ≡ contents_after (Committed n) l s
all_committed n l s all = sym (ap (λ b. if b then led_on l s else s) (eq-eqb n (loan_of l).steps all))

pub not_all_committed : (n : ℕ) (l : LentCopy) (s : Contents) → (n ≡ (loan_of l).steps → ⊥) → s ≡ contents_after (Committed n) l s
not_all_committed n l s some = sym (ap (λ b. if b then led_on l s else s) (ne_eqb n (loan_of l).steps some))

-- whether a reply is that the batch is stale
pub is_stale : {A : Type 0} → A → (Stale ≡ Stale) ↔ A
is_stale a = (λ e. a, λ x. refl)

pub full_not_stale : {A : Type 0} → (A → ⊥) → (No LogFull ≡ Stale) ↔ A
full_not_stale none = (λ e. absurd (let same : No LogFull ≡ Stale = e in cc), λ a. absurd (none a))

pub joined_not_stale : {A : Type 0} (steps : ℕ) → (A → ⊥) → (Committed steps ≡ Stale) ↔ A
joined_not_stale steps none = (λ e. absurd (let same : Committed steps ≡ Stale = e in cc), λ a. absurd (none a))

-- where the goroutine is as it was lent, only the grant decides
pub stale_by_grant : {A G R : Type 0} → A → (R ↔ G) → R ↔ ((¬ A) ⊎ G)
stale_by_grant lent is = (λ r. inr (is.0 r), λ x. elim x [ inl none ↦ absurd (none lent) | inr g ↦ is.1 g ])

-- steps are too many, or few enough
pub too_many : (grant steps wanted : ℕ) → steps ≡ wanted → grant < steps → grant < wanted
too_many grant steps wanted same more = omega (arith, same, more)

pub not_too_many : (grant steps wanted : ℕ) → steps ≡ wanted → steps ≤ grant → grant < wanted → ⊥
not_too_many grant steps wanted same few more = omega (arith, same, few, more)

-- steps are some
pub not_none : (steps wanted : ℕ) → steps ≡ wanted → 0 < wanted → steps ≡ 0 → ⊥
not_none steps wanted same some none = omega (arith, same, some, none)

-- after a step nothing may be taken again
none_again : (taken : ℕ) (again : List Event) → 0 < taken → again_past taken again ≡ []
none_again zero again some = absurd (omega (arith, some))
none_again (suc taken) again some = refl

above : {steps wanted : ℕ} → steps ≡ wanted → (steps ≡ 0 → ⊥) → 0 < wanted
above same some = omega (arith, same, some)

passes : (limit rest kept steps wanted : ℕ) → rest + kept ≡ limit → rest < steps → steps ≡ wanted → limit < kept + wanted
passes limit rest kept steps wanted all less same = omega (arith, all, less, same)

-- what the log has room for
pub fits_all : (limit rest kept counted steps wanted : ℕ) → rest + kept ≡ limit → counted ≡ kept → steps ≤ rest → steps ≡ wanted → counted + wanted ≤ limit
fits_all limit rest kept counted steps wanted all count few same = omega (arith, all, count, few, same)

module _ (p : Program) (w : World p) (d : Debuggee) (s : Stands p w d) (b : Loan) where
  -- its goroutine is no longer as it was lent
  pub stale_where_changed : (IsAsLentIn b (program_at (store_in d)) (contents_at (store_in d)) → ⊥) → CommitsTo p w b false Enough Stale d
  stale_where_changed other = record {
    world = w;
    commits = has_changed (contents_at (store_in d)) (contains_here p w d s) (not_lent_here p w d s b other);
    stands = s;
  }

  -- a batch that may join has no more steps than are granted, some steps, and room in the log
  pub no_join_past_grant : (steps : ℕ) → steps ≡ b.steps → d.grant < steps → MayJoin p w (contents_at (store_in d)) b → ⊥
  no_join_past_grant steps same more may =
      let granted = may.granted in let grant = s.grant in omega (arith, same, more, granted, grant)

  pub no_join_without_room : (steps rest : ℕ) → steps ≡ b.steps → rest + length w.log ≡ most_steps → rest < steps
      → MayJoin p w (contents_at (store_in d)) b → ⊥
  no_join_without_room steps rest same all less may = let room = may.room in omega (arith, same, all, less, room)

  pub no_join_when_changed : (IsAsLentIn b (program_at (store_in d)) (contents_at (store_in d)) → ⊥) → MayJoin p w (contents_at (store_in d)) b → ⊥
  no_join_when_changed other may = not_lent_here p w d s b other may.as_lent

  -- a batch with more steps than are granted is stale
  pub stale_past_grant : (steps : ℕ) → steps ≡ b.steps → d.grant < steps → CommitsTo p w b true Enough Stale d
  stale_past_grant steps same more = record {
    world = w;
    commits = passes_grant (let grant = s.grant in omega (arith, same, more, grant));
    stands = s;
  }

  module _ (lent : IsAsLentIn b (program_at (store_in d)) (contents_at (store_in d))) (steps : ℕ) (same : steps ≡ b.steps) (few : steps ≤ d.grant) where
    few_granted : b.steps ≤ w.grant
    few_granted = let grant = s.grant in omega (arith, same, few, grant)

    -- the log has no room for them
    pub full_for_all : (rest : ℕ) → rest + length w.log ≡ most_steps → rest < steps → CommitsTo p w b true Enough (No LogFull) d
    full_for_all rest all less = record {
      world = w;
      commits = has_no_room_for_all (contents_at (store_in d)) (contains_here p w d s) (lent_here p w d s b lent) few_granted
          (passes most_steps rest (length w.log) steps b.steps all less same);
      stands = s;
    }

    -- the log has room for them
    may_join : (rest : ℕ) → rest + length w.log ≡ most_steps → steps ≤ rest → (steps ≡ 0 → ⊥) → MayJoin p w (contents_at (store_in d)) b
    may_join rest all fits some = record {
      as_lent = lent_here p w d s b lent;
      some = above same some;
      granted = few_granted;
      room = fits_all most_steps rest (length w.log) (length w.log) steps b.steps all refl fits same;
    }

    -- a growth for them is refused
    pub none_without_memory : (rest : ℕ) → rest + length w.log ≡ most_steps → steps ≤ rest → (steps ≡ 0 → ⊥) → (new : Debuggee) → Stands p w new
        → CommitsTo p w b true (EnoughFor 0) (Committed 0) new
    none_without_memory rest all fits some new stands = record {
      world = w;
      commits = has_no_memory (contents_at (store_in d)) (contains_here p w d s) (may_join rest all fits some);
      stands = stands;
    }

    -- they join it
    module _ (new : Debuggee) (grant : new.grant ≡ d.grant - steps) (lines : HasLines w.lines new.lines) where
      joined : 0 < b.steps → (more : List (Logged p)) (t : State) → JoinAll p (past_of p w) b.name b.steps more t
          → rollback.Stands p (record { past = record { log = w.log ++ more; state = t }; again = again_past b.steps w.again }) new.machine
          → CommitsTo p w b true Enough (Committed b.steps) new
      joined some more t join machine = record {
        world = with_steps p w b more t;
        commits = all_join (contents_at (store_in d)) more (contains_here p w d s) (lent_here p w d s b lent) some few_granted join;
        stands = record { machine = machine; lines = lines; grant = let was = s.grant in grant ∙ ap (λ g. g - steps) was ∙ ap (λ n. w.grant - n) same };
      }

      pub some_join : (steps ≡ 0 → ⊥) → TakesAll p (course_of p w) b.name b.steps new.machine → CommitsTo p w b true Enough (Committed steps) new
      some_join some takes =
          subst (λ n. CommitsTo p w b true Enough (Committed n) new) (sym same)
          (joined (above same some) takes.steps takes.state takes.join
          (subst (λ again. rollback.Stands p (record { past = record { log = w.log ++ takes.steps; state = takes.state }; again = again }) new.machine)
          (sym (none_again b.steps w.again (above same some))) takes.stands))
