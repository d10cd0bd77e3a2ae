-- Steps of a goroutine on its copy.
use Rattle.std.proofs.Common.{◌≡◌, ◌<◌, ◌≤◌, ℕ, ap, subst, ◌∙◌, arith}
use Rattle.gr_program.specs.Programs.{Program}
use Rattle.gr_code.specs.Goroutines.{CodeGoroutine}
use Rattle.gr_rollback.specs.LentCopy.{LentCopy}
use Rattle.gr_rollback.specs.StepLeasing.{IsLease, SameLoan, LeadsOn, Stays, CanCountOn, CanLeadOn, HasOwnStep, goroutine_led_to, program_lent}
use Rattle.gr_lower.specs.Lowered.{lowered}
use Rattle.gr_session.specs.Copies.{IsBatch, most_at, loan_of}

-- steps on the copy, of the same loan, at most this many; another follows where there is none yet
pub record OnTheWay (most : ℕ) (lent led : LentCopy) : Type 0 where
  pub lease : IsLease led
  pub loan : SameLoan lent led
  pub few : (loan_of led).steps ≤ most
  pub goes : (loan_of led).steps ≡ 0 → CanLeadOn led

same_loan : (a b c : LentCopy) → SameLoan a b → SameLoan b c → SameLoan a c
same_loan a b c first second = record {
  program = second.program ∙ first.program;
  name = second.name ∙ first.name;
  lent = second.lent ∙ first.lent;
}

itself : (a : LentCopy) → SameLoan a a
itself a = record { program = λ i. program_lent a; name = λ i. (loan_of a).name; lent = λ i. (loan_of a).goroutine }

-- none yet
pub on_the_way : (most : ℕ) (lent : LentCopy) → IsLease lent → (loan_of lent).steps ≡ 0 → CanLeadOn lent → OnTheWay most lent lent
on_the_way most lent lease fresh leads = record { lease = lease; loan = itself lent; few = omega (arith, fresh); goes = λ none. leads }

-- one more
pub goes_on : (most : ℕ) (lent old new : LentCopy) → OnTheWay most lent old → (loan_of old).steps < most → IsLease new → SameLoan old new → LeadsOn old new
    → OnTheWay most lent new
goes_on most lent old new way less lease loan on = record {
  lease = lease;
  loan = same_loan lent old new way.loan loan;
  few = let one = on.steps in omega (arith, one, less);
  goes = λ none. absurd (let one = on.steps in omega (arith, one, none));
}

-- as many as may be
pub ends_full : (limit : ℕ) (lent led : LentCopy) → OnTheWay (most_at limit) lent led → (counted : ℕ) → counted ≡ (loan_of led).steps → (counted < most_at limit → ⊥)
    → IsBatch limit lent led
ends_full limit lent led way counted same full = record {
  loan = way.loan;
  some = omega (arith, same, full);
  few = way.few;
  ends = λ less. absurd (full (let few = way.few in omega (arith, same, less)));
}

-- no further step is the goroutine's own
pub ends_alone : (limit : ℕ) (lent old new : LentCopy) → OnTheWay (most_at limit) lent old → IsLease new → SameLoan old new → Stays old new
    → ¬ CanLeadOn old → IsBatch limit lent new
ends_alone limit lent old new way lease loan stays none = record {
  loan = same_loan lent old new way.loan loan;
  some = took (loan_of new).steps (loan_of old).steps steps (λ z. none (way.goes z));
  few = let few = way.few in omega (arith, steps, few);
  ends = λ less leads. none (as_before leads);
}
  where
    steps : (loan_of new).steps ≡ (loan_of old).steps
    steps = ap (λ l. l.steps) stays.loan

    took : (n m : ℕ) → n ≡ m → (m ≡ 0 → ⊥) → 1 ≤ n
    took n m same some = omega (arith, same, some)

    here : goroutine_led_to new ≡ goroutine_led_to old
    here = stays.reached

    as_before : CanLeadOn new → CanLeadOn old
    as_before leads = record {
      own = subst (λ (x : Program × CodeGoroutine). HasOwnStep (lowered x.0) x.1) (λ i. (loan.program i, here i)) leads.own;
      counts = subst CanCountOn here leads.counts;
    }
