-- A loop is its first turn, and the loop from there.
use Rattle.std.proofs.Common.{◌≡◌, ℕ, zero, suc, ◌<◌, refl, arith, length}
use Rattle.std.specs.Prelude.{Result, Ok, Err}
use Rattle.gr_syntax.specs.Reading.{ReadError, Found, ◌>>=◌, Turn, Stop, Go, turned, turns, loop}

-- each turn takes tokens
abbrev pub Shrinks : {A : Type 0} → (Found A → Result (Turn (Found A)) ReadError) → Type 0
Shrinks {A} step = (s t : Found A) → step s ≡ Ok (Go t) → length t.2 < length s.2

abbrev Same : {A : Type 0} → (Found A → Result (Turn (Found A)) ReadError) → ℕ → ℕ → Result (Turn (Found A)) ReadError → Type 0
Same step m n r = (r >>= turned (turns step m)) ≡ (r >>= turned (turns step n))

after_turn : {A : Type 0} (step : Found A → Result (Turn (Found A)) ReadError) → Shrinks step → (m n : ℕ) (s : Found A) (r : Result (Turn (Found A)) ReadError) → step s ≡ r → length s.2 < suc m → length s.2 < suc n → ((t : Found A) → length t.2 < m → length t.2 < n → turns step m t ≡ turns step n t) → Same step m n r
after_turn step sh m n s (Ok (Stop t)) e p q ih = refl
after_turn step sh m n s (Ok (Go t)) e p q ih = let lt : length t.2 < length s.2 = sh s t e in ih t (omega arith) (omega arith)
after_turn step sh m n s (Err f) e p q ih = refl

-- the number of turns does not matter, if it is enough
pub enough : {A : Type 0} (step : Found A → Result (Turn (Found A)) ReadError) → Shrinks step → (m n : ℕ) (s : Found A) → length s.2 < m → length s.2 < n → turns step m s ≡ turns step n s
enough step sh zero n s p q = absurd (omega arith)
enough step sh (suc m) zero s p q = absurd (omega arith)
enough step sh (suc m) (suc n) s p q = after_turn step sh m n s (step s) refl p q (λ t a b. enough step sh m n t a b)

again : {A : Type 0} (step : Found A → Result (Turn (Found A)) ReadError) → Shrinks step → (s : Found A) (r : Result (Turn (Found A)) ReadError) → step s ≡ r → (r >>= turned (turns step (length s.2))) ≡ (r >>= turned (loop step))
unfolding loop
again step sh s (Ok (Stop t)) e = refl
again step sh s (Ok (Go t)) e = let lt : length t.2 < length s.2 = sh s t e in enough step sh (length s.2) (suc (length t.2)) t lt (omega arith)
again step sh s (Err f) e = refl

pub loop_is : {A : Type 0} (step : Found A → Result (Turn (Found A)) ReadError) → Shrinks step → (s : Found A) → loop step s ≡ (step s >>= turned (loop step))
unfolding loop
loop_is step sh s = again step sh s (step s) refl
