-- A reading that fails where a height is above a limit.
use Rattle.std.proofs.Common.{◌≡◌, ℕ, suc, ◌+◌, ◌<◌, ◌≤◌, max, Bool, true, false, cond, refl, ap, sym, ◌∙◌, arith, le-ltb, lt-ltb, ⊎_elim}
use Rattle.std.specs.Prelude.{Result, Ok, Err, nat_lt}
use Rattle.std.proofs.lemmas.Bool.{cases_lt}
use Rattle.gr_syntax.specs.Reading.{ReadError, High, ◌>>=◌}

abbrev pub bound : {B : Type 0} → ℕ → ℕ → Result B ReadError → Result B ReadError
bound h k x = cond (nat_lt h k) (Err High) x

pub within : {B : Type 0} (h k : ℕ) (x : Result B ReadError) → k ≤ h → bound h k x ≡ x
within h k x le = rw (le-ltb h k le) refl

pub above : {B : Type 0} (h k : ℕ) (x : Result B ReadError) → h < k → bound h k x ≡ Err High
above h k x lt = rw (lt-ltb h k lt) refl

cond_bind : {A B : Type 0} (b : Bool) (r : Result A ReadError) (f : A → Result B ReadError) → (cond b (Err High) r >>= f) ≡ cond b (Err High) (r >>= f)
cond_bind true r f = refl
cond_bind false r f = refl

pub bound_bind : {A B : Type 0} (h k : ℕ) (r : Result A ReadError) (f : A → Result B ReadError) → (bound h k r >>= f) ≡ bound h k (r >>= f)
bound_bind h k r f = cond_bind (nat_lt h k) r f

cond_high : {B : Type 0} (b : Bool) → ◌≡◌ {A = Result B ReadError} (cond b (Err High) (Err High)) (Err High)
cond_high true = refl
cond_high false = refl

pub bound_high : {B : Type 0} (h k : ℕ) (x : Result B ReadError) → x ≡ Err High → bound h k x ≡ Err High
bound_high h k x e = rw e (cond_high (nat_lt h k))

-- one level higher
pub bound_suc : {B : Type 0} (h k : ℕ) (x : Result B ReadError) → bound h k x ≡ bound (suc h) (k + 1) x
bound_suc h k x = ⊎_elim (λ lt. above h k x lt ∙ sym (above (suc h) (k + 1) x (omega arith))) (λ le. within h k x le ∙ sym (within (suc h) (k + 1) x (omega arith))) (cases_lt h k)

pub bound_max : {B : Type 0} (h j k : ℕ) (x : Result B ReadError) → bound h j (bound h k x) ≡ bound h (max j k) x
bound_max h j k x = ⊎_elim
    (λ lt. above h j _ lt ∙ sym (above h (max j k) x (omega arith)))
    (λ le. within h j _ le ∙ ⊎_elim (λ lt. above h k x lt ∙ sym (above h (max j k) x (omega arith))) (λ le2. within h k x le2 ∙ sym (within h (max j k) x (omega arith))) (cases_lt h k))
    (cases_lt h j)

-- an outer limit that is looser
pub bound_looser : {B : Type 0} (h k : ℕ) (x : Result B ReadError) → bound (suc h) k (bound h k x) ≡ bound h k x
bound_looser h k x = ⊎_elim
    (λ lt. above (suc h) k _ lt ∙ sym (above h k x (omega arith)))
    (λ le. within (suc h) k _ le)
    (cases_lt (suc h) k)

-- one level further down
pub under : {A B : Type 0} (h k : ℕ) (r : Result A ReadError) (x : A) (f : A → Result B ReadError) → r ≡ bound h k (Ok x) → (r >>= f) ≡ bound (suc h) (k + 1) (f x)
under h k r x f e = ap (λ r. r >>= f) e ∙ bound_bind h k (Ok x) f ∙ bound_suc h k (f x)
