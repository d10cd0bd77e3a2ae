-- What holds of what evaluation gives, and of what may be there.
use Rattle.std.proofs.Common.{◌≡◌, Bool, true, false, if◌then◌else◌, Option, Some, None, refl}
use Rattle.std.specs.Prelude.{unwrap_or}
use Rattle.std.specs.Option.{option_or}
use Rattle.gr_base.specs.declared.kinds.Fault.{Fault}
use Rattle.gr_rules.specs.Outcomes.{Outcome, gives, faults, wrong, ◌>>=◌}

pub data IfGives {A : Type 0} (P : A → Type 0) : Outcome A → Type 0 where
  given : {a : A} → P a → IfGives P (gives a)
  faulty : {e : Fault} → IfGives P (faults e)
  stray : IfGives P wrong

pub then_gives : {A B : Type 0} {P : A → Type 0} {Q : B → Type 0} {o : Outcome A} {f : A → Outcome B}
    → IfGives P o → ((a : A) → P a → IfGives Q (f a)) → IfGives Q (o >>= f)
then_gives (given {a} h) k = k a h
then_gives faulty k = faulty
then_gives stray k = stray

-- of any outcome
pub in_any_case : {A : Type 0} (o : Outcome A) → IfGives (λ (a : A). Unit {0}) o
in_any_case (gives a) = given tt
in_any_case (faults e) = faulty
in_any_case wrong = stray

pub gives_less : {A : Type 0} {P Q : A → Type 0} {o : Outcome A} → ((a : A) → P a → Q a) → IfGives P o → IfGives Q o
gives_less k (given {a} h) = given (k a h)
gives_less k faulty = faulty
gives_less k stray = stray

pub data IfSome {A : Type 0} (P : A → Type 0) : Option A → Type 0 where
  there : {a : A} → P a → IfSome P (Some a)
  absent : IfSome P None

pub some_or : {A : Type 0} {P : A → Type 0} {o r : Option A} → IfSome P o → IfSome P r → IfSome P (option_or o r)
some_or (there h) k = there h
some_or absent k = k

pub some_else : {A : Type 0} {P : A → Type 0} {o : Option A} {a : A} → IfSome P o → P a → P (unwrap_or o a)
some_else (there h) k = h
some_else absent k = k

pub if_either : {A : Type 0} (P : A → Type 0) (b : Bool) {x y : A} → (b ≡ true → P x) → (b ≡ false → P y) → P (if b then x else y)
if_either P true h k = h refl
if_either P false h k = k refl
