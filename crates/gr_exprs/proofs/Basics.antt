-- Small lemmas that several files use.
use Rattle.std.proofs.Common.{◌≡◌, ℕ, true, List, [], ◌∷◌, ◌++◌, refl, ap, sym, ◌∙◌, nat_eq}
use Rattle.std.specs.Prelude.{Option, Some, None, ◌||◌}
use Rattle.std.specs.Cmp.Lexicographic.{pointwise, bytes_decides}
use Rattle.std.proofs.Math.Bool.{or-false, or_assoc}
use Rattle.gr_typing.specs.Names.{among}
use Rattle.gr_exprs.specs.Finding.{◌>>=◌}

pub then_none : {A B : Type 0} (o : Option A) → ◌>>=◌ {B = B} o (λ a. None) ≡ None
then_none (Some a) = refl
then_none None = refl

-- what follows two is what follows the second
pub bound_twice : {A B C : Type 0} (o : Option A) (f : A → Option B) (g : B → Option C) → ((o >>= f) >>= g) ≡ (o >>= λ a. f a >>= g)
bound_twice None f g = refl
bound_twice (Some a) f g = refl

-- names
pub same_name : (x : List ℕ) → pointwise nat_eq x x ≡ true
same_name x = (bytes_decides x x).1 refl

pub among_push : (names : List (List ℕ)) (x y : List ℕ) → among (names ++ (x ∷ [])) y ≡ (among names y || pointwise nat_eq y x)
among_push [] x y = or-false (pointwise nat_eq y x)
among_push (z ∷ names) x y = ap (λ b. pointwise nat_eq y z || b) (among_push names x y) ∙ sym (or_assoc (pointwise nat_eq y z) (among names y) (pointwise nat_eq y x))
