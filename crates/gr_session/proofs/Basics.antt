-- Facts of options and truth values.
use Rattle.std.proofs.Common.{◌≡◌, Bool, true, false, ◌||◌, Some, None, refl, ap}

pub some_inj : {A : Type 0} {x y : A} → Some x ≡ Some y → x ≡ y
some_inj {A} {x} h = ap (λ o. elim o [ Some z ↦ z | None ↦ x ]) h

pub or_left : (a b : Bool) → a ≡ true → (a || b) ≡ true
or_left true b e = refl
or_left false b e = cc

pub or_right : (a b : Bool) → b ≡ true → (a || b) ≡ true
or_right true b e = refl
or_right false b e = e
