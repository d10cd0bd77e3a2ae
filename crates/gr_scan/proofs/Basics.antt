-- Small lemmas that several files use.
use Rattle.std.proofs.Common.{◌≡◌, true, false, sym, true≢false}
use Rattle.std.specs.Prelude.{Some, None}

pub not_here : {Z : Type 0} → false ≡ true → Z
not_here e = absurd (true≢false (sym e))

pub no_value : {A Z : Type 0} {x : A} → None ≡ Some x → Z
no_value e = absurd (cc)
