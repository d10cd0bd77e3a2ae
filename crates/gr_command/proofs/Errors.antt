-- What holds of errors.
use Rattle.std.specs.Prelude.{OnErr, Result, Ok, Err}

-- what holds anyway holds of an error
pub on_err : {T E A : Type 0} (r : Result T E) → A → OnErr r A
on_err (Ok t) a = tt
on_err (Err e) a = a
