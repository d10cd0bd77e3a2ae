-- What holds of a result, by what it is.
use Rattle.std.proofs.Common.{Result, Ok, Err}
use Rattle.std.specs.Prelude.{IfOk, OnErr}

-- what follows from what holds of an answer
pub if_ok : {A E : Type 0} {P Q : A → Type 0} (r : Result A E) → IfOk r P → ((x : A) → P x → Q x) → IfOk r Q
if_ok (Ok x) h k = k x h
if_ok (Err e) h k = tt

-- what follows from what holds of an error
pub if_err : {A E P Q R : Type 0} (r : Result A E) → OnErr r P → OnErr r Q → (P → Q → R) → OnErr r R
if_err (Ok x) h k l = tt
if_err (Err e) h k l = l h k

-- what holds anyhow holds of an error
pub on_err : {A E P : Type 0} (r : Result A E) → P → OnErr r P
on_err (Ok x) h = tt
on_err (Err e) h = h
