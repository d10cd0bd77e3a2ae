-- Calls by the values of their arguments. No clause of the whole checker speaks of them.
use Rattle.std.specs.Prelude.{ℕ, List, [], ◌∷◌, Option, Some, None, if◌then◌else◌, codes}
use Rattle.gr_tree.specs.Exprs as tree
use Rattle.gr_tree.specs.Exprs.{Tree, Trees}
use Rattle.gr_exprs.specs.declared.calls.Callee.{Callee}
use Rattle.gr_exprs.specs.declared.calls.Callee.TheVariants as callees
use Rattle.gr_program.specs.Types.{Ty}
use Rattle.gr_program.specs.Programs.{Expr, Exprs, none, more, Len, Cap, MakeSized}
use Rattle.gr_typing.specs.Scopes.{Scope, variable_named, Signature, function_in, signature}
use Rattle.gr_typing.specs.Values.{Value, Known}
use Rattle.gr_const.specs.Constants as constant
use Rattle.gr_exprs.specs.Finding.{◌>>=◌, size_of, made_channel, has_text, if_unknown, measured, call_of, call_value, given, value_in}

-- the values of expressions
abbrev pub values_in : List Signature → Scope → Trees → Option (List Value)
values_in fs s tree.none = Some []
values_in fs s (tree.more e es) = value_in fs s e >>= λ v. values_in fs s es >>= λ vs. Some (v ∷ vs)

-- values given to parameters of these types
abbrev pub given_all : List Value → List Ty → Option Exprs
given_all [] [] = Some none
given_all [] (t ∷ ts) = None
given_all (v ∷ vs) [] = None
given_all (v ∷ vs) (t ∷ ts) = given t v >>= λ p. given_all vs ts >>= λ ps. Some (more p ps)

abbrev pub only_of : List Value → Option Value
only_of [] = None
only_of (v ∷ []) = Some v
only_of (v ∷ (w ∷ vs)) = None

-- what a name stands for in a call that has a value
abbrev pub measure_named : List ℕ → Option Callee
measure_named x =
    if has_text x (codes "len") then Some callees.Length else (if has_text x (codes "cap") then Some callees.Capacity else None)

abbrev pub callee_by : List ℕ → Option ℕ → Option Callee
callee_by x (Some k) = Some (callees.Function k)
callee_by x None = measure_named x

abbrev pub callee_in : List Signature → Scope → List ℕ → Option Callee
callee_in fs s x = if_unknown (variable_named s x) (callee_by x (function_in fs x))

abbrev pub called_as : List Signature → Callee → List Value → Option Value
called_as fs (callees.Function k) vs = call_of (given_all vs) k (signature fs k) >>= call_value
called_as fs callees.Length vs = only_of vs >>= measured Len
called_as fs callees.Capacity vs = only_of vs >>= measured Cap

-- a literal, and a channel that is made with a size
abbrev pub number_value : ℕ → Option Value
number_value n = constant.number n >>= λ c. Some (Known c)

abbrev pub sized_channel : Option Ty → Value → Option Value
sized_channel t v = size_of v >>= λ p. made_channel t (MakeSized p)

-- the function that a name stands for, and a call of it
abbrev pub function_named : List Signature → Scope → List ℕ → Option ℕ
function_named fs s x = if_unknown (variable_named s x) (function_in fs x)

abbrev pub call_named : List Signature → Scope → List ℕ → Trees → Option (Option Ty × Expr)
call_named fs s x es = function_named fs s x >>= λ k. values_in fs s es >>= λ vs. call_of (given_all vs) k (signature fs k)
