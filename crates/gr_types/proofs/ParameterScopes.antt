-- The parameters of a function.
use Rattle.std.proofs.Common.{◌≡◌, ℕ, true, List, [], ◌∷◌, ◌++◌, length, refl, ap, ◌∙◌, eqb}
use Rattle.std.specs.Prelude.{Option, Some, None}
use Rattle.std.proofs.Math.Dec.{eqb-suc-zero}
use Rattle.gr_program.specs.declared.types.Type as code_type
use Rattle.gr_program.specs.declared.program.Parameter.{Parameter}
use Rattle.gr_tree.specs.Statements.{optional}
use Rattle.gr_typing.specs.Scopes.{Scope, Sign, declared, number_of}
use Rattle.gr_types.specs.FindingFiles.{is_bare}
use Rattle.gr_program.specs.TypeViews.{ty_of, types_of}
use Rattle.gr_program.specs.Views.{parameter_of, parameters_of}
use Rattle.gr_types.specs.Outlines.{Taken, may_take, taken_with, take}
use Rattle.gr_exprs.proofs.Finds.{if_true}

types_push : (ts : List code_type.Type) (t : code_type.Type) → types_of (ts ++ (t ∷ [])) ≡ types_of ts ++ (ty_of t ∷ [])
types_push [] t = refl
types_push (u ∷ ts) t = ap (λ l. ty_of u ∷ l) (types_push ts t)

parameters_push : (ps : List Parameter) (p : Parameter) → parameters_of (ps ++ (p ∷ [])) ≡ parameters_of ps ++ (parameter_of p ∷ [])
parameters_push [] p = refl
parameters_push (q ∷ ps) p = ap (λ l. parameter_of q ∷ l) (parameters_push ps p)

-- one more parameter
pub taken_is : (ts us : List code_type.Type) (ps qs : List Parameter) (s new : Scope) (x : List ℕ) (own kept shown : code_type.Type) (k : Option ℕ) → may_take s x ≡ true → new ≡ declared s x (ty_of own) → us ≡ ts ++ (kept ∷ []) → ty_of kept ≡ ty_of own → qs ≡ ps ++ (record { variable = k; value_type = shown } ∷ []) → k ≡ number_of new x → ty_of shown ≡ ty_of own → take (types_of ts, (parameters_of ps, s)) x (ty_of own) ≡ Some (types_of us, (parameters_of qs, new))
taken_is ts us ps qs s new x own kept shown k may e f g h i j =
    let p : Taken = (types_of ts, (parameters_of ps, s)) in
    if_true (may_take s x) (taken_with p x (ty_of own)) may
    ∙ cc (e, f, g, h, i, j, types_push ts kept, parameters_push ps (record { variable = k; value_type = shown }))

-- a function without parameters and result
pub bare_is : (name : List ℕ) (ts : List code_type.Type) (own : Option code_type.Type) → own ≡ None → eqb (length ts) 0 ≡ is_bare (Sign name (types_of ts) (optional ty_of own))
bare_is name [] own e = rw e refl
bare_is name (t ∷ ts) own e = eqb-suc-zero (length ts)
