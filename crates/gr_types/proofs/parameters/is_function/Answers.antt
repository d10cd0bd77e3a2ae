use Rattle.std.proofs.Common.{◌≡◌, ℕ, ◌+◌, ◌<◌, true, List, ◌∷◌, length, get_or, drop, ap, sym, ◌∙◌, add-one, drop-cons, nat_eq}
use Rattle.std.specs.Prelude.{◌||◌}
use Rattle.std.specs.Cmp.Lexicographic.{pointwise}
use Rattle.gr_tree.specs.declared.file.Func.{Func}
use Rattle.gr_tree.specs.Files.{function_of, functions_of}
use Rattle.gr_types.specs.Codes.{is_function}
use Rattle.gr_types.proofs.parameters.is_function.Goals as goal

front : (fs : List Func) (i : ℕ) (f : Func) → i < length fs → f ≡ get_or fs i f → functions_of (drop i fs) ≡ function_of f ∷ functions_of (drop (i + 1) fs)
front fs i f lt e =
    let g : drop i fs ≡ get_or fs i f ∷ drop (i + 1) fs = rw (add-one, drop-cons fs i f) in
    ap functions_of g ∙ ap (λ f. function_of f ∷ functions_of (drop (i + 1) fs)) (sym e)

pub returns-then-eq : goal.returns-then-eq
returns-then-eq c =
    let fs = c.args.funcs.now in
    let x = c.args.name.now in
    let i = c.loop-func.func-index in
    let f = c.func-item.result in
    let rest = is_function (functions_of (drop (i + 1) fs)) x in
    let same : pointwise nat_eq f.name.items x ≡ true = ap (λ n. pointwise nat_eq n x) (sym c.as_slice.ensures.value) ∙ sym c.eq.ensures ∙ c.if-eq.true in
    sym (ap (λ b. b || rest) same) ∙ sym (ap (λ l. is_function l x) (front fs i f c.loop-func-test.true c.func-item.is)) ∙ c.loop-func.invariant
