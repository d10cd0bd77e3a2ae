-- The variables of a frame that hold values, one by one.
use Rattle.std.proofs.Common.{◌≡◌, ℕ, zero, suc, ◌+◌, ◌<◌, ◌≤◌, List, [], ◌∷◌, ◌++◌, length, take, drop, map, slice_get, Option, Some, None}
use Rattle.std.proofs.Common.{Vec, Global, refl, sym, ap, ◌∙◌, arith, append_assoc}
use Rattle.std.specs.Prelude.{slice_index_or}
use Rattle.std.proofs.lemmas.List.{append-nil}
use Rattle.gr_base.specs.declared.values.Value.{Value}
use Rattle.gr_program.specs.declared.program.Variable.{Variable}
use Rattle.gr_program.specs.TypeViews.{declared_of}
use Rattle.gr_program.specs.Programs.{Declared, Named}
use Rattle.gr_rules.specs.Evaluation.{Variables}
use Rattle.gr_rules.specs.Tells.{holding}
use Rattle.gr_code.specs.Vectors.{value_at}
use Rattle.gr_command.specs.Replies.{variable_in}
use Rattle.gr_queries.proofs.Copying.{some_inj, is_there, map_last}

-- cells past the variables are not shown
pub holding_variables : (ds : List Declared) (cells : Variables) → holding ds (take (length ds) cells) ≡ holding ds cells
holding_variables [] cells = refl
holding_variables (d ∷ ds) [] = refl
holding_variables (d ∷ ds) (None ∷ cells) = holding_variables ds cells
holding_variables (Named x t ∷ ds) (Some v ∷ cells) = ap (λ l. (x, v) ∷ l) (holding_variables ds cells)

-- without cells nothing is shown
holding_nothing : (ds : List Declared) → holding ds [] ≡ []
holding_nothing [] = refl
holding_nothing (d ∷ ds) = refl

-- what is shown of one variable, where this is in its cell
abbrev pub variable_shown : Variable → Option Value → List (List ℕ × Value)
variable_shown x (Some v) = (x.name.items, v) ∷ []
variable_shown x None = []

-- the next variable is shown first
next_variable : (xs : List Variable) (cells : Variables) (n : ℕ) (x : Variable) → Some x ≡ slice_get xs n
    → holding (drop n (declared_of xs)) (drop n cells)
    ≡ variable_shown x (value_at (slice_get cells n)) ++ holding (drop (n + 1) (declared_of xs)) (drop (n + 1) cells)
next_variable [] cells n x h = cc
next_variable (y ∷ xs) [] zero x h = sym (holding_nothing (declared_of xs))
next_variable (y ∷ xs) (None ∷ cells) zero x h = refl
next_variable (y ∷ xs) (Some v ∷ cells) zero x h = ap (λ (z : Variable). (z.name.items, v) ∷ holding (declared_of xs) cells) (some_inj (sym h))
next_variable (y ∷ xs) [] (suc n) x h =
    let one : suc n + 1 ≡ suc (n + 1) = omega arith in
    rw one (holding_nothing (drop n (declared_of xs)) ∙ sym (holding_nothing (drop (n + 1) (declared_of xs))))
next_variable (y ∷ xs) (cell ∷ cells) (suc n) x h =
    let one : suc n + 1 ≡ suc (n + 1) = omega arith in rw one (next_variable xs cells n x h)

-- one variable more was looked at, and is shown where it holds a value
pub after_variable : (xs : List Variable) (cells : Variables) (before after shown : List (List ℕ × Value)) (n : ℕ) (x : Variable)
    → (held : Option Value) → n < length xs → x ≡ slice_index_or xs n x
    → held ≡ value_at (slice_get cells n) → after ≡ before ++ variable_shown x held
    → before ++ holding (drop n (declared_of xs)) (drop n cells) ≡ shown
    → after ++ holding (drop (n + 1) (declared_of xs)) (drop (n + 1) cells) ≡ shown
after_variable xs cells before after shown n x held within at is more so_far =
    let rest = holding (drop (n + 1) (declared_of xs)) (drop (n + 1) cells) in
    let next = next_variable xs cells n x (is_there xs n x within at) ∙ ap (λ o. variable_shown x o ++ rest) (sym is) in
    ap (λ l. l ++ rest) more ∙ append_assoc before (variable_shown x held) rest ∙ ap (λ l. before ++ l) (sym next) ∙ so_far

-- past the last variable there is none
none_left : (xs : List Variable) (n : ℕ) → length xs ≤ n → drop n (declared_of xs) ≡ []
none_left [] zero h = refl
none_left [] (suc n) h = refl
none_left (x ∷ xs) zero h = absurd (omega (arith, h))
none_left (x ∷ xs) (suc n) h = none_left xs n (omega (arith, h))

-- all variables were looked at
pub after_all : (xs : List Variable) (cells : Variables) (before shown : List (List ℕ × Value)) (n : ℕ) → length xs ≤ n
    → before ++ holding (drop n (declared_of xs)) (drop n cells) ≡ shown → before ≡ shown
after_all xs cells before shown n h so_far =
    sym (append-nil before) ∙ ap (λ ds. before ++ holding ds (drop n cells)) (sym (none_left xs n h)) ∙ so_far

-- a value is shown with its name
pub next_shown : (shown new : List (Vec ℕ Global × Value)) (x : Variable) (name : Vec ℕ Global) (value v : Value) → new ≡ shown ++ (name, value) ∷ []
    → name.items ≡ x.name.items → value ≡ v → map variable_in new ≡ map variable_in shown ++ variable_shown x (Some v)
next_shown shown new x name value v more named is =
    ap (map variable_in) more ∙ map_last variable_in shown (name, value)
    ∙ ap (λ (n : List ℕ). map variable_in shown ++ (n, value) ∷ []) named ∙ ap (λ (w : Value). map variable_in shown ++ (x.name.items, w) ∷ []) is
