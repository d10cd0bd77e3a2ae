-- Words of which one names something.
use Rattle.std.proofs.Common.{◌≡◌, ◌||◌, ◌∙◌, true, false, Bool, List, [], ◌∷◌, ◌++◌, ℕ, Option, Some, None, refl, ap, sym, subst, append_assoc}
use Rattle.std.specs.Prelude.{is_some, IsSome, option_map, option_and_then, OnErr, Result, Ok, Err}
use Rattle.std.specs.List.{list_any}
use Rattle.gr_base.specs.Names.{go_named, ch_named, step_named}
use Rattle.gr_base.specs.declared.names.StepId.{StepId}
use Rattle.gr_command.specs.Arguments.{steps_named}
use Rattle.gr_command.specs.Commands.{is_named, HasNamed}

or_true : (a b : Bool) → b ≡ true → (a || b) ≡ true
or_true true b e = refl
or_true false b e = e

some_is : {A : Type 0} (o : Option A) → IsSome o → is_some o ≡ true
some_is (Some a) s = refl
some_is None s = s

-- a step's name is a name
step_is_named : (word : List ℕ) → IsSome (step_named word) → is_named word ≡ true
step_is_named word s =
    or_true (is_some (go_named word)) (is_some (ch_named word) || is_some (step_named word))
    (or_true (is_some (ch_named word)) (is_some (step_named word)) (some_is (step_named word) s))

-- the first of the words names a step, or a later one names something
pub first_named : (words rest : List (List ℕ)) (word : List ℕ) → words ≡ word ∷ rest → IsSome (step_named word) → HasNamed words
first_named words rest word is s = ap (list_any is_named) is ∙ ap (λ (b : Bool). b || list_any is_named rest) (step_is_named word s)

pub later_named : (words rest : List (List ℕ)) (word : List ℕ) → words ≡ word ∷ rest → HasNamed rest → HasNamed words
later_named words rest word is h = ap (list_any is_named) is ∙ or_true (is_named word) (list_any is_named rest) h

-- what is read is named
pub is_read : {A : Type 0} (o found : Option A) (a : A) → found ≡ o → found ≡ Some a → IsSome o
is_read o found a named is = subst IsSome (sym is ∙ named) refl

-- the steps that words name, one word further
pub steps_further : (total : Option (List StepId)) (words rest : List (List ℕ)) (word : List ℕ) (ids new : List StepId) (id : StepId)
    (named : Option StepId) → words ≡ word ∷ rest → named ≡ step_named word → named ≡ Some id → new ≡ ids ++ id ∷ []
    → total ≡ option_map (λ later. ids ++ later) (steps_named words) → total ≡ option_map (λ later. new ++ later) (steps_named rest)
steps_further total words rest word ids new id named is read one more so_far =
    so_far
    ∙ ap (λ ws. option_map (λ later. ids ++ later) (steps_named ws)) is
    ∙ ap (λ o. option_map (λ later. ids ++ later) (option_and_then (λ i. option_map (λ is. i ∷ is) (steps_named rest)) o)) (sym read ∙ one)
    ∙ by (steps_named rest)
    ∙ ap (λ l. option_map (λ later. l ++ later) (steps_named rest)) (sym more)
  where
    by : (o : Option (List StepId)) → option_map (λ later. ids ++ later) (option_map (λ is. id ∷ is) o) ≡ option_map (λ later. (ids ++ id ∷ []) ++ later) o
    by None = refl
    by (Some l) = ap Some (sym (append_assoc ids (id ∷ []) l))

-- what an error tells, and what follows from it
pub err_then : {T E A B : Type 0} (r : Result T E) → (A → B) → OnErr r A → OnErr r B
err_then (Ok t) f a = tt
err_then (Err e) f a = f a
