-- Choices that are added goroutine by goroutine.
use Rattle.std.proofs.Common.{◌≡◌, ℕ, suc, ◌+◌, ◌<◌, List, ◌∷◌, ◌++◌, length, drop, get_or, sym, ◌∙◌, ap, append_assoc, arith}
use Rattle.std.proofs.Math.Seq.{drop-cons}
use Rattle.gr_base.specs.declared.events.Event.{Event}
use Rattle.gr_program.specs.Programs.{Program}
use Rattle.gr_rules.specs.States.{State}
use Rattle.gr_schedules.specs.Choices.{choices_at, all_choices}
use Rattle.gr_explore.specs.declared.pages.Page.{Page}
use Rattle.gr_explore.specs.Keeping.{names_of}

pub next_choices : (p : Program) (s : State) (names : List (List ℕ)) (i : ℕ) (x : List ℕ) (a b old : List Event) → i < length names → x ≡ get_or names i x → b ≡ a ++ choices_at p s x
    → a ++ all_choices p s (drop i names) ≡ old → b ++ all_choices p s (drop (i + 1) names) ≡ old
next_choices p s names i x a b old within is e so_far =
    let one : i + 1 ≡ suc i = omega arith in
    let d : drop i names ≡ x ∷ drop (i + 1) names = drop-cons names i x within ∙ ap (λ y. y ∷ drop (suc i) names) (sym is) ∙ ap (λ n. x ∷ drop n names) (sym one) in
    let rest = all_choices p s (drop (i + 1) names) in
    ap (λ y. y ++ rest) e ∙ append_assoc a (choices_at p s x) rest ∙ ap (λ ys. a ++ all_choices p s ys) (sym d) ∙ so_far

pub put_together : {A : Type 0} (old us vs a b : List A) → a ≡ old ++ us → b ≡ a ++ vs → b ≡ old ++ (us ++ vs)
put_together old us vs a b h e = e ∙ ap (λ xs. xs ++ vs) h ∙ append_assoc old us vs

-- the same, by pages
pub next_choices_of : (p : Program) (s : State) (pages : List (Page (List ℕ))) (i : ℕ) (x : Page (List ℕ)) (a b old : List Event) → i < length pages → x ≡ get_or pages i x
    → b ≡ a ++ choices_at p s x.name → a ++ all_choices p s (names_of (drop i pages)) ≡ old → b ++ all_choices p s (names_of (drop (i + 1) pages)) ≡ old
next_choices_of p s pages i x a b old within is e so_far =
    let one : i + 1 ≡ suc i = omega arith in
    let d : drop i pages ≡ x ∷ drop (i + 1) pages = drop-cons pages i x within ∙ ap (λ y. y ∷ drop (suc i) pages) (sym is) ∙ ap (λ n. x ∷ drop n pages) (sym one) in
    let rest = all_choices p s (names_of (drop (i + 1) pages)) in
    ap (λ y. y ++ rest) e ∙ append_assoc a (choices_at p s x.name) rest ∙ ap (λ ys. a ++ all_choices p s (names_of ys)) (sym d) ∙ so_far
