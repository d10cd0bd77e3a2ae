-- A goroutine that changes in its place, said of what a store contains.
use Rattle.std.proofs.Common.{◌≡◌, ℕ, Bool, true, false, if◌then◌else◌, List, Option, Some, None, refl, sym, ap, ◌∙◌}
use Rattle.std.specs.Prelude.{option_map}
use Rattle.gr_rules.specs.States.{same_go, updated}
use Rattle.gr_goros.specs.Views.{Seen}
use Rattle.gr_tables.specs.NamedGoroutines.{goroutines_of, name_at, seen_of, Sets, Changes}
use Rattle.gr_tables.specs.declared.goroutines.Goroutines.{Goroutines}
use Rattle.gr_tables.proofs.ByNumber.{seen_named}

some_is : {X : Type 0} {x y : X} → Some x ≡ Some y → x ≡ y
some_is {X} {x} h = ap (λ o. elim o [ Some z ↦ z | None ↦ x ]) h

-- what is taken from each of two
through_if : {X Y : Type 0} (f : X → Y) (b : Bool) (x y : X) → f (if b then x else y) ≡ (if b then f x else f y)
through_if f true x y = refl
through_if f false x y = refl

-- the goroutine with the number, whose name this is, is set, and no other
pub set_goroutines : (number : ℕ) (n : List ℕ) (x : Option Seen) (old new : Goroutines) → name_at old number ≡ Some n → Sets number x old new
    → goroutines_of new ≡ updated same_go (goroutines_of old) n (option_map (λ g. g.content) x)
set_goroutines number n x old new named sets =
    let name : sets.name ≡ n = some_is (sym sets.here ∙ named) in
    λ j q. (ap (λ f. option_map (λ g. g.content) (f q)) sets.is
    ∙ through_if (option_map (λ g. g.content)) (same_go q sets.name) x (seen_of old q)
    ∙ ap (λ m. if same_go q m then option_map (λ g. g.content) x else goroutines_of old q) name) j

-- the goroutine of the name, before and after a change
pub change_was : (number : ℕ) (n : List ℕ) (a b : Seen) (old new : Goroutines) → name_at old number ≡ Some n → Changes number a b old new
    → goroutines_of old n ≡ Some a.content
change_was number n a b old new named c = ap (option_map (λ g. g.content)) (sym (seen_named old number n named) ∙ c.was)

pub change_is : (number : ℕ) (n : List ℕ) (a b : Seen) (old new : Goroutines) → name_at old number ≡ Some n → Changes number a b old new
    → goroutines_of new ≡ updated same_go (goroutines_of old) n (Some b.content)
change_is number n a b old new named c = set_goroutines number n (Some b) old new named c.sets
