-- Names that may be declared (Go: Blank identifier, Predeclared identifiers, Uniqueness of identifiers).
use Rattle.std.specs.Prelude.{ℕ, Bool, true, false, not, ◌||◌, ◌&&◌, List, [], ◌∷◌, ◌++◌, if◌then◌else◌, nat_eq, codes}
use Rattle.std.specs.Cmp.Lexicographic.{pointwise}

unfoldable pub predeclared : List (List ℕ)
predeclared =
    codes "int" ∷ codes "bool" ∷ codes "true" ∷ codes "false" ∷ codes "nil" ∷
    codes "len" ∷ codes "cap" ∷ codes "make" ∷ codes "close" ∷ codes "println" ∷ []

-- whether a name is one of these
abbrev pub among : List (List ℕ) → List ℕ → Bool
among [] x = false
among (y ∷ ys) x = pointwise nat_eq x y || among ys x

-- the blank identifier, `_`
abbrev pub is_blank : List ℕ → Bool
is_blank x = pointwise nat_eq x (codes "_")

-- whether no name but the blank identifier stands twice among these, or once among `before`
abbrev pub are_distinct : (before names : List (List ℕ)) → Bool
are_distinct before [] = true
are_distinct before (x ∷ names) =
    if is_blank x then are_distinct before names else (not (among before x) && are_distinct (before ++ (x ∷ [])) names)
