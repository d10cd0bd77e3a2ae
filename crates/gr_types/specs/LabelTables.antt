-- A table of names as the list that it is, and labels that come one after another.
use Rattle.std.specs.Prelude.{ℕ, Bool, true, not, ◌&&◌, List, [], ◌∷◌, ◌++◌, map, if◌then◌else◌}
use Rattle.gr_types.specs.declared.labels.NameSet.{NameSet}
use Rattle.gr_typing.specs.Names.{among, is_blank}

abbrev pub names_of : NameSet → List (List ℕ)
names_of set = map (λ x. x.now) set.names.keys

-- the names, with one that is added if it is new
abbrev pub with_name : List (List ℕ) → List ℕ → List (List ℕ)
with_name names x = if among names x then names else names ++ (x ∷ [])

abbrev pub with_names : List (List ℕ) → List (List ℕ) → List (List ℕ)
with_names names [] = names
with_names names (x ∷ xs) = with_names (with_name names x) xs

-- whether each of these labels fits where those before are declared and these names are used
abbrev pub fit_after : (used before labels : List (List ℕ)) → Bool
fit_after used before [] = true
fit_after used before (x ∷ labels) =
    (not (is_blank x) && (not (among before x) && among used x)) && fit_after used (before ++ (x ∷ [])) labels
