-- Pages that tell of codes.
use Rattle.std.specs.Prelude.{◌≡◌, ℕ, List, [], ◌∷◌, ◌++◌, Bool, true, false, codes, nat_eq, if◌then◌else◌}
use Rattle.std.specs.Cmp.Lexicographic.{pointwise}
use Rattle.gr_console.specs.Codes.{sources, replies, callers, kinds, ends, faults, failures}

-- a page tells of the code with which it begins, before a colon
abbrev pub IsOn : (code page : List ℕ) → Type 0
IsOn code page = (rest : List ℕ) × (page ≡ code ++ (codes ":" ++ rest))

-- whether a page tells of the code
abbrev pub begins : (code page : List ℕ) → Bool
begins code [] = false
begins [] (b ∷ page) = nat_eq b 58
begins (c ∷ code) (b ∷ page) = if nat_eq b c then begins code page else false

-- whether a code is one of these
abbrev pub is_among : List (List ℕ) → List ℕ → Bool
is_among [] code = false
is_among (name ∷ names) code = if pointwise nat_eq name code then true else is_among names code

-- whether the program tells of a code
abbrev pub is_told : List ℕ → Bool
is_told code =
    if is_among sources code then true else
    if is_among replies code then true else
    if is_among callers code then true else
    if is_among kinds code then true else
    if is_among ends code then true else
    if is_among faults code then true else is_among failures code
