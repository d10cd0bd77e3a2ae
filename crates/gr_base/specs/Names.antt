-- The one text of each name, the reading of a text, and the order of names.
use Rattle.std.specs.Prelude.{◌≡◌, ◌↔◌, ℕ, ◌==◌, ◌+◌, ◌-◌, ◌*◌, ◌^◌, ◌<◌, nat_lt, nat_eq, if◌then◌else◌, ◌&&◌, List, [], ◌∷◌, ◌++◌, drop, Option, Some, None, option_map, option_and_then, codes, decimal}
use Rattle.std.specs.Char.{is_ascii_digit}
use Rattle.std.specs.List.{flat_map, starts_with, before_first, after_first}
use Rattle.std.specs.Ordering.{nat_cmp, ordering_then}
use Rattle.std.specs.Cmp.Lexicographic.{slice_cmp}
use Rattle.std.specs.declared.cmp.Ordering.{Ordering}
use Rattle.std.specs.declared.cmp.Ordering.TheVariants.{Equal}
use Rattle.gr_base.specs.Counts.{IsCount, IsGoName}
use Rattle.gr_base.specs.declared.names.ChName.{ChName}
use Rattle.gr_base.specs.declared.names.StepId.{StepId}

-- `g0` for the goroutine of `main`, and for a child its parent's text, a dot and its count in decimal: `g0.2.1`
abbrev pub go_text : List ℕ → List ℕ
go_text go = codes "g0" ++ flat_map (λ count. codes "." ++ decimal count) go

-- the maker's text, `/c` and the channel's count in decimal: `g0.2/c1`
abbrev pub ch_text : ChName → List ℕ
ch_text name = go_text name.go ++ codes "/c" ++ decimal name.n

-- the goroutine's text, `#` and the step's ordinal in decimal: `g0.2#5`
abbrev pub step_text : StepId → List ℕ
step_text step = go_text step.go ++ codes "#" ++ decimal step.n

-- a channel's name: a goroutine's name and a count
abbrev pub IsChName : ChName → Type 0
IsChName name = IsGoName name.go × IsCount name.n

-- a step's name: a goroutine's name and an ordinal from 1 to 18,446,744,073,709,551,615
abbrev pub IsStepId : StepId → Type 0
IsStepId step = IsGoName step.go × (0 < step.n) × (step.n < 2 ^ 64)

-- the number with one more decimal digit, where the byte is a digit and the number is then from 1 to below the limit
abbrev pub with_digit : ℕ → ℕ → ℕ → Option ℕ
with_digit limit n byte =
    let longer = n * 10 + (byte - 48) in
    if is_ascii_digit byte && nat_lt 0 longer && nat_lt longer limit then Some longer else None

-- the number that was read, if any digit was: 0 stands for none, since no number in a name is 0 or begins with a 0
abbrev pub read_count : ℕ → Option ℕ
read_count n = if n == 0 then None else Some n

-- the number below the limit that a text of digits spells, where n is what was read of it before
abbrev pub count_from : ℕ → ℕ → List ℕ → Option ℕ
count_from limit n [] = read_count n
count_from limit n (byte ∷ bytes) = option_and_then (λ m. count_from limit m bytes) (with_digit limit n byte)

-- the counts that a text spells, a dot between two of them, where n is what was read of the first before
abbrev pub counts_from : ℕ → List ℕ → Option (List ℕ)
counts_from n [] = option_map (λ count. count ∷ []) (read_count n)
counts_from n (byte ∷ bytes) =
    if byte == 46
    then option_and_then (λ count. option_map (λ counts. count ∷ counts) (counts_from 0 bytes)) (read_count n)
    else option_and_then (λ m. counts_from m bytes) (with_digit (2 ^ 32) n byte)

-- the counts after `g0`: none, or a dot and counts
abbrev pub counts_after : List ℕ → Option (List ℕ)
counts_after [] = Some []
counts_after (byte ∷ bytes) = if byte == 46 then counts_from 0 bytes else None

-- the goroutine that a text names
abbrev pub go_named : List ℕ → Option (List ℕ)
go_named text = if starts_with nat_eq text (codes "g0") then counts_after (drop 2 text) else None

-- the channel's count, after the `c`
abbrev pub ch_count : List ℕ → Option ℕ
ch_count [] = None
ch_count (byte ∷ bytes) = if byte == 99 then count_from (2 ^ 32) 0 bytes else None

-- the channel that a text names: a goroutine before the first slash, and a `c` and a count after it
abbrev pub ch_named : List ℕ → Option ChName
ch_named text =
    option_and_then (λ go. option_map (λ n. record { go = go; n = n }) (ch_count (after_first (λ b. b == 47) text)))
    (go_named (before_first (λ b. b == 47) text))

-- the step that a text names: a goroutine before the first `#`, and a number after it
abbrev pub step_named : List ℕ → Option StepId
step_named text =
    option_and_then (λ go. option_map (λ n. record { go = go; n = n }) (count_from (2 ^ 64) 0 (after_first (λ b. b == 35) text)))
    (go_named (before_first (λ b. b == 35) text))

-- the reading finds a name in exactly the one text of each name
abbrev pub Reads : {A : Type 0} → (List ℕ → Option A) → (A → List ℕ) → (A → Type 0) → Type 0
Reads {A} named text_of IsName =
    (text : List ℕ) (name : A) → (named text ≡ Some name) ↔ ((text ≡ text_of name) × IsName name)

-- goroutines are ordered by their lists of counts, a list before its continuations
abbrev pub go_cmp : List ℕ → List ℕ → Ordering
go_cmp = slice_cmp nat_cmp

-- channels by goroutine, then by count
abbrev pub ch_cmp : ChName → ChName → Ordering
ch_cmp a b = ordering_then (go_cmp a.go b.go) (nat_cmp a.n b.n)

-- steps by goroutine, then by ordinal
abbrev pub step_cmp : StepId → StepId → Ordering
step_cmp a b = ordering_then (go_cmp a.go b.go) (nat_cmp a.n b.n)

-- what ties is one
abbrev pub TiesAreEqual : {A : Type 0} → (A → A → Ordering) → Type 0
TiesAreEqual {A} cmp = (a b : A) → cmp a b ≡ Equal → a ≡ b
