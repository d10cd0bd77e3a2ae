-- What the words after the first one of a command name.
use Rattle.std.specs.Prelude.{ℕ, ◌+◌, Bool, false, ◌&&◌, not, if◌then◌else◌, List, [], ◌∷◌, codes, Option, Some, None, option_map, option_and_then}
use Rattle.std.specs.List.{list_all}
use Rattle.std.specs.Str.{bytes_eq}
use Rattle.gr_base.specs.Names.{count_from, step_named}
use Rattle.gr_base.specs.declared.names.StepId.{StepId}
use Rattle.gr_scan.specs.Marks.{is_keyword}
use Rattle.gr_scan.specs.Pieces.{is_letter, is_word}

-- the number from 1 to the largest that a word spells, in decimal and with no leading zero
abbrev pub number_named : ℕ → List ℕ → Option ℕ
number_named largest word = count_from (largest + 1) 0 word

-- the number from 0 to the largest that a word spells; 0 is spelt `0`
abbrev pub number_or_zero_named : ℕ → List ℕ → Option ℕ
number_or_zero_named largest word = if bytes_eq word (codes "0") then Some 0 else number_named largest word

-- a clause of a select, a line, or a send or receive among those on a channel, counted from 1
abbrev pub ordinal_named : List ℕ → Option ℕ
ordinal_named = number_named 4_294_967_295

-- letters, digits and `_`, with no digit first
abbrev pub is_name : List ℕ → Bool
is_name [] = false
is_name (b ∷ bs) = is_letter b && list_all is_word bs

-- an identifier of the language, and no keyword
abbrev pub is_identifier : List ℕ → Bool
is_identifier word = is_name word && not (is_keyword word)

-- the identifier that a word is
abbrev pub identifier_named : List ℕ → Option (List ℕ)
identifier_named word = if is_identifier word then Some word else None

-- the steps that words name, if each names one
abbrev pub steps_named : List (List ℕ) → Option (List StepId)
steps_named [] = Some []
steps_named (word ∷ words) = option_and_then (λ id. option_map (λ ids. id ∷ ids) (steps_named words)) (step_named word)

-- the word, if there is just one
abbrev pub only : List (List ℕ) → Option (List ℕ)
only [] = None
only (word ∷ []) = Some word
only (word ∷ next ∷ words) = None

-- what the word names, if there is just one
abbrev pub one_named : {A : Type 0} → (List ℕ → Option A) → List (List ℕ) → Option A
one_named named words = option_and_then named (only words)

-- what two words name, if there are just two
abbrev pub both_named : {A B : Type 0} → (List ℕ → Option A) → (List ℕ → Option B) → List (List ℕ) → Option (A × B)
both_named first second [] = None
both_named first second (word ∷ []) = None
both_named first second (word ∷ next ∷ []) = option_and_then (λ b. option_map (λ a. (a, b)) (first word)) (second next)
both_named first second (word ∷ next ∷ more ∷ words) = None
