-- What a line of a client asks: a query about kept steps, or what the line says as a command.
use Rattle.std.specs.Prelude.{◌⊎◌, ℕ, IsTrue, nat_lt, if◌then◌else◌, List, [], ◌∷◌, length, codes, Option, Some, None, option_and_then, option_map}
use Rattle.std.specs.Io.BufRead.{strip_last}
use Rattle.std.specs.List.{list_any}
use Rattle.std.specs.Str.{bytes_eq}
use Rattle.gr_base.specs.Names.{ch_named, go_named, step_named}
use Rattle.gr_command.specs.Arguments.{number_or_zero_named, ordinal_named, both_named, one_named}
use Rattle.gr_command.specs.Commands.{HasNamed, MayName, by_table, says}
use Rattle.gr_command.specs.declared.command.Line.TheVariants.{Rejected}
use Rattle.gr_command.specs.declared.request.Query.{Query}
use Rattle.gr_command.specs.declared.request.Query.TheVariants.{Step, Places, At}
use Rattle.gr_command.specs.declared.request.Request.{Request}
use Rattle.gr_command.specs.declared.request.Request.TheVariants.{Ask, Say}
use Rattle.gr_command.specs.declared.request.View.{View}
use Rattle.gr_command.specs.declared.request.View.TheVariants.{Goroutine, Channel, Text, Console}
use Rattle.gr_command.specs.Words.{words_of}

-- what a step was, or the steps at places of the log
abbrev pub about_asked : List (List ℕ) → Option Query
about_asked [] = None
about_asked (word ∷ []) = option_map Step (step_named word)
about_asked (word ∷ next ∷ words) = option_map (λ places. Places places.0 places.1) (both_named ordinal_named ordinal_named (word ∷ next ∷ words))

-- how many steps, from 0 to 4,294,967,295
abbrev pub count_named : List ℕ → Option ℕ
count_named = number_or_zero_named 4_294_967_295

-- all lines that were printed, where no word follows
abbrev pub console_asked : List (List ℕ) → Option View
console_asked [] = Some Console
console_asked (word ∷ words) = None

-- what is shown of a state, by the first word, and what it is with the words after that
abbrev pub views : List (List ℕ × (List (List ℕ) → Option View))
views =
    (codes "show", λ words. option_map Goroutine (one_named go_named words))
    ∷ (codes "chan", λ words. option_map Channel (one_named ch_named words))
    ∷ (codes "text", λ words. option_map Text (one_named go_named words))
    ∷ (codes "console", console_asked)
    ∷ []

-- what is shown of the state after so many steps
abbrev pub at_asked : List (List ℕ) → Option Query
at_asked [] = None
at_asked (count ∷ []) = None
at_asked (count ∷ word ∷ words) = option_and_then (λ steps. option_map (At steps) (by_table views word words)) (count_named count)

-- each query by its first word, and what it is with the words after that
abbrev pub queries : List (List ℕ × (List (List ℕ) → Option Query))
queries = (codes "about", about_asked) ∷ (codes "at", at_asked) ∷ []

-- a query, or what the words say as a command
abbrev pub asks : List (List ℕ) → Request
asks [] = Say (says [])
asks (word ∷ words) = elim (by_table queries word words) [ Some query ↦ Ask query | None ↦ Say (says (word ∷ words)) ]

-- what a line asks: it has at most 1,048,576 bytes, and a carriage return at its end is dropped
abbrev pub request_meant : List ℕ → Request
request_meant line = if nat_lt 1_048_576 (length line) then Say Rejected else asks (words_of (strip_last 13 line))

-- words that begin as a query or as a command with a name, one of which names something
abbrev pub MayAskOf : List (List ℕ) → Type 0
MayAskOf [] = ⊥
MayAskOf (word ∷ words) = (IsTrue (list_any (bytes_eq word) (codes "about" ∷ codes "at" ∷ [])) × HasNamed words) ⊎ MayName (word ∷ words)
