-- The console, read off the texts of the goroutines by the records of the steps.
use Rattle.std.specs.Prelude.{◌≡◌, ℕ, if◌then◌else◌, List, [], ◌∷◌, ◌++◌, take, drop}
use Rattle.std.specs.Option.{option_map_or, unwrap_or}
use Rattle.indexmap.specs.IndexMap.{IndexMap, get}
use Rattle.gr_program.specs.Programs.{Program}
use Rattle.gr_rules.specs.States.{same_go, start}
use Rattle.gr_laws.specs.Reached.{Logged}
use Rattle.gr_refine.specs.Contents.{Contents}
use Rattle.gr_step.specs.Record.{Record}
use Rattle.gr_step.specs.Listings.{state_in}
use Rattle.gr_step.specs.Before.{is_printed}
use Rattle.gr_step.specs.Kept.{Kept}

-- the lines that each goroutine printed
abbrev pub texts_of : Contents → List ℕ → List (List ℕ)
texts_of s q = option_map_or (λ g. g.text) (s.goroutines q) []

-- how many lines of a goroutine were told
abbrev pub count_in : {S : Type 0} → IndexMap (List ℕ) ℕ S → List ℕ → ℕ
count_in counts q = unwrap_or (get same_go counts q) 0

-- the lines that are not told yet
abbrev pub untold : {S : Type 0} → IndexMap (List ℕ) ℕ S → (List ℕ → List (List ℕ)) → List ℕ → List (List ℕ)
untold counts texts q = drop (count_in counts q) (texts q)

-- the texts without the first line of this goroutine's
abbrev pub passed : List ℕ → (List ℕ → List (List ℕ)) → List ℕ → List (List ℕ)
passed go texts q = if same_go q go then drop 1 (texts q) else texts q

-- the line that the step of a record printed, from the lines of its and of later steps, and the lines of later steps
abbrev pub line_of : Record → (List ℕ → List (List ℕ)) → List (List ℕ)
line_of r texts = if is_printed r.change.own then take 1 (texts r.id.go) else []

abbrev pub lines_after : Record → (List ℕ → List (List ℕ)) → List ℕ → List (List ℕ)
lines_after r texts = if is_printed r.change.own then passed r.id.go texts else texts

-- the lines in the order of the records: each step that printed has the next line of its goroutine's text
abbrev pub lines_told : (List ℕ → List (List ℕ)) → List Record → List (List ℕ)
lines_told texts [] = []
lines_told texts (r ∷ rs) = line_of r texts ++ lines_told (lines_after r texts) rs

-- true of each log from the start of the program whose records these are
abbrev pub OfEachLog : (p : Program) → List Record → Contents → (List (Logged p) → Type 0) → Type 0
OfEachLog p records t P = (s : Contents) (log : List (Logged p)) → state_in p s ≡ start p → Kept p s records log t → P log
