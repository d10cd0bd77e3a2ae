-- What a line of words says.
use Rattle.std.specs.Prelude.{ℕ, Bool, ◌||◌, is_some, IsTrue, nat_lt, if◌then◌else◌, List, [], ◌∷◌, length, codes, Option, Some, None, option_map, option_and_then, unwrap_or}
use Rattle.std.specs.Io.BufRead.{strip_last}
use Rattle.std.specs.List.{list_any}
use Rattle.std.specs.Str.{bytes_eq}
use Rattle.gr_base.specs.Names.{go_named, ch_named, step_named}
use Rattle.gr_command.specs.Arguments.{number_named, number_or_zero_named, ordinal_named, identifier_named, steps_named, one_named, both_named}
use Rattle.gr_command.specs.declared.command.Command.{Command as Asked}
use Rattle.gr_command.specs.declared.command.Command.TheVariants.{Step, Run, Undo, Back, Redo, Order, Dependents, Causes, Break, Clear, Free, Turn, Show, Chan, Text, Console, Log}
use Rattle.gr_command.specs.declared.command.Line.{Line}
use Rattle.gr_command.specs.declared.command.Line.TheVariants.{Command, Quit, Blank, Rejected}
use Rattle.gr_command.specs.declared.target.Target.{Target}
use Rattle.gr_command.specs.declared.target.Target.TheVariants as targets
use Rattle.gr_command.specs.Words.{words_of}

-- a command of one word
abbrev pub alone : Line → List (List ℕ) → Option Line
alone line [] = Some line
alone line (word ∷ words) = None

-- a command of one word more, which has to name what is asked about
abbrev pub about : {A : Type 0} → (List ℕ → Option A) → (A → Asked) → List (List ℕ) → Option Line
about named command words = option_map (λ a. Command (command a)) (one_named named words)

-- a step of a goroutine, and which clause it takes, if a word says that
abbrev pub step_asked : List (List ℕ) → Option Line
step_asked [] = None
step_asked (go ∷ []) = option_map (λ g. Command (Step g None)) (go_named go)
step_asked (go ∷ clause ∷ []) = option_and_then (λ i. option_map (λ g. Command (Step g (Some i))) (go_named go)) (ordinal_named clause)
step_asked (go ∷ clause ∷ next ∷ words) = None

-- what a word and those after it say by such a table, if they say anything
abbrev pub by_table : {A : Type 0} → List (List ℕ × (List (List ℕ) → Option A)) → List ℕ → List (List ℕ) → Option A
by_table [] word words = None
by_table (entry ∷ table) word words = if bytes_eq word entry.0 then entry.1 words else by_table table word words

-- the ways, other than its name, to say which step is to be taken back: by the first word, what it is with the words after
-- that
abbrev pub targets_asked : List (List ℕ × (List (List ℕ) → Option Target))
targets_asked =
    (codes "go", λ words. option_map targets.Start (one_named go_named words))
    ∷ (codes "send", λ words. option_map (λ c. targets.Send c.1 c.0) (both_named ch_named ordinal_named words))
    ∷ (codes "recv", λ words. option_map (λ c. targets.Receive c.1 c.0) (both_named ch_named ordinal_named words))
    ∷ (codes "var", λ words. option_map (λ v. targets.Variable v.0 v.1) (both_named go_named identifier_named words))
    ∷ []

-- which step is to be taken back
abbrev pub target_asked : List (List ℕ) → Option Target
target_asked [] = None
target_asked (word ∷ []) = option_map targets.Step (step_named word)
target_asked (word ∷ next ∷ words) = by_table targets_asked word (next ∷ words)

-- to take a step back
abbrev pub back_asked : List (List ℕ) → Option Line
back_asked words = option_map (λ target. Command (Back target)) (target_asked words)

-- to put steps in an order, one of them at least
abbrev pub order_asked : List (List ℕ) → Option Line
order_asked [] = None
order_asked (word ∷ words) = option_map (λ ids. Command (Order ids)) (steps_named (word ∷ words))

-- each question by its first word, and what it is with the words after that
abbrev pub questions : List (List ℕ × (List (List ℕ) → Option Line))
questions =
    (codes "deps", about step_named Dependents)
    ∷ (codes "causes", about step_named Causes)
    ∷ (codes "show", about go_named Show)
    ∷ (codes "chan", about ch_named Chan)
    ∷ (codes "text", about go_named Text)
    ∷ (codes "console", alone (Command Console))
    ∷ (codes "log", alone (Command Log))
    ∷ []

-- each command by its first word, and what it is with the words after that
abbrev pub commands : List (List ℕ × (List (List ℕ) → Option Line))
commands =
    (codes "step", step_asked)
    ∷ (codes "run", about (number_named 1_000_000) Run)
    ∷ (codes "undo", alone (Command Undo))
    ∷ (codes "back", back_asked)
    ∷ (codes "redo", alone (Command Redo))
    ∷ (codes "order", order_asked)
    ∷ (codes "break", about ordinal_named Break)
    ∷ (codes "clear", about ordinal_named Clear)
    ∷ (codes "free", about (number_or_zero_named 1_000_000) Free)
    ∷ (codes "quit", alone Quit)
    ∷ questions

-- what words say
abbrev pub says : List (List ℕ) → Line
says [] = Blank
says (word ∷ words) = unwrap_or (by_table commands word words) Rejected

-- what a line says: it has at most 1,048,576 bytes, and a carriage return at its end is dropped
abbrev pub meaning : List ℕ → Line
meaning line = if nat_lt 1_048_576 (length line) then Rejected else says (words_of (strip_last 13 line))

-- the command names a goroutine, a channel or a step
abbrev pub Names : Asked → Type 0
Names (Step go case) = Unit {0}
Names (Run count) = ⊥
Names Undo = ⊥
Names (Back target) = Unit {0}
Names Redo = ⊥
Names (Order ids) = Unit {0}
Names (Dependents id) = Unit {0}
Names (Causes id) = Unit {0}
Names (Break line) = ⊥
Names (Clear line) = ⊥
Names (Free steps) = ⊥
Names Turn = ⊥
Names (Show go) = Unit {0}
Names (Chan channel) = Unit {0}
Names (Text go) = Unit {0}
Names Console = ⊥
Names Log = ⊥

-- the first words of commands with names
abbrev pub naming : List (List ℕ)
naming =
    codes "step" ∷ codes "back" ∷ codes "order" ∷ codes "deps" ∷ codes "causes" ∷ codes "show" ∷ codes "chan" ∷ codes "text" ∷ []

-- a word that names a goroutine, a channel or a step
abbrev pub is_named : List ℕ → Bool
is_named word = is_some (go_named word) || (is_some (ch_named word) || is_some (step_named word))

-- one of the words names something
abbrev pub HasNamed : List (List ℕ) → Type 0
HasNamed words = IsTrue (list_any is_named words)

-- words that begin as a command with a name, one of which names something
abbrev pub MayName : List (List ℕ) → Type 0
MayName [] = ⊥
MayName (word ∷ words) = IsTrue (list_any (bytes_eq word) naming) × HasNamed words
