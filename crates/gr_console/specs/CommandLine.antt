-- The command line of the program, as `clap` reads command lines.
use Rattle.std.specs.Prelude.{ℕ, ◌≤◌, Bool, List, Option, None, Some, true, false, codes, nat_eq, option_map, option_and_then, if◌then◌else◌}
use Rattle.std.specs.Cmp.Lexicographic.{pointwise}
use Rattle.std.specs.Str.Parse.{digits_value, without_leading_plus}
use Rattle.clap.specs.ValueTests.{accepts}
use Rattle.clap.specs.Words.{App, Rule, Text, first_of, matches_of, new_app, new_rule, with_rule}
use Rattle.clap.specs.Simple.{on_top}
use Rattle.clap.specs.declared.builder.action.ArgAction.TheVariants.{Set, SetTrue}
use Rattle.clap.specs.declared.builder.value_parser.ValueParser.TheVariants as parses
use Rattle.gr_console.specs.declared.settings.TheConstants.{WORKER_LIMIT, STATE_LIMIT, USUAL_STATES}
use Rattle.gr_console.specs.declared.settings.Settings.{Settings}
use Rattle.gr_console.specs.declared.settings.Settings.TheVariants as settings
use Rattle.gr_console.specs.declared.command_line.Way.{Way}
use Rattle.gr_console.specs.declared.command_line.Way.TheVariants as ways

-- FILE
abbrev pub file_rule : Rule
file_rule = record (new_rule (codes "FILE")) { action = Some Set }

-- an option with a value
abbrev pub option_rule : Text → Rule
option_rule name = record (new_rule name) { action = Some Set; long = Some name; value_names = 1 }

-- an option without a value
abbrev pub flag_rule : Text → Rule
flag_rule name = record (new_rule name) { action = Some SetTrue; long = Some name }

-- an option with a number from the least to the greatest
abbrev pub number_rule : Text → ℕ → ℕ → Rule
number_rule name least most = record (option_rule name) { parser = Some (parses.Unsigned least most) }

-- `--workers N`, from 0 to 64
abbrev pub workers_rule : Rule
workers_rule = number_rule (codes "workers") 0 WORKER_LIMIT

-- `--states N`, from 1 to 1,000,000,000
abbrev pub states_rule : Rule
states_rule = number_rule (codes "states") 1 STATE_LIMIT

-- `rewind` alone; `--help` and `--version` come from `clap`
abbrev pub bare_line : App
bare_line = on_top (λ top. record top { has_version = true }) (new_app (codes "rewind"))

-- `rewind`, with FILE and the options that name the file of a session
abbrev pub session_line : App
session_line = with_rule (with_rule (with_rule bare_line file_rule) (option_rule (codes "check"))) (option_rule (codes "json"))

-- `rewind`, with FILE and the options that name a file
abbrev pub file_line : App
file_line = with_rule (with_rule session_line (option_rule (codes "search"))) (option_rule (codes "blame"))

-- with the options of a search, too
abbrev pub search_line : App
search_line = with_rule (with_rule (with_rule file_line (option_rule (codes "after"))) states_rule) (flag_rule (codes "leaks"))

-- `rewind`, with all its options
abbrev pub rewind_line : App
rewind_line = with_rule (with_rule search_line (option_rule (codes "explain"))) workers_rule

-- what a command line may ask of the program
pub data Asked : Type 0 where
  Debugs : (file : Text) (workers : ℕ) → Asked
  Checks : (file : Text) → Asked
  Tells : (file : Text) → Asked
  Explains : (code : Text) → Asked
  Searches : (file : Text) (after : Option Text) (leaks : Bool) (states : ℕ) → Asked
  Blames : (file after : Text) (states : ℕ) → Asked

abbrev pub asked_of : Settings → Asked
asked_of (settings.Debug file workers) = Debugs file.now workers
asked_of (settings.Check file) = Checks file.now
asked_of (settings.Tell file) = Tells file.now
asked_of (settings.Explain code) = Explains code.now
asked_of (settings.Search file after leaks states) = Searches file.now (option_map (λ text. text.now) after) leaks states
asked_of (settings.Blame file after states) = Blames file.now after.now states

-- a session has at most 64 workers
abbrev pub HasFewWorkers : Settings → Type 0
HasFewWorkers (settings.Debug file workers) = workers ≤ WORKER_LIMIT
HasFewWorkers (settings.Check file) = Unit {0}
HasFewWorkers (settings.Tell file) = Unit {0}
HasFewWorkers (settings.Explain code) = Unit {0}
HasFewWorkers (settings.Search file after leaks states) = Unit {0}
HasFewWorkers (settings.Blame file after states) = Unit {0}

-- the number that a text gives, from the least to the greatest that is asked for
abbrev pub number_in : ℕ → ℕ → Text → Option ℕ
number_in least most text =
    if accepts false (parses.Unsigned least most) text then Some (digits_value 10 (without_leading_plus text)) else None

-- a session over this file, without workers or with as many as a text gives
abbrev pub debugs : Text → Option Text → Option Asked
debugs file None = Some (Debugs file 0)
debugs file (Some text) = option_map (λ count. Debugs file count) (number_in 0 WORKER_LIMIT text)

-- how many states may be kept: as many as a text gives, or 1,000,000
abbrev pub states_in : Option Text → Option ℕ
states_in None = Some USUAL_STATES
states_in (Some text) = number_in 1 STATE_LIMIT text

abbrev pub searches : Text → Option Text → Bool → Option Text → Option Asked
searches file after leaks states = option_map (λ n. Searches file after leaks n) (states_in states)

-- whether an option without a value is given: `clap` gives it the value `true` then
abbrev pub is_given : Option Text → Bool
is_given None = false
is_given (Some text) = pointwise nat_eq text (codes "true")

abbrev pub blames : Text → Text → Option Text → Option Asked
blames file after states = option_map (λ n. Blames file after n) (states_in states)

-- in which way something is asked, with the file or the code that is named
pub data AskedWay : Type 0 where
  OfSession : (file : Text) → AskedWay
  OfCheck : (file : Text) → AskedWay
  OfTelling : (file : Text) → AskedWay
  OfCode : (code : Text) → AskedWay
  OfSearch : (file : Text) → AskedWay
  OfBlame : (file : Text) → AskedWay

abbrev pub way_of : Way → AskedWay
way_of (ways.Session file) = OfSession file.now
way_of (ways.Check file) = OfCheck file.now
way_of (ways.Tell file) = OfTelling file.now
way_of (ways.Explain code) = OfCode code.now
way_of (ways.Search file) = OfSearch file.now
way_of (ways.Blame file) = OfBlame file.now

-- the one way in which something is asked, by FILE, `--check`, `--json`, `--explain`, `--search` and `--blame`: just one of them
-- is given
abbrev pub the_way : Option Text → Option Text → Option Text → Option Text → Option Text → Option Text → Option AskedWay
the_way (Some file) None None None None None = Some (OfSession file)
the_way None (Some file) None None None None = Some (OfCheck file)
the_way None None (Some file) None None None = Some (OfTelling file)
the_way None None None (Some code) None None = Some (OfCode code)
the_way None None None None (Some file) None = Some (OfSearch file)
the_way None None None None None (Some file) = Some (OfBlame file)
the_way file check json explain search blame = None

-- What is asked in such a way with the values of `--workers`, `--after` and `--states`, and with `--leaks` or without it. A session
-- takes the first of them, a search the others, and a blame `--states` and the script, which it needs. No other is taken.
abbrev pub asked_with : AskedWay → Option Text → Option Text → Option Text → Bool → Option Asked
asked_with (OfSession file) workers None None false = debugs file workers
asked_with (OfCheck file) None None None false = Some (Checks file)
asked_with (OfTelling file) None None None false = Some (Tells file)
asked_with (OfCode code) None None None false = Some (Explains code)
asked_with (OfSearch file) None after states leaks = searches file after leaks states
asked_with (OfBlame file) None (Some after) states false = blames file after states
asked_with way workers after states leaks = None

-- what is asked by the first values of the options
abbrev pub asked_by : (Text → Option Text) → Option Asked
asked_by value =
    option_and_then (λ way. asked_with way (value (codes "workers")) (value (codes "after")) (value (codes "states")) (is_given (value (codes "leaks"))))
    (the_way (value (codes "FILE")) (value (codes "check")) (value (codes "json")) (value (codes "explain")) (value (codes "search")) (value (codes "blame")))

-- what the words of a command line ask for; the first of them is the program's own name
abbrev pub asked_in : List Text → Option Asked
asked_in words = asked_by (λ name. first_of name (matches_of rewind_line words))
