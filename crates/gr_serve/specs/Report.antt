-- The line that tells a fault to a user, and the exit status.
use Rattle.std.specs.Prelude.{◌≡◌, ℕ, List, [], ◌++◌, codes, decimal, Option, Some, None}
use Rattle.gr_scan.specs.declared.position.Position.{Position}
use Rattle.gr_scan.specs.declared.scan.ScanError.{ScanError}
use Rattle.gr_scan.specs.declared.scan.ScanError.TheVariants as scanning
use Rattle.gr_syntax.specs.declared.parse.ParseError.{ParseError}
use Rattle.gr_syntax.specs.declared.parse.ParseError.TheVariants as parsing
use Rattle.gr_exprs.specs.declared.refusal.RefusalCode.{RefusalCode}
use Rattle.gr_exprs.specs.declared.refusal.RefusalCode.TheVariants as rules
use Rattle.gr_types.specs.declared.refusal.CheckError.{CheckError}
use Rattle.gr_types.specs.declared.refusal.CheckError.TheVariants as checking
use Rattle.gr_session.specs.declared.open.OpenError.{OpenError}
use Rattle.gr_session.specs.declared.open.OpenError.TheVariants as opening
use Rattle.gr_serve.specs.declared.stream.ServeFault.{ServeFault}
use Rattle.gr_serve.specs.declared.stream.ServeFault.TheVariants.{Read, Write, Memory}
use Rattle.gr_serve.specs.declared.debug.DebugFault.{DebugFault}
use Rattle.gr_serve.specs.declared.debug.DebugFault.TheVariants.{Source, Open, Serve, Threads}

-- codes of texts that have no tokens
abbrev pub scan_code : ScanError → List ℕ
scan_code (scanning.Strange at) = codes "S1"
scan_code (scanning.Malformed at) = codes "S2"
scan_code (scanning.TooGreat at) = codes "S3"
scan_code (scanning.MalformedText at) = codes "S4"
scan_code (scanning.Unclosed at) = codes "S5"
scan_code (scanning.LeftOut at) = codes "S6"
scan_code scanning.TooLong = codes "S7"
scan_code scanning.Memory = codes "S8"

-- codes of tokens that are no file
abbrev pub parse_code : ParseError → List ℕ
parse_code (parsing.NoFile token) = codes "P1"
parse_code (parsing.LeftOut token) = codes "P2"
parse_code (parsing.TooHigh token) = codes "P3"
parse_code parsing.Memory = codes "P4"

-- codes of the rules that a program keeps
abbrev pub rule_code : RefusalCode → List ℕ
rule_code rules.UnknownName = codes "C1"
rule_code rules.DeclaredTwice = codes "C2"
rule_code rules.WrongForm = codes "C3"
rule_code rules.WrongCount = codes "C4"
rule_code rules.WrongDirection = codes "C5"
rule_code rules.MissingReturn = codes "C6"
rule_code rules.Constant = codes "C7"
rule_code rules.WrongLabel = codes "C8"
rule_code rules.NoMain = codes "C9"
rule_code rules.NoNewVariable = codes "C10"

abbrev pub check_code : CheckError → List ℕ
check_code (checking.Refused code at) = rule_code code
check_code checking.Memory = codes "C11"

-- a place in the source: line and column, both from 1
abbrev pub place_text : Option Position → List ℕ
place_text None = []
place_text (Some at) = codes " at " ++ (decimal at.line ++ (codes ":" ++ decimal at.column))

-- why a source is not opened
abbrev pub open_text : OpenError → List ℕ
open_text (opening.Scan error at) = scan_code error ++ place_text at
open_text (opening.Parse error at) = parse_code error ++ place_text at
open_text (opening.Check error at) = check_code error ++ place_text at
open_text opening.Memory = codes "memory"

abbrev pub serve_text : ServeFault → List ℕ
serve_text Read = codes "read"
serve_text Write = codes "write"
serve_text Memory = codes "memory"

abbrev pub fault_text : List ℕ → DebugFault → List ℕ
fault_text file Source = codes "cannot read " ++ file
fault_text file (Open error) = open_text error
fault_text file (Serve fault) = serve_text fault
fault_text file Threads = codes "threads"

-- the code of a source that is refused
abbrev pub code_of_open : OpenError → Option (List ℕ)
code_of_open (opening.Scan error at) = Some (scan_code error)
code_of_open (opening.Parse error at) = Some (parse_code error)
code_of_open (opening.Check error at) = Some (check_code error)
code_of_open opening.Memory = None

abbrev pub code_of : DebugFault → Option (List ℕ)
code_of Source = None
code_of (Open error) = code_of_open error
code_of (Serve fault) = None
code_of Threads = None

-- the line for a fault of a session on this file
abbrev pub fault_line : List ℕ → DebugFault → List ℕ
fault_line file fault = codes "rewind: " ++ (fault_text file fault ++ codes "\n")

-- 1 where the source is not readable or refused; 3 where reading, writing or threads failed, or memory
abbrev pub status_of : DebugFault → ℕ
status_of Source = 1
status_of (Open (opening.Scan error at)) = 1
status_of (Open (opening.Parse error at)) = 1
status_of (Open (opening.Check error at)) = 1
status_of (Open opening.Memory) = 3
status_of (Serve fault) = 3
status_of Threads = 3

-- a text got longer at its end, if at all
abbrev pub Grows : List ℕ → List ℕ → Type 0
Grows old new = (rest : List ℕ) × (new ≡ old ++ rest)
