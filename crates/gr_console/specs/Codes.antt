-- The codes of which the program tells. Made by words/make.py from the texts beside it: change those.
use Rattle.std.specs.Prelude.{ℕ, List, [], ◌∷◌, codes}

-- Codes of refused sources
unfoldable pub sources : List (List ℕ)
sources =
    codes "S1" ∷
    codes "S2" ∷
    codes "S3" ∷
    codes "S4" ∷
    codes "S5" ∷
    codes "S6" ∷
    codes "S7" ∷
    codes "S8" ∷
    codes "P1" ∷
    codes "P2" ∷
    codes "P3" ∷
    codes "P4" ∷
    codes "C1" ∷
    codes "C2" ∷
    codes "C3" ∷
    codes "C4" ∷
    codes "C5" ∷
    codes "C6" ∷
    codes "C7" ∷
    codes "C8" ∷
    codes "C9" ∷
    codes "C10" ∷
    codes "C11" ∷ []

-- Codes of refused commands
unfoldable pub replies : List (List ℕ)
replies =
    codes "N1" ∷
    codes "N2" ∷
    codes "N3" ∷
    codes "N4" ∷
    codes "N5" ∷
    codes "N6" ∷
    codes "B1" ∷
    codes "B2" ∷
    codes "B3" ∷
    codes "B4" ∷
    codes "B5" ∷
    codes "B6" ∷
    codes "Q1" ∷
    codes "Q2" ∷ []

-- Codes that only callers of the library get
unfoldable pub callers : List (List ℕ)
callers =
    codes "E1" ∷
    codes "E2" ∷ []

-- Kinds of steps
unfoldable pub kinds : List (List ℕ)
kinds =
    codes "pure" ∷
    codes "call" ∷
    codes "return" ∷
    codes "exit" ∷
    codes "go" ∷
    codes "make" ∷
    codes "length" ∷
    codes "hand" ∷
    codes "meet" ∷
    codes "buffer" ∷
    codes "take" ∷
    codes "closed" ∷
    codes "send-wait" ∷
    codes "recv-wait" ∷
    codes "pick" ∷
    codes "default" ∷
    codes "select-wait" ∷
    codes "close" ∷
    codes "fault" ∷ []

-- Ends of a run
unfoldable pub ends : List (List ℕ)
ends =
    codes "ended" ∷
    codes "count" ∷
    codes "stuck" ∷
    codes "full" ∷
    codes "break" ∷ []

-- Faults of a program
unfoldable pub faults : List (List ℕ)
faults =
    codes "DivideByZero" ∷
    codes "NegativeShift" ∷
    codes "SendOnClosed" ∷
    codes "CloseOfClosed" ∷
    codes "CloseOfNil" ∷
    codes "BadSize" ∷
    codes "CallDepth" ∷
    codes "NameDepth" ∷
    codes "NameCount" ∷ []

-- Failures of the program itself
unfoldable pub failures : List (List ℕ)
failures =
    codes "read" ∷
    codes "write" ∷
    codes "threads" ∷
    codes "memory" ∷ []
