-- What was read of a line, and what of a reply was written.
use Rattle.std.specs.Prelude.{◌≡◌, ℕ, ◌+◌, ◌≢◌, List, [], ◌∷◌, ◌++◌, take, Option, None, Some, OnSome}
use Rattle.std.specs.Io.KnownBytes.{Consumes, Appends, IsAtEnd}
use Rattle.gr_command.specs.declared.read.TheConstants.{LINE_LIMIT}
use Rattle.gr_lines.specs.declared.counted.LineEnd.{LineEnd}
use Rattle.gr_lines.specs.declared.counted.LineEnd.TheVariants.{Newline, End}

-- no byte is a newline
abbrev pub Plain : List ℕ → Type 0
Plain [] = Unit {0}
Plain (b ∷ bs) = (b ≢ 10) × Plain bs

-- these bytes came of a reader, none only at its end
abbrev pub Came : Option (List ℕ) → Option (List ℕ) → List ℕ → Type 0
Came had has bytes = Consumes had has bytes × (bytes ≡ [] → IsAtEnd has)

-- bytes of a line were read, and enough of them are kept to show whether there were too many
pub record Part (had has : Option (List ℕ)) (kept : List ℕ) : Type 0 where
  pub text : List ℕ
  pub plain : Plain text
  pub kept_is : kept ≡ take (LINE_LIMIT + 1) text
  pub taken : Consumes had has text

-- bytes of a line were read
pub record Taken (had has : Option (List ℕ)) : Type 0 where
  pub text : List ℕ
  pub plain : Plain text
  pub taken : Consumes had has text

-- a line was read up to its newline, or to the end of the bytes
abbrev pub LineRead : Option (List ℕ) → Option (List ℕ) → List ℕ → LineEnd → Type 0
LineRead had has kept Newline = (mid : Option (List ℕ)) × Part had mid kept × Consumes mid has (10 ∷ [])
LineRead had has kept End = Part had has kept × OnSome had (IsAtEnd has)

-- nothing, or a newline and what follows it
abbrev pub BeginsNewline : List ℕ → Type 0
BeginsNewline [] = Unit {0}
BeginsNewline (b ∷ bs) = b ≡ 10

-- bytes of a line, and the newline after them, if that ended it
abbrev pub with_end : List ℕ → Option LineEnd → List ℕ
with_end text None = text
with_end text (Some Newline) = text ++ 10 ∷ []
with_end text (Some End) = text

-- bytes of a line came at once, or its end; what is kept of it has grown by them
pub record Comes (had has : Option (List ℕ)) (old new : List ℕ) (end : Option LineEnd) : Type 0 where
  pub text : List ℕ
  pub plain : Plain text
  pub kept_is : new ≡ take (LINE_LIMIT + 1) (old ++ text)
  pub taken : Consumes had has (with_end text end)
  pub ends : end ≡ Some End → OnSome had (IsAtEnd has)

-- the first bytes of these were written
abbrev pub Begins : Option (List ℕ) → Option (List ℕ) → List ℕ → Type 0
Begins held holds bytes = (count : ℕ) × Appends held holds (take count bytes)
