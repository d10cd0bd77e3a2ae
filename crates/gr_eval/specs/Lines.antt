-- The lines that a program prints.
use Rattle.std.specs.Prelude.{ℕ, List}
use Rattle.gr_base.specs.declared.values.Value.{Value}
use Rattle.gr_rules.specs.Outcomes.{Outcome, gives, ◌>>=◌}
use Rattle.gr_rules.specs.Points.{Piece}
use Rattle.gr_rules.specs.Deeds.{texts, spaced}

-- what a `println` prints: its texts, with one space between them
abbrev pub line_of : List Piece → List Value → Outcome (List ℕ)
line_of pieces values = texts pieces values >>= λ ts. gives (spaced ts)
