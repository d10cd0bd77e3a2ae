-- The entries of a journal as its askers know them.
use Rattle.std.specs.Prelude.{ℕ, Option, None}
use Rattle.gr_share.specs.declared.desk.Call.{Call}

-- an entry: its asker and number, and the call of which it came, unless it is older than the sharing
pub record Line : Type 0 where
  pub asker : ℕ
  pub number : ℕ
  pub call : Option Call

abbrev pub no_line : Line
no_line = record { asker = 0; number = 0; call = None }
