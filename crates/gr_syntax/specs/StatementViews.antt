-- What the values of the parser's functions on statements mean. No public clause speaks of it.
use Rattle.std.specs.Prelude.{◌≡◌, ℕ, Bool, if◌then◌else◌, List, Vec, Option, Some, None}
use Rattle.std.specs.Borrow.{Bor}
use Rattle.std.proofs.Common.{Global}
use Rattle.gr_scan.specs.declared.token.Token.{Token}
use Rattle.gr_scan.specs.Tokens.{Tok, tokens_of}
use Rattle.gr_scan.specs.declared.token.Place.{Place}
use Rattle.gr_tree.specs.declared.stmt.Stmt.{Stmt}
use Rattle.gr_tree.specs.Statements.{Target, Old, New, Statements, statements_of}

-- a name and the tokens after it, if one is there
abbrev pub SeesName : Option (Bor (List ℕ) × Bor (List Token)) → Option (List ℕ × List Tok) → Type 0
SeesName (Some p) o = o ≡ Some (p.0.now, tokens_of p.1.now)
SeesName None o = o ≡ None

-- whether a range's name is a new one and the tokens after its `range`, if they are there
abbrev pub SeesRange : List ℕ → Option (Bool × Bor (List Token)) → Option (Target × List Tok) → Type 0
SeesRange x (Some p) o = o ≡ Some (if p.0 then New x else Old x, tokens_of p.1.now)
SeesRange x None o = o ≡ None

-- a block's statements, and where it closes
abbrev pub closed_of : Vec Stmt Global × Place → Statements × Place
closed_of b = (statements_of b.0.items, b.1)
