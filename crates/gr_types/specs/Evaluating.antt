-- Parts of what an expression does as a statement. It is a stepping stone of the proofs: no public clause speaks of it.
use Rattle.std.specs.Prelude.{ℕ, List, Option, Some}
use Rattle.gr_tree.specs.Exprs.{Tree, Trees}
use Rattle.gr_program.specs.Programs.{Act, Eval, Print, Printed}
use Rattle.gr_typing.specs.Scopes.{Scope, Signature}
use Rattle.gr_typing.specs.Values.{Value}
use Rattle.gr_exprs.specs.Finding.{◌>>=◌, typed, as_channel, call_in, value_in, arguments_in, only_in}
use Rattle.gr_types.specs.FindingStatements.{receive_in, as_text, printable, printed_by, printed_in, closes, evaluated}

-- `close` and `println` of arguments
abbrev pub closing : List Signature → Scope → Trees → Option Act
closing fs s es = only_in fs s es >>= as_channel >>= closes

abbrev pub printed_value : Value → Option Printed
printed_value v = typed v >>= printable

abbrev pub printed_one : List Signature → Scope → Tree → Option Printed
printed_one fs s e = printed_by (as_text e) (value_in fs s e)

abbrev pub printing : List Signature → Scope → Trees → Option Act
printing fs s es = printed_in fs s es >>= λ ps. Some (Print ps)

-- a call of a function, and a receive, whose values are dropped
abbrev pub running : List Signature → Scope → List ℕ → Trees → Option Act
running fs s x es = call_in fs s x (arguments_in fs s es) >>= λ c. Some (Eval c.1)

abbrev pub receiving : List Signature → Scope → Tree → Option Act
receiving fs s e = receive_in fs s e >>= evaluated
