-- Parts of what the checker finds of simple statements. It is a stepping stone of the proofs: no public clause speaks of it.
use Rattle.std.specs.Prelude.{ℕ, List, Option}
use Rattle.gr_tree.specs.Exprs.{WrittenType, Trees}
use Rattle.gr_program.specs.Types.{Ty}
use Rattle.gr_typing.specs.Types.{type_written}
use Rattle.gr_typing.specs.Scopes.{Scope, Signature}
use Rattle.gr_typing.specs.Values.{Value}
use Rattle.gr_typing.specs.Assignments.{may_define, may_declare}
use Rattle.gr_exprs.specs.Finding.{◌>>=◌, where_true, Typed, as_channel}
use Rattle.gr_types.specs.FindingStatements.{Done, receives, all_take_new, pair_of, define_by, var_zero, written_of, var_by}

-- a value as a channel that values are received from
abbrev pub received_from : Value → Option Typed
received_from v = as_channel v >>= receives

-- what takes values of these types that names are defined by
abbrev pub defined_takers : Scope → List (List ℕ) → List Ty → Option (List (Option ℕ) × Scope)
defined_takers s xs ts = where_true (may_define s xs) xs >>= λ xs. all_take_new s xs ts s

abbrev pub definition : List Signature → Scope → List (List ℕ) → Trees → Option Done
definition fs s xs es = where_true (may_define s xs) xs >>= λ xs. define_by fs s xs es (pair_of xs es)

abbrev pub declaration : Scope → List (List ℕ) → WrittenType → Option Done
declaration s xs w = where_true (may_declare s xs) xs >>= λ xs. type_written w >>= var_zero s xs

abbrev pub declaration_by : List Signature → Scope → List (List ℕ) → Option WrittenType → Trees → Option Done
declaration_by fs s xs w es = where_true (may_declare s xs) xs >>= λ xs. written_of w >>= λ t. var_by fs s xs t es (pair_of xs es)
