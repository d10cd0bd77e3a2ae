-- What is around a statement (Go: Break statements, Continue statements, Labeled statements).
use Rattle.std.specs.Cmp.Lexicographic.{pointwise}
use Rattle.std.specs.Prelude.{ℕ, Bool, true, false, List, ◌∷◌, Option, Some, None, nat_eq}
use Rattle.gr_program.specs.Types.{Ty}
use Rattle.gr_typing.specs.Scopes.{Signature}

-- a for or a select statement around a place, with the label directly before it, if it has one
pub data Around : Type 0 where
  Loop : (label : Option (List ℕ)) → Around
  Choice : (label : Option (List ℕ)) → Around

-- what is around a statement: the functions of the program, the result of its function, and the for and select statements
-- around it, the innermost first
pub data Context : Type 0 where
  Within : (functions : List Signature) (result : Option Ty) (around : List Around) → Context

abbrev pub functions : Context → List Signature
functions (Within fs result around) = fs

abbrev pub inside : Around → Context → Context
inside a (Within fs result around) = Within fs result (a ∷ around)

abbrev pub has_label : Option (List ℕ) → List ℕ → Bool
has_label None x = false
has_label (Some y) x = pointwise nat_eq y x

-- which of them a `break` leaves, and a `continue` begins anew: the innermost, or that with the label
abbrev pub is_left : Option (List ℕ) → Around → Bool
is_left None a = true
is_left (Some x) (Loop label) = has_label label x
is_left (Some x) (Choice label) = has_label label x

abbrev pub is_continued : Option (List ℕ) → Around → Bool
is_continued x (Choice label) = false
is_continued None (Loop label) = true
is_continued (Some x) (Loop label) = has_label label x
