-- Labels (Go: Labeled statements, Break statements, Continue statements).
use Rattle.std.specs.List.{list_all}
use Rattle.std.specs.Prelude.{ℕ, Bool, not, ◌&&◌, List, [], ◌∷◌, ◌++◌, Option, Some, None}
use Rattle.gr_tree.specs.Statements.{Act, Break, Continue, Statement, Does, Block, If, IfElse, IfElseIf, For, Select, Label, EmptyLabel, Statements, end, then, Clauses, closed, default, case}
use Rattle.gr_typing.specs.Names.{among, is_blank, are_distinct}

-- the labels that a function's statements declare, in source order
abbrev mutual
  pub labels_of : Statement → List (List ℕ)
  labels_of (Does place act) = []
  labels_of (Block place body) = labels_in body
  labels_of (If place head body) = labels_in body
  labels_of (IfElse place head body otherwise) = labels_in body ++ labels_in otherwise
  labels_of (IfElseIf place head body otherwise) = labels_in body ++ labels_of otherwise
  labels_of (For place head body) = labels_in body
  labels_of (Select place clauses) = labels_among clauses
  labels_of (Label place name statement) = name ∷ labels_of statement
  labels_of (EmptyLabel place name) = name ∷ []

  pub labels_in : Statements → List (List ℕ)
  labels_in end = []
  labels_in (then first others) = labels_of first ++ labels_in others

  pub labels_among : Clauses → List (List ℕ)
  labels_among closed = []
  labels_among (default body others) = labels_in body ++ labels_among others
  labels_among (case communication body others) = labels_in body ++ labels_among others

abbrev pub named : Option (List ℕ) → List (List ℕ)
named None = []
named (Some x) = x ∷ []

abbrev pub uses_act : Act → List (List ℕ)
uses_act (Break label) = named label
uses_act (Continue label) = named label
uses_act act = []

-- the labels that `break` and `continue` name
abbrev mutual
  pub uses_of : Statement → List (List ℕ)
  uses_of (Does place act) = uses_act act
  uses_of (Block place body) = uses_in body
  uses_of (If place head body) = uses_in body
  uses_of (IfElse place head body otherwise) = uses_in body ++ uses_in otherwise
  uses_of (IfElseIf place head body otherwise) = uses_in body ++ uses_of otherwise
  uses_of (For place head body) = uses_in body
  uses_of (Select place clauses) = uses_among clauses
  uses_of (Label place name statement) = uses_of statement
  uses_of (EmptyLabel place name) = []

  pub uses_in : Statements → List (List ℕ)
  uses_in end = []
  uses_in (then first others) = uses_of first ++ uses_in others

  pub uses_among : Clauses → List (List ℕ)
  uses_among closed = []
  uses_among (default body others) = uses_in body ++ uses_among others
  uses_among (case communication body others) = uses_in body ++ uses_among others

-- each label of a function is declared once, is not blank, and is used
abbrev pub labels_fit : Statements → Bool
labels_fit body =
    are_distinct [] (labels_in body) && list_all (λ x. not (is_blank x) && among (uses_in body) x) (labels_in body)
