-- Terminating statements, and the breaks that leave a statement (Go: Terminating statements, Break statements).
use Rattle.std.specs.Prelude.{ℕ, Bool, true, false, not, ◌||◌, ◌&&◌, List, Option, Some, None}
use Rattle.gr_tree.specs.Statements.{Act, Return, Break, ForHead, Loop, Statement, Does, Block, If, IfElse, IfElseIf, For, Select, Label, EmptyLabel, Statements, end, then, Clauses, closed, default, case}
use Rattle.gr_typing.specs.Contexts.{has_label}

abbrev pub breaks_act : Option (List ℕ) → Bool → Act → Bool
breaks_act label near (Break None) = near
breaks_act label near (Break (Some x)) = has_label label x
breaks_act label near act = false

-- whether a `break` among these statements leaves the for or select around them that has this label; `near` says that no
-- other for or select lies between
abbrev mutual
  pub breaks_of : Option (List ℕ) → Bool → Statement → Bool
  breaks_of label near (Does place act) = breaks_act label near act
  breaks_of label near (Block place body) = breaks_in label near body
  breaks_of label near (If place head body) = breaks_in label near body
  breaks_of label near (IfElse place head body otherwise) = breaks_in label near body || breaks_in label near otherwise
  breaks_of label near (IfElseIf place head body otherwise) = breaks_in label near body || breaks_of label near otherwise
  breaks_of label near (For place head body) = breaks_in label false body
  breaks_of label near (Select place clauses) = breaks_among label false clauses
  breaks_of label near (Label place name statement) = breaks_of label near statement
  breaks_of label near (EmptyLabel place name) = false

  pub breaks_in : Option (List ℕ) → Bool → Statements → Bool
  breaks_in label near end = false
  breaks_in label near (then first others) = breaks_of label near first || breaks_in label near others

  pub breaks_among : Option (List ℕ) → Bool → Clauses → Bool
  breaks_among label near closed = false
  breaks_among label near (default body others) = breaks_in label near body || breaks_among label near others
  breaks_among label near (case communication body others) = breaks_in label near body || breaks_among label near others

abbrev pub returns : Act → Bool
returns (Return value) = true
returns act = false

-- a for with neither a condition nor a range
abbrev pub is_endless : ForHead → Bool
is_endless (Loop init None post) = true
is_endless head = false

-- whether a statement is terminating; `label` is directly before it
abbrev mutual
  pub terminates : Option (List ℕ) → Statement → Bool
  terminates label (Does place act) = returns act
  terminates label (Block place body) = ends body
  terminates label (If place head body) = false
  terminates label (IfElse place head body otherwise) = ends body && ends otherwise
  terminates label (IfElseIf place head body otherwise) = ends body && terminates None otherwise
  terminates label (For place head body) = is_endless head && not (breaks_in label true body)
  terminates label (Select place clauses) = all_end clauses && not (breaks_among label true clauses)
  terminates label (Label place name statement) = terminates (Some name) statement
  terminates label (EmptyLabel place name) = false

  -- the last statement is terminating
  pub ends : Statements → Bool
  ends end = false
  ends (then first end) = terminates None first
  ends (then first (then second others)) = ends (then second others)

  pub all_end : Clauses → Bool
  all_end closed = true
  all_end (default body others) = ends body && all_end others
  all_end (case communication body others) = ends body && all_end others
