-- The sizes that the code of statements is written with, in the order in which they are asked for, followed by the rest.
use Rattle.std.specs.Prelude.{ℕ, ◌+◌, List, [], ◌∷◌, ◌++◌, ◌≡◌}
use Rattle.gr_program.specs.Programs as program
use Rattle.gr_program.specs.Programs.{Stmt, Does, Block, If, For, Stmts, stop, then, Cases, no_case, default_case, send_case, receive_case}
use Rattle.gr_lower.specs.Sizes.{targets_size, size, size_in}

-- of what the clauses of a select have after it
abbrev pub clause_sizes : Cases → List ℕ
clause_sizes no_case = []
clause_sizes (default_case body others) = size_in body ∷ clause_sizes others
clause_sizes (send_case channel value body others) = size_in body ∷ clause_sizes others
clause_sizes (receive_case targets channel initial body others) = (targets_size targets + size_in body) ∷ clause_sizes others

abbrev mutual
  pub asked : Stmt → List ℕ → List ℕ
  asked (Does place act) rest = rest
  asked (Block body) rest = asked_in body rest
  asked (If place init condition body otherwise) rest = size_in body ∷ size_in otherwise ∷ asked_in body (asked_in otherwise rest)
  asked (For place init condition post body) rest = size_in body ∷ asked_in body rest
  asked (program.Range place target channel body) rest = size_in body ∷ asked_in body rest
  asked (program.Select place cases) rest = clause_sizes cases ++ asked_among cases rest

  -- each statement's, and that of those after it
  pub asked_in : Stmts → List ℕ → List ℕ
  asked_in stop rest = rest
  asked_in (then s ss) rest = size s ∷ size_in ss ∷ asked s (asked_in ss rest)

  pub asked_among : Cases → List ℕ → List ℕ
  asked_among no_case rest = rest
  asked_among (default_case body others) rest = asked_in body (asked_among others rest)
  asked_among (send_case channel value body others) rest = asked_in body (asked_among others rest)
  asked_among (receive_case targets channel initial body others) rest = size_in body ∷ asked_in body (asked_among others rest)

-- what is done where these sizes are the next ones, which are asked for
abbrev pub Asking : (List ℕ → List ℕ) → List ℕ → List ℕ → Type 0 → Type 0
Asking sizes old new done = (rest : List ℕ) → old ≡ sizes rest → (new ≡ rest) × done
