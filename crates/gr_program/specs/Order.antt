-- The order in which the statements of a function begin.
use Rattle.std.specs.Prelude.{ℕ, Bool, true, ◌&&◌, List, [], ◌∷◌, ◌++◌, Option, Some, None, nat_lt}
use Rattle.gr_program.specs.Programs.{Opening, Opens, Stmt, Does, Block, If, For, Range, Select, Stmts, stop, then, Cases, no_case, default_case, send_case, receive_case}

abbrev pub opening_start : Option Opening → List ℕ
opening_start None = []
opening_start (Some (Opens place act)) = place.start ∷ []

-- where statements begin: each before its initial statement, its post statement, its body and its else branch, in this order
abbrev mutual
  pub starts_of : Stmt → List ℕ
  starts_of (Does place act) = place.start ∷ []
  starts_of (Block body) = starts_in body
  starts_of (If place init condition body otherwise) =
      place.start ∷ (opening_start init ++ (starts_in body ++ starts_in otherwise))
  starts_of (For place init condition post body) =
      place.start ∷ (opening_start init ++ (opening_start post ++ starts_in body))
  starts_of (Range place target channel body) = place.start ∷ starts_in body
  starts_of (Select place cases) = place.start ∷ starts_among cases

  pub starts_in : Stmts → List ℕ
  starts_in stop = []
  starts_in (then first others) = starts_of first ++ starts_in others

  pub starts_among : Cases → List ℕ
  starts_among no_case = []
  starts_among (default_case body others) = starts_in body ++ starts_among others
  starts_among (send_case channel value body others) = starts_in body ++ starts_among others
  starts_among (receive_case targets channel zero body others) = starts_in body ++ starts_among others

-- each is greater than the one before it
abbrev pub rises_from : ℕ → List ℕ → Bool
rises_from n [] = true
rises_from n (m ∷ ms) = nat_lt n m && rises_from m ms

-- the statements of a function that begins at a place begin one after another, and all before its closing brace
abbrev pub stands_in_order : (start : ℕ) → Stmts → (closing : ℕ) → Bool
stands_in_order start body closing = rises_from start (starts_in body ++ (closing ∷ []))
