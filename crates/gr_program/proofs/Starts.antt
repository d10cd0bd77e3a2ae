-- Statements begin one after another exactly where the pass over them comes to a last start.
use Rattle.std.proofs.Common.{◌≡◌, ℕ, Bool, true, false, List, [], ◌∷◌, ◌++◌, refl, ap, ◌∙◌, append_assoc}
use Rattle.std.specs.Prelude.{◌&&◌, Option, Some, None, if◌then◌else◌, nat_lt}
use Rattle.gr_program.specs.Programs.{Opening, Opens, Stmt, Does, Block, If, For, Range, Select, Stmts, stop, then, Cases, no_case, default_case, send_case, receive_case}
use Rattle.gr_program.specs.Order.{opening_start, starts_of, starts_in, starts_among, rises_from, stands_in_order}
use Rattle.gr_program.specs.LastStarts.{and_after, next_start, after_opening, after_stmt, after_body, after_cases}

abbrev rises_after : Option ℕ → List ℕ → Bool
rises_after None rest = false
rises_after (Some last) rest = rises_from last rest

-- starts that a pass comes over
abbrev Follows : List ℕ → (ℕ → Option ℕ) → Type 0
Follows starts pass = (n : ℕ) (rest : List ℕ) → rises_from n (starts ++ rest) ≡ rises_after (pass n) rest

by_test : (b : Bool) (m : ℕ) (rest : List ℕ) → (b && rises_from m rest) ≡ rises_after (if b then Some m else None) rest
by_test true m rest = refl
by_test false m rest = refl

one : (m : ℕ) → Follows (m ∷ []) (λ n. next_start n m)
one m n rest = by_test (nat_lt n m) m rest

onward : (o : Option ℕ) (starts : List ℕ) (pass : ℕ → Option ℕ) (rest : List ℕ) → Follows starts pass
    → rises_after o (starts ++ rest) ≡ rises_after (and_after o pass) rest
onward (Some n) starts pass rest follows = follows n rest
onward None starts pass rest follows = refl

both : (xs ys : List ℕ) (f g : ℕ → Option ℕ) → Follows xs f → Follows ys g → Follows (xs ++ ys) (λ n. and_after (f n) g)
both xs ys f g first second n rest =
    ap (rises_from n) (append_assoc xs ys rest) ∙ first n (ys ++ rest) ∙ onward (f n) ys g rest second

nothing : Follows [] (λ n. Some n)
nothing n rest = refl

opening_follows : (o : Option Opening) → Follows (opening_start o) (after_opening o)
opening_follows None = nothing
opening_follows (Some (Opens place act)) = one place.start

mutual
  stmt_follows : (s : Stmt) → Follows (starts_of s) (after_stmt s)
  stmt_follows (Does place act) = one place.start
  stmt_follows (Block body) = body_follows body
  stmt_follows (If place init condition body otherwise) =
      let branches = both (starts_in body) (starts_in otherwise) (after_body body) (after_body otherwise) (body_follows body) (body_follows otherwise) in
      let headed = both (opening_start init) (starts_in body ++ starts_in otherwise) (after_opening init) (λ n. and_after (after_body body n) (after_body otherwise)) (opening_follows init) branches in
      both (place.start ∷ []) (opening_start init ++ (starts_in body ++ starts_in otherwise)) (λ n. next_start n place.start)
      (λ n. and_after (after_opening init n) (λ n. and_after (after_body body n) (after_body otherwise))) (one place.start) headed
  stmt_follows (For place init condition post body) =
      let turn = both (opening_start post) (starts_in body) (after_opening post) (after_body body) (opening_follows post) (body_follows body) in
      let headed = both (opening_start init) (opening_start post ++ starts_in body) (after_opening init) (λ n. and_after (after_opening post n) (after_body body)) (opening_follows init) turn in
      both (place.start ∷ []) (opening_start init ++ (opening_start post ++ starts_in body)) (λ n. next_start n place.start)
      (λ n. and_after (after_opening init n) (λ n. and_after (after_opening post n) (after_body body))) (one place.start) headed
  stmt_follows (Range place target channel body) =
      both (place.start ∷ []) (starts_in body) (λ n. next_start n place.start) (after_body body) (one place.start) (body_follows body)
  stmt_follows (Select place cases) =
      both (place.start ∷ []) (starts_among cases) (λ n. next_start n place.start) (after_cases cases) (one place.start) (cases_follow cases)

  body_follows : (ss : Stmts) → Follows (starts_in ss) (after_body ss)
  body_follows stop = nothing
  body_follows ((then) s ss) = both (starts_of s) (starts_in ss) (after_stmt s) (after_body ss) (stmt_follows s) (body_follows ss)

  cases_follow : (ks : Cases) → Follows (starts_among ks) (after_cases ks)
  cases_follow no_case = nothing
  cases_follow (default_case body others) =
      both (starts_in body) (starts_among others) (after_body body) (after_cases others) (body_follows body) (cases_follow others)
  cases_follow (send_case channel value body others) =
      both (starts_in body) (starts_among others) (after_body body) (after_cases others) (body_follows body) (cases_follow others)
  cases_follow (receive_case targets channel zero body others) =
      both (starts_in body) (starts_among others) (after_body body) (after_cases others) (body_follows body) (cases_follow others)

and_true : (b : Bool) → (b && true) ≡ b
and_true true = refl
and_true false = refl

-- whether the closing brace comes after the last start
abbrev pub closes_after : Option ℕ → ℕ → Bool
closes_after None closing = false
closes_after (Some last) closing = nat_lt last closing

last_rises : (o : Option ℕ) (closing : ℕ) → rises_after o (closing ∷ []) ≡ closes_after o closing
last_rises (Some last) closing = and_true (nat_lt last closing)
last_rises None closing = refl

pub order_by_last : (start : ℕ) (body : Stmts) (closing : ℕ) → stands_in_order start body closing ≡ closes_after (after_body body start) closing
order_by_last start body closing = body_follows body start (closing ∷ []) ∙ last_rises (after_body body start) closing
