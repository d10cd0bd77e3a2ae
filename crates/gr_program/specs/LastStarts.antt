-- The last start of statements that begin one after another, as the code finds it: a stepping stone of the proofs.
use Rattle.std.specs.Prelude.{ℕ, Option, Some, None, if◌then◌else◌, nat_lt}
use Rattle.gr_program.specs.declared.program.Case as code_case
use Rattle.gr_program.specs.declared.program.Case.TheVariants as cases
use Rattle.gr_program.specs.Programs.{Opening, Opens, Stmt, Does, Block, If, For, Range, Select, Stmts, stop, then, Cases, no_case, default_case, send_case, receive_case}
use Rattle.gr_program.specs.Views.{row_stmts}

abbrev pub and_after : Option ℕ → (ℕ → Option ℕ) → Option ℕ
and_after None next = None
and_after (Some last) next = next last

abbrev pub next_start : ℕ → ℕ → Option ℕ
next_start last start = if nat_lt last start then Some start else None

abbrev pub after_opening : Option Opening → ℕ → Option ℕ
after_opening None last = Some last
after_opening (Some (Opens place act)) last = next_start last place.start

abbrev mutual
  pub after_stmt : Stmt → ℕ → Option ℕ
  after_stmt (Does place act) last = next_start last place.start
  after_stmt (Block body) last = after_body body last
  after_stmt (If place init condition body otherwise) last =
      and_after (next_start last place.start) (λ n. and_after (after_opening init n) (λ n. and_after (after_body body n) (λ n. after_body otherwise n)))
  after_stmt (For place init condition post body) last =
      and_after (next_start last place.start) (λ n. and_after (after_opening init n) (λ n. and_after (after_opening post n) (λ n. after_body body n)))
  after_stmt (Range place target channel body) last = and_after (next_start last place.start) (λ n. after_body body n)
  after_stmt (Select place cases) last = and_after (next_start last place.start) (λ n. after_cases cases n)

  pub after_body : Stmts → ℕ → Option ℕ
  after_body stop last = Some last
  after_body ((then) first others) last = and_after (after_stmt first last) (λ n. after_body others n)

  pub after_cases : Cases → ℕ → Option ℕ
  after_cases no_case last = Some last
  after_cases (default_case body others) last = and_after (after_body body last) (λ n. after_cases others n)
  after_cases (send_case channel value body others) last = and_after (after_body body last) (λ n. after_cases others n)
  after_cases (receive_case targets channel zero body others) last = and_after (after_body body last) (λ n. after_cases others n)

-- the statements of a clause of the code
abbrev pub case_body : code_case.Case → Stmts
case_body (cases.Default' shape body) = row_stmts body
case_body (cases.Send' channel value shape body) = row_stmts body
case_body (cases.Receive' targets channel zero shape body) = row_stmts body
