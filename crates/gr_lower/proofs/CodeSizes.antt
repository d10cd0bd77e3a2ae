-- The code of statements has as many instructions as their sizes say.
use Rattle.std.proofs.Common.{◌≡◌, ℕ, ◌+◌, List, [], ◌∷◌, ◌++◌, length, Option, Some, None, refl, ◌∙◌, arith, length-append}
use Rattle.gr_program.specs.Programs as program
use Rattle.gr_program.specs.Programs.{Act, Opening, Opens, Stmt, Does, Block, If, For, Stmts, stop, then, Cases, no_case, default_case, send_case, receive_case}
use Rattle.gr_rules.specs.Operands.{Operand, Receive, Call, Operands, one, two, operand_of}
use Rattle.gr_rules.specs.Points.{case_operands}
use Rattle.gr_code.specs.Instructions.{Action, Updates, ClosesChannel, Sends, Fails, Tests, Ranges, Instruction, Perform, Choose}
use Rattle.gr_code.specs.Passing.{parts, parts_in}
use Rattle.gr_lower.specs.PartCode.{left_in, code_in}
use Rattle.gr_lower.specs.Sizes.{whole_size, tested, act_size, opening_size, targets_size, size, size_in, size_among}
use Rattle.gr_lower.specs.StatementCode.{Way, way, entry, arms, performed, whole_code, act_code, opening_code, targets_code, stmt_code, stmts_code, cases_code}
use Rattle.gr_lower.proofs.PartsLeft.{length_code, length_code_in}

size_both : (a b : List Instruction) (i j : ℕ) → length a ≡ i → length b ≡ j → length (a ++ b) ≡ i + j
size_both a b i j e f = length-append a b ∙ cc (e, f)

size_four : (a b c d : List Instruction) (i j k l : ℕ) → length a ≡ i → length b ≡ j → length c ≡ k → length d ≡ l
    → length (a ++ b ++ c ++ d) ≡ i + j + k + l
size_four a b c d i j k l e f g h =
    size_both (a ++ b ++ c) d (i + j + k) l (size_both (a ++ b) c (i + j) k (size_both a b i j e f) g) h

size_three_more : (a d : List Instruction) (p q r : Instruction) (i l : ℕ) → length a ≡ i → length d ≡ l
    → length (a ++ p ∷ q ∷ r ∷ d) ≡ i + 3 + l
size_three_more a d p q r i l e f =
    let x : length (a ++ p ∷ q ∷ r ∷ d) ≡ length a + length (p ∷ q ∷ r ∷ d) = length-append a (p ∷ q ∷ r ∷ d) in omega arith

-- the parts of operands, and one more
parts_and_one : (es : Operands) (d o : ℕ) (i : Instruction) → length (code_in es d o ++ i ∷ []) ≡ parts_in es + 1
parts_and_one es d o i = size_both (code_in es d o) (i ∷ []) (parts_in es) 1 (length_code_in es d o) refl

pub size_performed : (es : Operands) (d o : ℕ) (action : Action) → length (performed es d o action) ≡ parts_in es + 1
size_performed es d o action = parts_and_one es d o (Perform action (left_in es d))

whole_others : (e : Operand) → parts_in (one e) + 1 ≡ parts e + 1
whole_others e = omega arith

size_of_whole : (e : Operand) (d o on : ℕ) → length (whole_code e d o on) ≡ whole_size e
size_of_whole (Call f arguments) d o on = parts_and_one arguments d o _
size_of_whole (Receive c initial) d o on = size_both _ _ (parts c) 1 (length_code c d o) refl
size_of_whole e d o on = size_performed (one e) d o Fails ∙ whole_others e

twice : (k : ℕ) → k + 1 + 1 ≡ k + 2
twice k = omega arith

size_of_act : (act : Act) (d o on : ℕ) (ways : List Way) → length (act_code act d o on ways) ≡ act_size act
size_of_act (program.Assign targets values) d o on ways = parts_and_one _ d o _
size_of_act (program.AssignReceive value ok channel initial) d o on ways =
    size_both _ _ (parts_in (one (operand_of channel)) + 1) 1 (parts_and_one (one (operand_of channel)) d o _) refl
    ∙ twice (parts_in (one (operand_of channel)))
size_of_act (program.Update x op value) d o on ways = size_performed (one (operand_of value)) d o (Updates x op on)
size_of_act (program.Eval value) d o on ways = size_of_whole (operand_of value) d o on
size_of_act (program.Close channel) d o on ways = size_performed (one (operand_of channel)) d o (ClosesChannel on)
size_of_act (program.Print values) d o on ways = parts_and_one _ d o _
size_of_act (program.Send channel value) d o on ways = size_performed (two (operand_of channel) (operand_of value)) d o (Sends on)
size_of_act (program.Go f arguments) d o on ways = parts_and_one _ d o _
size_of_act (program.Return value) d o on ways = parts_and_one _ d o _
size_of_act (program.Break depth) d o on ways = refl
size_of_act (program.Continue depth) d o on ways = refl

size_of_opening : (opening : Option Opening) (d o on : ℕ) (ways : List Way) → length (opening_code opening d o on ways) ≡ opening_size opening
size_of_opening None d o on ways = refl
size_of_opening (Some (Opens place act)) d o on ways = size_of_act act d o on ways

size_of_targets : (targets : List (Option ℕ)) (d on : ℕ) → length (targets_code targets d on) ≡ targets_size targets
size_of_targets [] d on = refl
size_of_targets (k ∷ ks) d on = refl

mutual
  pub size_of_stmt : (s : Stmt) (d o on : ℕ) (ways : List Way) → length (stmt_code s d o on ways) ≡ size s
  size_of_stmt (Does place act) d o on ways = size_of_act act d o on ways
  size_of_stmt (Block body) d o on ways = size_of_stmts body d o on ways
  size_of_stmt (If place init condition body otherwise) d o on ways =
      let es : Operands = one (operand_of condition) in
      let test : ℕ = o + opening_size init in
      let first : ℕ = test + (parts_in es + 1) in
      let second : ℕ = first + size_in body in
      size_four _ _ _ _ (opening_size init) (parts_in es + 1) (size_in body) (size_in otherwise) (size_of_opening init d o test ways)
      (size_performed es d test (Tests (entry (size_in body) first on) (entry (size_in otherwise) second on)))
      (size_of_stmts body d first on ways) (size_of_stmts otherwise d second on ways)
  size_of_stmt (For place init condition post body) d o on ways =
      let es : Operands = tested condition in
      let test : ℕ = o + opening_size init in
      let first : ℕ = test + (parts_in es + 1) in
      let after : ℕ = first + size_in body in
      let turn : ℕ = entry (opening_size post) after test in
      size_four _ _ _ _ (opening_size init) (parts_in es + 1) (size_in body) (opening_size post) (size_of_opening init d o test ways)
      (size_performed es d test (Tests (entry (size_in body) first turn) on))
      (size_of_stmts body d first turn (way on (Some turn) ∷ ways)) (size_of_opening post d after test ways)
  size_of_stmt (program.Range place target channel body) d o on ways =
      let es : Operands = one (operand_of channel) in
      let turn : ℕ = o + (parts_in es + 1) in
      size_three_more _ _ _ _ _ (parts_in es + 1) (size_in body) (size_performed es d o (Ranges d turn))
      (size_of_stmts body (d + 1) (turn + 3) turn (way on (Some turn) ∷ ways))
  size_of_stmt (program.Select place cases) d o on ways =
      let es : Operands = case_operands cases in
      let first : ℕ = o + (parts_in es + 1) in
      size_both _ _ (parts_in es + 1) (size_among cases) (parts_and_one es d o (Choose (arms cases d d first on)))
      (size_of_cases cases d first on (way on None ∷ ways))

  pub size_of_stmts : (ss : Stmts) (d o on : ℕ) (ways : List Way) → length (stmts_code ss d o on ways) ≡ size_in ss
  size_of_stmts stop d o on ways = refl
  size_of_stmts (then s ss) d o on ways = size_both _ _ (size s) (size_in ss) (size_of_stmt s d o _ ways) (size_of_stmts ss d (o + size s) on ways)

  pub size_of_cases : (cases : Cases) (d o on : ℕ) (ways : List Way) → length (cases_code cases d o on ways) ≡ size_among cases
  size_of_cases no_case d o on ways = refl
  size_of_cases (default_case body others) d o on ways =
      size_both _ _ (size_in body) (size_among others) (size_of_stmts body d o on ways) (size_of_cases others d _ on ways)
  size_of_cases (send_case channel value body others) d o on ways =
      size_both _ _ (size_in body) (size_among others) (size_of_stmts body d o on ways) (size_of_cases others d _ on ways)
  size_of_cases (receive_case targets channel initial body others) d o on ways =
      size_both _ _ (targets_size targets + size_in body) (size_among others)
      (size_both _ _ (targets_size targets) (size_in body) (size_of_targets targets d _) (size_of_stmts body d _ on ways)) (size_of_cases others d _ on ways)
