-- The code of statements. `o` is the number of the first instruction, `d` the first free temporary, and `on` the number of
-- what follows. Where nothing has instructions of its own, `on` comes next.
use Rattle.std.specs.Prelude.{ℕ, zero, suc, ◌+◌, List, [], ◌∷◌, ◌++◌, slice_get, Option, Some, None, option_and_then}
use Rattle.std.specs.Option.{option_map}
use Rattle.gr_program.specs.Programs as program
use Rattle.gr_program.specs.Programs.{Act, Opening, Opens, Stmt, Does, Block, If, For, Stmts, stop, then, Cases, no_case, default_case, send_case, receive_case}
use Rattle.gr_rules.specs.Operands.{Operand, Variable, Receive, Call, Operands, nothing, one, two, value_of, operand_of, operands_of}
use Rattle.gr_rules.specs.Parts.{Calls, Receives}
use Rattle.gr_rules.specs.Points.{pieces_of, printed_operands, case_operands}
use Rattle.gr_code.specs.Passing.{parts, parts_in}
use Rattle.gr_code.specs.Instructions.{Arm, DefaultArm, SendArm, ReceiveArm, Action, Assigns, AssignsReceived, Updates, ClosesChannel, PrintsLine, Sends, StartsFunction, Returns, GoesOn, Fails, Tests, Ranges, Turns, Instruction, Part, Perform, Choose}
use Rattle.gr_lower.specs.PartCode.{left, left_in, code, code_in}
use Rattle.gr_lower.specs.Sizes.{returned, tested, opening_size, targets_size, size, size_in}

-- A for or select statement around a place: where a `break` out of it leads, and where a `continue` does if it is a for.
pub record Way : Type 0 where
  pub out : ℕ
  pub again : Option ℕ

abbrev pub way : ℕ → Option ℕ → Way
way out again = record { out = out; again = again }

-- where a `break` and a `continue` lead; the statements around are those from the inside out (Go: Break statements, Continue
-- statements)
abbrev pub leaving : ℕ → List Way → Option ℕ
leaving depth ways = option_map (λ w. w.out) (slice_get ways depth)

abbrev pub turning : ℕ → List Way → Option ℕ
turning depth ways = option_and_then (λ w. w.again) (slice_get ways depth)

abbrev pub goes : Option ℕ → Instruction
goes o = elim o [ Some on ↦ Perform (GoesOn on) nothing | None ↦ Perform Fails nothing ]

-- the first of this many instructions, if there are any
abbrev pub entry : ℕ → ℕ → ℕ → ℕ
entry zero o on = on
entry (suc n) o on = o

-- the parts of operands, and then what is done with what is left of them
abbrev pub performed : Operands → ℕ → ℕ → Action → List Instruction
performed es d o action = code_in es d o ++ Perform action (left_in es d) ∷ []

-- an expression statement; one that is neither a call nor a receive is in no checked program
abbrev pub whole_code : Operand → ℕ → ℕ → ℕ → List Instruction
whole_code (Call f arguments) d o on = code_in arguments d o ++ Part (Calls f (left_in arguments d)) None on ∷ []
whole_code (Receive c initial) d o on = code c d o ++ Part (Receives (left c d) initial) None on ∷ []
whole_code e d o on = performed (one e) d o Fails

abbrev pub act_code : Act → ℕ → ℕ → ℕ → List Way → List Instruction
act_code (program.Assign targets values) d o on ways = performed (operands_of values) d o (Assigns targets on)
act_code (program.AssignReceive value ok channel initial) d o on ways =
    performed (one (operand_of channel)) d o (AssignsReceived (value_of initial) d (d + 1) (o + parts_in (one (operand_of channel)) + 1))
    ++ Perform (Assigns (value ∷ ok ∷ []) on) (two (Variable d) (Variable (d + 1))) ∷ []
act_code (program.Update x op value) d o on ways = performed (one (operand_of value)) d o (Updates x op on)
act_code (program.Eval value) d o on ways = whole_code (operand_of value) d o on
act_code (program.Close channel) d o on ways = performed (one (operand_of channel)) d o (ClosesChannel on)
act_code (program.Print values) d o on ways = performed (printed_operands values) d o (PrintsLine (pieces_of values) on)
act_code (program.Send channel value) d o on ways = performed (two (operand_of channel) (operand_of value)) d o (Sends on)
act_code (program.Go f arguments) d o on ways = performed (operands_of arguments) d o (StartsFunction f on)
act_code (program.Return value) d o on ways = performed (returned value) d o Returns
act_code (program.Break depth) d o on ways = goes (leaving depth ways) ∷ []
act_code (program.Continue depth) d o on ways = goes (turning depth ways) ∷ []

abbrev pub opening_code : Option Opening → ℕ → ℕ → ℕ → List Way → List Instruction
opening_code opening d o on ways = elim opening [ Some (Opens place act) ↦ act_code act d o on ways | None ↦ [] ]

-- what was received is assigned from the first two temporaries
abbrev pub into : List (Option ℕ) → ℕ → Option (ℕ × ℕ)
into [] d = None
into (k ∷ ks) d = Some (d, d + 1)

abbrev pub targets_code : List (Option ℕ) → ℕ → ℕ → List Instruction
targets_code [] d on = []
targets_code (k ∷ ks) d on = Perform (Assigns (k ∷ ks) on) (two (Variable d) (Variable (d + 1))) ∷ []

-- The arms of a select, whose clauses have their instructions from `o` on. The parts of their operands have temporaries
-- from `t` on.
abbrev pub arms : Cases → ℕ → ℕ → ℕ → ℕ → List Arm
arms no_case t d o on = []
arms (default_case body others) t d o on = DefaultArm (entry (size_in body) o on) ∷ arms others t d (o + size_in body) on
arms (send_case channel value body others) t d o on =
    SendArm (left (operand_of channel) t) (left (operand_of value) (t + parts (operand_of channel))) (entry (size_in body) o on)
    ∷ arms others (t + parts (operand_of channel) + parts (operand_of value)) d (o + size_in body) on
arms (receive_case targets channel initial body others) t d o on =
    ReceiveArm (left (operand_of channel) t) (value_of initial) (into targets d) (entry (targets_size targets + size_in body) o on)
    ∷ arms others (t + parts (operand_of channel)) d (o + (targets_size targets + size_in body)) on

abbrev mutual
  pub stmt_code : Stmt → ℕ → ℕ → ℕ → List Way → List Instruction
  stmt_code (Does place act) d o on ways = act_code act d o on ways
  stmt_code (Block body) d o on ways = stmts_code body d o on ways
  stmt_code (If place init condition body otherwise) d o on ways =
      let test = o + opening_size init in
      let first = test + (parts_in (one (operand_of condition)) + 1) in
      let second = first + size_in body in
      opening_code init d o test ways
      ++ performed (one (operand_of condition)) d test (Tests (entry (size_in body) first on) (entry (size_in otherwise) second on))
      ++ stmts_code body d first on ways ++ stmts_code otherwise d second on ways
  stmt_code (For place init condition post body) d o on ways =
      let test = o + opening_size init in
      let first = test + (parts_in (tested condition) + 1) in
      let after = first + size_in body in
      let turn = entry (opening_size post) after test in
      opening_code init d o test ways
      ++ performed (tested condition) d test (Tests (entry (size_in body) first turn) on)
      ++ stmts_code body d first turn (way on (Some turn) ∷ ways) ++ opening_code post d after test ways
  stmt_code (program.Range place target channel body) d o on ways =
      let turn = o + (parts_in (one (operand_of channel)) + 1) in
      performed (one (operand_of channel)) d o (Ranges d turn)
      ++ Perform (Turns (d + 1) (turn + 1) (turn + 2)) (one (Variable d))
      ∷ Perform (Assigns (target ∷ []) (entry (size_in body) (turn + 3) turn)) (one (Variable (d + 1)))
      ∷ Perform (GoesOn on) nothing
      ∷ stmts_code body (d + 1) (turn + 3) turn (way on (Some turn) ∷ ways)
  stmt_code (program.Select place cases) d o on ways =
      let first = o + (parts_in (case_operands cases) + 1) in
      (code_in (case_operands cases) d o ++ Choose (arms cases d d first on) ∷ [])
      ++ cases_code cases d first on (way on None ∷ ways)

  pub stmts_code : Stmts → ℕ → ℕ → ℕ → List Way → List Instruction
  stmts_code stop d o on ways = []
  stmts_code (then s ss) d o on ways =
      stmt_code s d o (entry (size_in ss) (o + size s) on) ways ++ stmts_code ss d (o + size s) on ways

  pub cases_code : Cases → ℕ → ℕ → ℕ → List Way → List Instruction
  cases_code no_case d o on ways = []
  cases_code (default_case body others) d o on ways = stmts_code body d o on ways ++ cases_code others d (o + size_in body) on ways
  cases_code (send_case channel value body others) d o on ways = stmts_code body d o on ways ++ cases_code others d (o + size_in body) on ways
  cases_code (receive_case targets channel initial body others) d o on ways =
      let first = o + targets_size targets in
      (targets_code targets d (entry (size_in body) first on) ++ stmts_code body d first on ways)
      ++ cases_code others d (o + (targets_size targets + size_in body)) on ways
