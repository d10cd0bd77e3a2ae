-- The lines on which the statements of instructions begin.
use Rattle.std.specs.Prelude.{ℕ, ◌+◌, List, [], ◌++◌, replicate, Option, Some, None}
use Rattle.gr_program.specs.Programs as program
use Rattle.gr_program.specs.Programs.{Opening, Opens, Stmt, Does, Block, If, For, Stmts, stop, then, Cases, no_case, default_case, send_case, receive_case}
use Rattle.gr_rules.specs.Operands.{one, operand_of}
use Rattle.gr_rules.specs.Points.{case_operands}
use Rattle.gr_code.specs.Passing.{parts_in}
use Rattle.gr_lower.specs.Sizes.{tested, act_size, targets_size}

abbrev pub opening_lines : Option Opening → List ℕ
opening_lines o = elim o [ Some (Opens place act) ↦ replicate (act_size act) place.line | None ↦ [] ]

abbrev mutual
  pub stmt_lines : Stmt → List ℕ
  stmt_lines (Does place act) = replicate (act_size act) place.line
  stmt_lines (Block body) = stmts_lines body
  stmt_lines (If place init condition body otherwise) =
      opening_lines init ++ replicate (parts_in (one (operand_of condition)) + 1) place.line ++ stmts_lines body ++ stmts_lines otherwise
  stmt_lines (For place init condition post body) =
      opening_lines init ++ replicate (parts_in (tested condition) + 1) place.line ++ stmts_lines body ++ opening_lines post
  stmt_lines (program.Range place target channel body) =
      replicate (parts_in (one (operand_of channel)) + 1) place.line ++ replicate 3 place.line ++ stmts_lines body
  stmt_lines (program.Select place cases) = replicate (parts_in (case_operands cases) + 1) place.line ++ cases_lines place.line cases

  pub stmts_lines : Stmts → List ℕ
  stmts_lines stop = []
  stmts_lines (then s ss) = stmt_lines s ++ stmts_lines ss

  pub cases_lines : ℕ → Cases → List ℕ
  cases_lines line no_case = []
  cases_lines line (default_case body others) = stmts_lines body ++ cases_lines line others
  cases_lines line (send_case channel value body others) = stmts_lines body ++ cases_lines line others
  cases_lines line (receive_case targets channel initial body others) =
      (replicate (targets_size targets) line ++ stmts_lines body) ++ cases_lines line others
