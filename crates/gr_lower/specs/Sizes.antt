-- How many instructions a statement has. Blocks have none of their own.
use Rattle.std.specs.Prelude.{ℕ, ◌+◌, true, List, [], ◌∷◌, Option, Some, None}
use Rattle.std.specs.Option.{option_map_or}
use Rattle.gr_base.specs.declared.values.Value.TheVariants.{Bool as Truth}
use Rattle.gr_program.specs.Programs as program
use Rattle.gr_program.specs.Programs.{Expr, Act, Opening, Opens, Stmt, Does, Block, If, For, Stmts, stop, then, Cases, no_case, default_case, send_case, receive_case}
use Rattle.gr_rules.specs.Operands.{Operand, Done, Receive, Call, Operands, nothing, one, two, operand_of, operands_of}
use Rattle.gr_rules.specs.Points.{printed_operands, case_operands}
use Rattle.gr_code.specs.Passing.{parts, parts_in}

-- a call or a receive that is a statement is over with its last part (Go: Expression statements)
abbrev pub whole_size : Operand → ℕ
whole_size (Call f arguments) = parts_in arguments + 1
whole_size (Receive c initial) = parts c + 1
whole_size e = parts e + 1

-- a `return` may have no value (Go: Return statements)
abbrev pub returned : Option Expr → Operands
returned value = option_map_or (λ v. one (operand_of v)) value nothing

-- a missing condition is `true` (Go: For statements)
abbrev pub tested : Option Expr → Operands
tested condition = one (option_map_or operand_of condition (Done (Truth true)))

-- the parts of the operands, and the act itself; one that receives two values assigns them apart
abbrev pub act_size : Act → ℕ
act_size (program.Assign targets values) = parts_in (operands_of values) + 1
act_size (program.AssignReceive value ok channel initial) = parts_in (one (operand_of channel)) + 2
act_size (program.Update x op value) = parts_in (one (operand_of value)) + 1
act_size (program.Eval value) = whole_size (operand_of value)
act_size (program.Close channel) = parts_in (one (operand_of channel)) + 1
act_size (program.Print values) = parts_in (printed_operands values) + 1
act_size (program.Send channel value) = parts_in (two (operand_of channel) (operand_of value)) + 1
act_size (program.Go f arguments) = parts_in (operands_of arguments) + 1
act_size (program.Return value) = parts_in (returned value) + 1
act_size (program.Break depth) = 1
act_size (program.Continue depth) = 1

abbrev pub opening_size : Option Opening → ℕ
opening_size o = elim o [ Some (Opens place act) ↦ act_size act | None ↦ 0 ]

-- a clause that assigns what it received has an instruction for that
abbrev pub targets_size : List (Option ℕ) → ℕ
targets_size [] = 0
targets_size (k ∷ ks) = 1

abbrev mutual
  pub size : Stmt → ℕ
  size (Does place act) = act_size act
  size (Block body) = size_in body
  size (If place init condition body otherwise) = opening_size init + (parts_in (one (operand_of condition)) + 1) + size_in body + size_in otherwise
  size (For place init condition post body) = opening_size init + (parts_in (tested condition) + 1) + size_in body + opening_size post
  size (program.Range place target channel body) = (parts_in (one (operand_of channel)) + 1) + 3 + size_in body
  size (program.Select place cases) = (parts_in (case_operands cases) + 1) + size_among cases

  pub size_in : Stmts → ℕ
  size_in stop = 0
  size_in (then s ss) = size s + size_in ss

  pub size_among : Cases → ℕ
  size_among no_case = 0
  size_among (default_case body others) = size_in body + size_among others
  size_among (send_case channel value body others) = size_in body + size_among others
  size_among (receive_case targets channel initial body others) = (targets_size targets + size_in body) + size_among others
