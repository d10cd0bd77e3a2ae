-- Statements are within bounds where their instructions are, and so are the points that these mean.
use Rattle.std.proofs.Common.{ℕ, ◌+◌, List, [], ◌∷◌, ◌++◌, Option, Some, None}
use Rattle.gr_scan.specs.declared.token.Place.{Place}
use Rattle.gr_program.specs.Programs as program
use Rattle.gr_program.specs.Programs.{Expr, Opening, Stmt, Does, Block, If, For, Stmts, stop, then, Cases, no_case, default_case, send_case, receive_case, Program}
use Rattle.gr_rules.specs.Operands.{Variable, Operands, nothing, one, operand_of}
use Rattle.gr_rules.specs.Points.{Rest, Select, Point, case_operands}
use Rattle.gr_code.specs.Passing.{parts, parts_in}
use Rattle.gr_code.specs.Instructions.{Arm, Assigns, GoesOn, Tests, Ranges, Turns, Instruction, Perform, Choose}
use Rattle.gr_lower.specs.PartCode.{left_in, code_in}
use Rattle.gr_lower.specs.Sizes.{tested, opening_size, targets_size, size, size_in}
use Rattle.gr_lower.specs.StatementCode.{Way, way, entry, performed, opening_code, targets_code, arms, stmt_code, stmts_code, cases_code}
use Rattle.gr_lower.specs.StatementPoints.{performed_points}
use Rattle.gr_lower.proofs.PartsLeft.{reads_all}
use Rattle.gr_may.specs.Uses.{Uses, Usage}
use Rattle.gr_may.specs.Demands.{clause_uses, OperandsFit, ConditionFits, StmtFits, StmtsFit, CasesFit, RestFits}
use Rattle.gr_bounds.specs.CodeUses.{ArmsFit}
use Rattle.gr_bounds.proofs.PartPaths.{Code, code_first, code_second, Points, path_fits, performed_fit}
use Rattle.gr_bounds.proofs.ActUses.{performed_operands, act_uses, opening_uses}

module _ (p : Program) (usage : Usage) (n : List ℕ) (uses : ℕ → Uses) (function : ℕ) where
  abbrev C : List Instruction → Type 0
  C is = Code p usage n uses function is

  abbrev Fs : List Uses → Operands → Type 0
  Fs bs es = OperandsFit p usage n uses function bs es

  abbrev Ps : List Point → Type 0
  Ps xs = Points p usage n uses function xs

  abbrev R : Rest → Type 0
  R rest = RestFits p usage n uses function rest

  abbrev S : Stmt → Type 0
  S s = StmtFits p usage n uses function s

  abbrev Ss : Stmts → Type 0
  Ss ss = StmtsFit p usage n uses function ss

  abbrev Cs : Cases → Type 0
  Cs cases = CasesFit p usage n uses function cases

  first : (is js : List Instruction) → C (is ++ js) → C is
  first = code_first p usage n uses function

  second : (is js : List Instruction) → C (is ++ js) → C js
  second = code_second p usage n uses function

  tested_fits : (condition : Option Expr) → Fs [] (tested condition) → ConditionFits p usage n uses function condition
  tested_fits None h = tt
  tested_fits (Some e) h = h.0

  -- what is left of the operands of a select, by its arms
  arms_fit : (cases : Cases) (t d o on : ℕ) → ArmsFit p usage n uses function (arms cases t d o on) → Fs (clause_uses cases) (left_in (case_operands cases) t)
  arms_fit no_case t d o on h = tt
  arms_fit (default_case body others) t d o on h = arms_fit others t d (o + size_in body) on h.1
  arms_fit (send_case channel value body others) t d o on h =
      (h.0.0, (h.0.1, arms_fit others (t + parts (operand_of channel) + parts (operand_of value)) d (o + size_in body) on h.1))
  arms_fit (receive_case targets channel initial body others) t d o on h =
      (h.0, arms_fit others (t + parts (operand_of channel)) d (o + (targets_size targets + size_in body)) on h.1)

  -- the code of an if, of a for and of a range, in its parts
  module _ (a b c e : List Instruction) (h : C (a ++ b ++ c ++ e)) where
    pub code_a : C a
    code_a = first a b (first (a ++ b) c (first (a ++ b ++ c) e h))

    pub code_b : C b
    code_b = second a b (first (a ++ b) c (first (a ++ b ++ c) e h))

    pub code_c : C c
    code_c = second (a ++ b) c (first (a ++ b ++ c) e h)

    pub code_e : C e
    code_e = second (a ++ b ++ c) e h

  -- what is read of a select before its clauses
  module _ (cases : Cases) (d o on : ℕ) (h : C (code_in (case_operands cases) d o ++ Choose (arms cases d d (o + (parts_in (case_operands cases) + 1)) on) ∷ [])) where
    abbrev arms_here : List Arm
    arms_here = arms cases d d (o + (parts_in (case_operands cases) + 1)) on

    operands_left : Fs (clause_uses cases) (left_in (case_operands cases) d)
    operands_left =
        arms_fit cases d d (o + (parts_in (case_operands cases) + 1)) on (second (code_in (case_operands cases) d o) (Choose arms_here ∷ []) h).0

    operands_code : C (code_in (case_operands cases) d o)
    operands_code = first (code_in (case_operands cases) d o) (Choose arms_here ∷ []) h

    select_operands : Fs (clause_uses cases) (case_operands cases)
    select_operands =
        path_fits p usage n uses function (clause_uses cases) d o (case_operands cases) (code_in (case_operands cases) d o) (left_in (case_operands cases) d)
        (reads_all (case_operands cases) d o) operands_code operands_left

    pub select_points : (place : Place) (rest : Rest) → Cs cases → R rest → Ps (performed_points place (Select cases) (case_operands cases) rest d)
    select_points place rest k r = performed_fit p usage n uses function place (Select cases) rest k r d o (case_operands cases) operands_code operands_left

  mutual
    pub stmt_uses : (s : Stmt) (d o on : ℕ) (ways : List Way) → C (stmt_code s d o on ways) → S s
    stmt_uses (Does place act) d o on ways c = act_uses p usage n uses function place act d o on ways c
    stmt_uses (Block body) d o on ways c = stmts_uses body d o on ways c
    stmt_uses (If place init condition body otherwise) d o on ways c =
        let test = o + opening_size init in
        let start = test + (parts_in (one (operand_of condition)) + 1) in
        let last = start + size_in body in
        let action = Tests (entry (size_in body) start on) (entry (size_in otherwise) last on) in
        let is = opening_code init d o test ways in
        let js = performed (one (operand_of condition)) d test action in
        let ks = stmts_code body d start on ways in
        let ls = stmts_code otherwise d last on ways in (
          opening_uses p usage n uses function init d o test ways (code_a is js ks ls c),
          (performed_operands p usage n uses function (one (operand_of condition)) d test action (code_b is js ks ls c)).0,
          stmts_uses body d start on ways (code_c is js ks ls c),
          stmts_uses otherwise d last on ways (code_e is js ks ls c),
        )
    stmt_uses (For place init condition post body) d o on ways c =
        let test = o + opening_size init in
        let start = test + (parts_in (tested condition) + 1) in
        let after = start + size_in body in
        let again = entry (opening_size post) after test in
        let action = Tests (entry (size_in body) start again) on in
        let is = opening_code init d o test ways in
        let js = performed (tested condition) d test action in
        let ks = stmts_code body d start again (way on (Some again) ∷ ways) in
        let ls = opening_code post d after test ways in (
          opening_uses p usage n uses function init d o test ways (code_a is js ks ls c),
          tested_fits condition (performed_operands p usage n uses function (tested condition) d test action (code_b is js ks ls c)),
          opening_uses p usage n uses function post d after test ways (code_e is js ks ls c),
          stmts_uses body d start again (way on (Some again) ∷ ways) (code_c is js ks ls c),
        )
    stmt_uses (program.Range place target channel body) d o on ways c =
        let again = o + (parts_in (one (operand_of channel)) + 1) in
        let is = performed (one (operand_of channel)) d o (Ranges d again) in
        let more = second is (Perform (Turns (d + 1) (again + 1) (again + 2)) (one (Variable d))
        ∷ Perform (Assigns (target ∷ []) (entry (size_in body) (again + 3) again)) (one (Variable (d + 1)))
        ∷ Perform (GoesOn on) nothing
        ∷ stmts_code body (d + 1) (again + 3) again (way on (Some again) ∷ ways)) c in (
          (performed_operands p usage n uses function (one (operand_of channel)) d o (Ranges d again) (first is _ c)).0,
          stmts_uses body (d + 1) (again + 3) again (way on (Some again) ∷ ways) more.1.1.1,
        )
    stmt_uses (program.Select place cases) d o on ways c =
        let start = o + (parts_in (case_operands cases) + 1) in
        let is = code_in (case_operands cases) d o ++ Choose (arms cases d d start on) ∷ [] in
        let js = cases_code cases d start on (way on None ∷ ways) in
        (select_operands cases d o on (first is js c), cases_use cases d start on (way on None ∷ ways) (second is js c))

    pub stmts_uses : (ss : Stmts) (d o on : ℕ) (ways : List Way) → C (stmts_code ss d o on ways) → Ss ss
    stmts_uses stop d o on ways c = tt
    stmts_uses (then s ss) d o on ways c =
        let is = stmt_code s d o (entry (size_in ss) (o + size s) on) ways in
        let js = stmts_code ss d (o + size s) on ways in
        (stmt_uses s d o (entry (size_in ss) (o + size s) on) ways (first is js c), stmts_uses ss d (o + size s) on ways (second is js c))

    pub cases_use : (cases : Cases) (d o on : ℕ) (ways : List Way) → C (cases_code cases d o on ways) → Cs cases
    cases_use no_case d o on ways c = tt
    cases_use (default_case body others) d o on ways c =
        let is = stmts_code body d o on ways in
        let js = cases_code others d (o + size_in body) on ways in
        (stmts_uses body d o on ways (first is js c), cases_use others d (o + size_in body) on ways (second is js c))
    cases_use (send_case channel value body others) d o on ways c =
        let is = stmts_code body d o on ways in
        let js = cases_code others d (o + size_in body) on ways in
        (stmts_uses body d o on ways (first is js c), cases_use others d (o + size_in body) on ways (second is js c))
    cases_use (receive_case targets channel initial body others) d o on ways c =
        let start = o + targets_size targets in
        let ts = targets_code targets d (entry (size_in body) start on) in
        let is = stmts_code body d start on ways in
        let js = cases_code others d (o + (targets_size targets + size_in body)) on ways in (
          stmts_uses body d start on ways (second ts is (first (ts ++ is) js c)),
          cases_use others d (o + (targets_size targets + size_in body)) on ways (second (ts ++ is) js c),
        )
