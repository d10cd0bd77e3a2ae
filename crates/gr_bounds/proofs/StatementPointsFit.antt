-- The points that the instructions of statements mean are within bounds where the instructions are.
use Rattle.std.proofs.Common.{ℕ, ◌+◌, List, [], ◌∷◌, ◌++◌, Option, Some, None, refl}
use Rattle.gr_scan.specs.declared.token.Place.{Place}
use Rattle.gr_program.specs.Programs as program
use Rattle.gr_program.specs.Programs.{Expr, Opening, Stmt, Does, Block, If, For, Stmts, stop, then, Cases, no_case, default_case, send_case, receive_case, Program}
use Rattle.gr_rules.specs.Operands.{Variable, nothing, one, operand_of}
use Rattle.gr_rules.specs.Points.{Rest, looping, ranging, chosen, Test, Range, Select, Point, onto, turn, case_operands}
use Rattle.gr_code.specs.Passing.{parts_in}
use Rattle.gr_code.specs.Instructions.{Assigns, GoesOn, Tests, Ranges, Turns, Instruction, Perform, Choose}
use Rattle.gr_lower.specs.PartCode.{code_in}
use Rattle.gr_lower.specs.Sizes.{tested, opening_size, targets_size, size, size_in}
use Rattle.gr_lower.specs.StatementCode.{Way, way, entry, performed, opening_code, targets_code, arms, stmt_code, stmts_code, cases_code}
use Rattle.gr_lower.specs.StatementPoints.{performed_points, opening_points, targets_points, stmt_points, stmts_points, cases_points}
use Rattle.gr_may.specs.Uses.{Uses, Usage}
use Rattle.gr_may.specs.Demands.{StmtFits, RestFits}
use Rattle.gr_may.proofs.FitPoints.{onto_fits, turn_fits}
use Rattle.gr_bounds.proofs.PartPaths.{Code, code_first, code_second, Points, points_join}
use Rattle.gr_bounds.proofs.StatementUses.{code_a, code_b, code_c, code_e, select_points, stmt_uses, stmts_uses, cases_use}
use Rattle.gr_bounds.proofs.ActUses.{done_points, act_points_fit, opening_points_fit}

module _ (p : Program) (usage : Usage) (n : List ℕ) (uses : ℕ → Uses) (function : ℕ) where
  abbrev C : List Instruction → Type 0
  C is = Code p usage n uses function is

  abbrev Ps : List Point → Type 0
  Ps xs = Points p usage n uses function xs

  abbrev R : Rest → Type 0
  R rest = RestFits p usage n uses function rest

  first : (is js : List Instruction) → C (is ++ js) → C is
  first = code_first p usage n uses function

  second : (is js : List Instruction) → C (is ++ js) → C js
  second = code_second p usage n uses function

  join : (xs ys : List Point) → Ps xs → Ps ys → Ps (xs ++ ys)
  join = points_join p usage n uses function

  join_four : (a b c e : List Point) → Ps a → Ps b → Ps c → Ps e → Ps (a ++ b ++ c ++ e)
  join_four a b c e f g h k = join (a ++ b ++ c) e (join (a ++ b) c (join a b f g) h) k

  targets_fit : (place : Place) (targets : List (Option ℕ)) (rest : Rest) (d on : ℕ) → R rest → C (targets_code targets d on) → Ps (targets_points place targets rest d)
  targets_fit place [] rest d on r c = tt
  targets_fit place (k ∷ ks) rest d on r c = (record { operands = c.0; work = tt; rest = r }, tt)

  mutual
    pub stmt_fits : (s : Stmt) (rest : Rest) (d o on : ℕ) (ways : List Way) → R rest → C (stmt_code s d o on ways) → Ps (stmt_points s rest d)
    stmt_fits (Does place act) rest d o on ways r c = act_points_fit p usage n uses function place act rest d o on ways r c
    stmt_fits (Block body) rest d o on ways r c = stmts_fit body rest d o on ways r c
    stmt_fits (If place init condition body otherwise) rest d o on ways r c =
        let test = o + opening_size init in
        let start = test + (parts_in (one (operand_of condition)) + 1) in
        let last = start + size_in body in
        let action = Tests (entry (size_in body) start on) (entry (size_in otherwise) last on) in
        let is = opening_code init d o test ways in
        let js = performed (one (operand_of condition)) d test action in
        let ks = stmts_code body d start on ways in
        let ls = stmts_code otherwise d last on ways in
        let h = stmt_uses p usage n uses function (If place init condition body otherwise) d o on ways c in
        join_four (opening_points init (If place None condition body otherwise) rest d)
        (performed_points place (Test (onto body rest)) (one (operand_of condition)) (onto otherwise rest) d) (stmts_points body rest d) (stmts_points otherwise rest d)
        (opening_points_fit p usage n uses function init (If place None condition body otherwise) rest d o test ways (tt, h.1, h.2, h.3) r (code_a p usage n uses function is js ks ls c))
        (done_points p usage n uses function place (Test (onto body rest)) (onto otherwise rest) (one (operand_of condition)) d test action refl
        (onto_fits p usage n uses function body rest h.2 r) (onto_fits p usage n uses function otherwise rest h.3 r) (code_b p usage n uses function is js ks ls c))
        (stmts_fit body rest d start on ways r (code_c p usage n uses function is js ks ls c))
        (stmts_fit otherwise rest d last on ways r (code_e p usage n uses function is js ks ls c))
    stmt_fits (For place init condition post body) rest d o on ways r c =
        let test = o + opening_size init in
        let start = test + (parts_in (tested condition) + 1) in
        let after = start + size_in body in
        let end = entry (opening_size post) after test in
        let action = Tests (entry (size_in body) start end) on in
        let is = opening_code init d o test ways in
        let js = performed (tested condition) d test action in
        let ks = stmts_code body d start end (way on (Some end) ∷ ways) in
        let ls = opening_code post d after test ways in
        let h = stmt_uses p usage n uses function (For place init condition post body) d o on ways c in
        let again = For place None condition post body in
        let more : StmtFits p usage n uses function (For place None condition post body) = (tt, h.1, h.2, h.3) in
        let inner : R (looping (turn post (For place None condition post body)) rest) = (turn_fits p usage n uses function post again h.2 more, r) in
        join_four (opening_points init again rest d)
        (performed_points place (Test (onto body (looping (turn post again) rest))) (tested condition) rest d)
        (stmts_points body (looping (turn post again) rest) d) (opening_points post again rest d)
        (opening_points_fit p usage n uses function init again rest d o test ways more r (code_a p usage n uses function is js ks ls c))
        (done_points p usage n uses function place (Test (onto body (looping (turn post again) rest))) rest (tested condition) d test action refl
        (onto_fits p usage n uses function body (looping (turn post again) rest) h.3 inner) r (code_b p usage n uses function is js ks ls c))
        (stmts_fit body (looping (turn post again) rest) d start end (way on (Some end) ∷ ways) inner (code_c p usage n uses function is js ks ls c))
        (opening_points_fit p usage n uses function post again rest d after test ways more r (code_e p usage n uses function is js ks ls c))
    stmt_fits (program.Range place target channel body) rest d o on ways r c =
        let again = o + (parts_in (one (operand_of channel)) + 1) in
        let is = performed (one (operand_of channel)) d o (Ranges d again) in
        let more = second is (Perform (Turns (d + 1) (again + 1) (again + 2)) (one (Variable d))
        ∷ Perform (Assigns (target ∷ []) (entry (size_in body) (again + 3) again)) (one (Variable (d + 1)))
        ∷ Perform (GoesOn on) nothing
        ∷ stmts_code body (d + 1) (again + 3) again (way on (Some again) ∷ ways)) c in
        let b = stmts_uses p usage n uses function body (d + 1) (again + 3) again (way on (Some again) ∷ ways) more.1.1.1 in
        let inner : R (ranging place target (Variable d) body rest) = (more.0.0, b, r) in
        join (performed_points place (Range target body) (one (operand_of channel)) rest d) _
        (done_points p usage n uses function place (Range target body) rest (one (operand_of channel)) d o (Ranges d again) refl b r (first is _ c)) (
          record { operands = more.0; work = b; rest = r },
          (
            record { operands = more.1.0; work = tt; rest = onto_fits p usage n uses function body (ranging place target (Variable d) body rest) b inner },
            (
              record { operands = tt; work = tt; rest = r },
              stmts_fit body (ranging place target (Variable d) body rest) (d + 1) (again + 3) again (way on (Some again) ∷ ways) inner more.1.1.1,
            ),
          ),
        )
    stmt_fits (program.Select place cases) rest d o on ways r c =
        let start = o + (parts_in (case_operands cases) + 1) in
        let is = code_in (case_operands cases) d o ++ Choose (arms cases d d start on) ∷ [] in
        let js = cases_code cases d start on (way on None ∷ ways) in
        join (performed_points place (Select cases) (case_operands cases) rest d) _
        (select_points p usage n uses function cases d o on (first is js c) place rest (cases_use p usage n uses function cases d start on (way on None ∷ ways) (second is js c)) r)
        (cases_fit place 1 cases rest d start on (way on None ∷ ways) r (second is js c))

    pub stmts_fit : (ss : Stmts) (rest : Rest) (d o on : ℕ) (ways : List Way) → R rest → C (stmts_code ss d o on ways) → Ps (stmts_points ss rest d)
    stmts_fit stop rest d o on ways r c = tt
    stmts_fit (then s ss) rest d o on ways r c =
        let next = entry (size_in ss) (o + size s) on in
        let is = stmt_code s d o next ways in
        let js = stmts_code ss d (o + size s) on ways in
        let others = stmts_uses p usage n uses function ss d (o + size s) on ways (second is js c) in
        join (stmt_points s (onto ss rest) d) (stmts_points ss rest d)
        (stmt_fits s (onto ss rest) d o next ways (onto_fits p usage n uses function ss rest others r) (first is js c))
        (stmts_fit ss rest d (o + size s) on ways r (second is js c))

    cases_fit : (place : Place) (number : ℕ) (cases : Cases) (rest : Rest) (d o on : ℕ) (ways : List Way) → R rest → C (cases_code cases d o on ways)
        → Ps (cases_points place number cases rest d)
    cases_fit place number no_case rest d o on ways r c = tt
    cases_fit place number (default_case body others) rest d o on ways r c =
        let is = stmts_code body d o on ways in
        let js = cases_code others d (o + size_in body) on ways in
        join (stmts_points body (chosen number rest) d) _ (stmts_fit body (chosen number rest) d o on ways r (first is js c))
        (cases_fit place (number + 1) others rest d (o + size_in body) on ways r (second is js c))
    cases_fit place number (send_case channel value body others) rest d o on ways r c =
        let is = stmts_code body d o on ways in
        let js = cases_code others d (o + size_in body) on ways in
        join (stmts_points body (chosen number rest) d) _ (stmts_fit body (chosen number rest) d o on ways r (first is js c))
        (cases_fit place (number + 1) others rest d (o + size_in body) on ways r (second is js c))
    cases_fit place number (receive_case targets channel initial body others) rest d o on ways r c =
        let start = o + targets_size targets in
        let after = entry (size_in body) start on in
        let ts = targets_code targets d after in
        let is = stmts_code body d start on ways in
        let js = cases_code others d (o + (targets_size targets + size_in body)) on ways in
        let b = stmts_uses p usage n uses function body d start on ways (second ts is (first (ts ++ is) js c)) in
        join (targets_points place targets (onto body (chosen number rest)) d ++ stmts_points body (chosen number rest) d) _
        (join (targets_points place targets (onto body (chosen number rest)) d) (stmts_points body (chosen number rest) d)
        (targets_fit place targets (onto body (chosen number rest)) d after (onto_fits p usage n uses function body (chosen number rest) b r) (first ts is (first (ts ++ is) js c)))
        (stmts_fit body (chosen number rest) d start on ways r (second ts is (first (ts ++ is) js c))))
        (cases_fit place (number + 1) others rest d (o + (targets_size targets + size_in body)) on ways r (second (ts ++ is) js c))
