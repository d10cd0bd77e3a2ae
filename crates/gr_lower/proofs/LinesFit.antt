-- The lines of statements are those of the points that their instructions mean.
use Rattle.std.proofs.Common.{◌≡◌, ℕ, zero, suc, ◌+◌, List, [], ◌∷◌, ◌++◌, map, Option, Some, None, refl, sym, ap, ◌∙◌, arith, append_assoc}
use Rattle.std.specs.Prelude.{replicate}
use Rattle.std.proofs.lemmas.List.{map-append}
use Rattle.gr_scan.specs.declared.token.Place.{Place}
use Rattle.gr_program.specs.Programs as program
use Rattle.gr_program.specs.Programs.{Act, Opening, Opens, Stmt, Does, Block, If, For, Stmts, stop, then, Cases, no_case, default_case, send_case, receive_case}
use Rattle.gr_rules.specs.Operands.{Operands, one, operand_of}
use Rattle.gr_rules.specs.Points.{Rest, following, ranging, chosen, Work, Point, onto, outside, next_turn, going_on, case_operands}
use Rattle.gr_rules.specs.Operands.{Variable}
use Rattle.gr_code.specs.Passing.{parts_in}
use Rattle.gr_lower.specs.Sizes.{tested, act_size, targets_size}
use Rattle.gr_lower.specs.StatementPoints.{plugged, points, act_points, opening_points, targets_points, stmt_points, stmts_points, cases_points}
use Rattle.gr_lower.specs.Lines.{opening_lines, stmt_lines, stmts_lines, cases_lines}

abbrev pub line_of : Point → ℕ
line_of p = p.place.line

lines_both : (a b : List Point) (i j : List ℕ) → map line_of a ≡ i → map line_of b ≡ j → map line_of (a ++ b) ≡ i ++ j
lines_both a b i j e f = map-append line_of a b ∙ cc (e, f)

lines_four : (a b c d : List Point) (i j k l : List ℕ) → map line_of a ≡ i → map line_of b ≡ j → map line_of c ≡ k → map line_of d ≡ l
    → map line_of (a ++ b ++ c ++ d) ≡ i ++ j ++ k ++ l
lines_four a b c d i j k l e f g h = lines_both (a ++ b ++ c) d (i ++ j ++ k) l (lines_both (a ++ b) c (i ++ j) k (lines_both a b i j e f) g) h

lines_points : (place : Place) (work : Work) (rest : Rest) (k d : ℕ) (es : Operands) → map line_of (points place work rest k d es) ≡ replicate k place.line
lines_points place work rest zero d es = refl
lines_points place work rest (suc k) d es = ap (λ ls. place.line ∷ ls) (lines_points place work rest k (d + 1) (plugged d es))

one_more : (k x : ℕ) → replicate k x ++ x ∷ [] ≡ replicate (suc k) x
one_more zero x = refl
one_more (suc k) x = ap (λ ls. x ∷ ls) (one_more k x)

going_line : (place : Place) (o : Option Rest) → map line_of (going_on place o ∷ []) ≡ place.line ∷ []
going_line place None = refl
going_line place (Some rest) = refl

act_lines : (place : Place) (act : Act) (rest : Rest) (d : ℕ) → map line_of (act_points place act rest d) ≡ replicate (act_size act) place.line
act_lines place (program.Assign targets values) rest d = lines_points place _ rest _ d _
act_lines place (program.AssignReceive value ok channel initial) rest d =
    let k : ℕ = parts_in (one (operand_of channel)) in
    let z : k + 2 ≡ suc (k + 1) = omega arith in
    rw z (lines_both _ _ (replicate (k + 1) place.line) (place.line ∷ []) (lines_points place _ rest (k + 1) d _) refl ∙ one_more (k + 1) place.line)
act_lines place (program.Update x op value) rest d = lines_points place _ rest _ d _
act_lines place (program.Eval value) rest d = lines_points place _ rest _ d _
act_lines place (program.Close channel) rest d = lines_points place _ rest _ d _
act_lines place (program.Print values) rest d = lines_points place _ rest _ d _
act_lines place (program.Send channel value) rest d = lines_points place _ rest _ d _
act_lines place (program.Go f arguments) rest d = lines_points place _ rest _ d _
act_lines place (program.Return value) rest d = lines_points place _ rest _ d _
act_lines place (program.Break depth) rest d = going_line place (outside depth rest)
act_lines place (program.Continue depth) rest d = going_line place (next_turn depth rest)

lines_opening : (o : Option Opening) (s : Stmt) (rest : Rest) (d : ℕ) → map line_of (opening_points o s rest d) ≡ opening_lines o
lines_opening None s rest d = refl
lines_opening (Some (Opens place act)) s rest d = act_lines place act (following (then s stop) rest) d

lines_targets : (place : Place) (targets : List (Option ℕ)) (rest : Rest) (d : ℕ)
    → map line_of (targets_points place targets rest d) ≡ replicate (targets_size targets) place.line
lines_targets place [] rest d = refl
lines_targets place (k ∷ ks) rest d = refl

three_more : (a : List ℕ) (x : ℕ) (b : List ℕ) → a ++ x ∷ x ∷ x ∷ b ≡ a ++ replicate 3 x ++ b
three_more a x b = sym (append_assoc a (replicate 3 x) b)

mutual
  lines_stmt : (s : Stmt) (rest : Rest) (d : ℕ) → map line_of (stmt_points s rest d) ≡ stmt_lines s
  lines_stmt (Does place act) rest d = act_lines place act rest d
  lines_stmt (Block body) rest d = lines_stmts body rest d
  lines_stmt (If place init condition body otherwise) rest d =
      lines_four _ _ _ _ (opening_lines init) (replicate (parts_in (one (operand_of condition)) + 1) place.line) (stmts_lines body) (stmts_lines otherwise)
      (lines_opening init _ rest d) (lines_points place _ _ _ d _) (lines_stmts body rest d) (lines_stmts otherwise rest d)
  lines_stmt (For place init condition post body) rest d =
      lines_four _ _ _ _ (opening_lines init) (replicate (parts_in (tested condition) + 1) place.line) (stmts_lines body) (opening_lines post)
      (lines_opening init _ rest d) (lines_points place _ _ _ d _) (lines_stmts body _ d) (lines_opening post _ rest d)
  lines_stmt (program.Range place target channel body) rest d =
      lines_both _ _ (replicate (parts_in (one (operand_of channel)) + 1) place.line) _ (lines_points place _ _ _ d _)
      (ap (λ ls. place.line ∷ place.line ∷ place.line ∷ ls) (lines_stmts body (ranging place target (Variable d) body rest) (d + 1)))
      ∙ three_more (replicate (parts_in (one (operand_of channel)) + 1) place.line) place.line (stmts_lines body)
  lines_stmt (program.Select place cases) rest d =
      lines_both _ _ (replicate (parts_in (case_operands cases) + 1) place.line) (cases_lines place.line cases) (lines_points place _ _ _ d _)
      (lines_cases place 1 cases rest d)

  pub lines_stmts : (ss : Stmts) (rest : Rest) (d : ℕ) → map line_of (stmts_points ss rest d) ≡ stmts_lines ss
  lines_stmts stop rest d = refl
  lines_stmts (then s ss) rest d = lines_both _ _ (stmt_lines s) (stmts_lines ss) (lines_stmt s (onto ss rest) d) (lines_stmts ss rest d)

  lines_cases : (place : Place) (number : ℕ) (cases : Cases) (rest : Rest) (d : ℕ)
      → map line_of (cases_points place number cases rest d) ≡ cases_lines place.line cases
  lines_cases place number no_case rest d = refl
  lines_cases place number (default_case body others) rest d =
      lines_both _ _ (stmts_lines body) (cases_lines place.line others) (lines_stmts body (chosen number rest) d) (lines_cases place (number + 1) others rest d)
  lines_cases place number (send_case channel value body others) rest d =
      lines_both _ _ (stmts_lines body) (cases_lines place.line others) (lines_stmts body (chosen number rest) d) (lines_cases place (number + 1) others rest d)
  lines_cases place number (receive_case targets channel initial body others) rest d =
      lines_both _ _ (replicate (targets_size targets) place.line ++ stmts_lines body) (cases_lines place.line others)
      (lines_both _ _ (replicate (targets_size targets) place.line) (stmts_lines body) (lines_targets place targets _ d)
      (lines_stmts body (chosen number rest) d))
      (lines_cases place (number + 1) others rest d)
