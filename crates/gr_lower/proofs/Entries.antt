-- How many points statements have, and that the first of them is where the statements begin.
use Rattle.std.proofs.Common.{◌≡◌, ℕ, suc, ◌+◌, List, [], ◌∷◌, ◌++◌, length, Option, Some, None, refl, sym, ap, ◌∙◌, subst, arith, length-append}
use Rattle.std.specs.Prelude.{unwrap_or}
use Rattle.std.specs.Option.{option_or}
use Rattle.gr_scan.specs.declared.token.Place.{Place}
use Rattle.gr_program.specs.Programs as program
use Rattle.gr_program.specs.Programs.{Expr, Act, Opening, Opens, Stmt, Does, Block, If, For, Stmts, stop, then, Cases, no_case, default_case, send_case, receive_case}
use Rattle.gr_rules.specs.Operands.{Operand, Receive, Call, Operands, one, operand_of}
use Rattle.gr_rules.specs.Points.{Rest, following, looping, chosen, Work, Eval, Point, at, onto, act_at, opened, turn, case_operands, first_of, first_in, point_after}
use Rattle.gr_code.specs.Passing.{parts, parts_in}
use Rattle.gr_code.specs.Code.{Meanings}
use Rattle.gr_lower.specs.Sizes.{whole_size, tested, act_size, opening_size, targets_size, size, size_in, size_among}
use Rattle.gr_lower.specs.StatementCode.{entry}
use Rattle.gr_lower.specs.StatementPoints.{points, performed_points, act_points, opening_points, targets_points, stmt_points, stmts_points, cases_points}
use Rattle.gr_lower.proofs.Walks.{length_points}
use Rattle.gr_lower.proofs.Meant.{Leads, AreMeant}

length_both : (a b : List Point) (i j : ℕ) → length a ≡ i → length b ≡ j → length (a ++ b) ≡ i + j
length_both a b i j e f = length-append a b ∙ cc (e, f)

length_four : (a b c d : List Point) (i j k l : ℕ) → length a ≡ i → length b ≡ j → length c ≡ k → length d ≡ l → length (a ++ b ++ c ++ d) ≡ i + j + k + l
length_four a b c d i j k l e f g h =
    length_both (a ++ b ++ c) d (i + j + k) l (length_both (a ++ b) c (i + j) k (length_both a b i j e f) g) h

length_three_more : (a d : List Point) (p q r : Point) (i l : ℕ) → length a ≡ i → length d ≡ l → length (a ++ p ∷ q ∷ r ∷ d) ≡ i + 3 + l
length_three_more a d p q r i l e f = let x : length (a ++ p ∷ q ∷ r ∷ d) ≡ i + suc (suc (suc (length d))) = length_both a (p ∷ q ∷ r ∷ d) i
    (suc (suc (suc (length d)))) e refl in omega arith

twice : (k : ℕ) → k + 1 + 1 ≡ k + 2
twice k = omega arith

pub length_act : (place : Place) (act : Act) (rest : Rest) (d : ℕ) → length (act_points place act rest d) ≡ act_size act
length_act place (program.Assign targets values) rest d = length_points place _ rest _ d _
length_act place (program.AssignReceive value ok channel initial) rest d =
    length_both _ _ (parts_in (one (operand_of channel)) + 1) 1 (length_points place _ rest _ d _) refl ∙ twice (parts_in (one (operand_of channel)))
length_act place (program.Update x op value) rest d = length_points place _ rest _ d _
length_act place (program.Eval value) rest d = length_points place _ rest _ d _
length_act place (program.Close channel) rest d = length_points place _ rest _ d _
length_act place (program.Print values) rest d = length_points place _ rest _ d _
length_act place (program.Send channel value) rest d = length_points place _ rest _ d _
length_act place (program.Go f arguments) rest d = length_points place _ rest _ d _
length_act place (program.Return value) rest d = length_points place _ rest _ d _
length_act place (program.Break depth) rest d = refl
length_act place (program.Continue depth) rest d = refl

pub length_opening : (o : Option Opening) (s : Stmt) (rest : Rest) (d : ℕ) → length (opening_points o s rest d) ≡ opening_size o
length_opening None s rest d = refl
length_opening (Some (Opens place act)) s rest d = length_act place act (following (then s stop) rest) d

pub length_targets : (place : Place) (targets : List (Option ℕ)) (rest : Rest) (d : ℕ) → length (targets_points place targets rest d) ≡ targets_size targets
length_targets place [] rest d = refl
length_targets place (k ∷ ks) rest d = refl

mutual
  pub length_stmt : (s : Stmt) (rest : Rest) (d : ℕ) → length (stmt_points s rest d) ≡ size s
  length_stmt (Does place act) rest d = length_act place act rest d
  length_stmt (Block body) rest d = length_stmts body rest d
  length_stmt (If place init condition body otherwise) rest d =
      length_four _ _ _ _ (opening_size init) (parts_in (one (operand_of condition)) + 1) (size_in body) (size_in otherwise)
      (length_opening init _ rest d) (length_points place _ _ _ d _) (length_stmts body rest d) (length_stmts otherwise rest d)
  length_stmt (For place init condition post body) rest d =
      length_four _ _ _ _ (opening_size init) (parts_in (tested condition) + 1) (size_in body) (opening_size post)
      (length_opening init _ rest d) (length_points place _ _ _ d _) (length_stmts body _ d) (length_opening post _ rest d)
  length_stmt (program.Range place target channel body) rest d =
      length_three_more _ _ _ _ _ (parts_in (one (operand_of channel)) + 1) (size_in body) (length_points place _ _ _ d _) (length_stmts body _ (d + 1))
  length_stmt (program.Select place cases) rest d =
      length_both _ _ (parts_in (case_operands cases) + 1) (size_among cases) (length_points place _ _ _ d _) (length_cases place 1 cases rest d)

  pub length_stmts : (ss : Stmts) (rest : Rest) (d : ℕ) → length (stmts_points ss rest d) ≡ size_in ss
  length_stmts stop rest d = refl
  length_stmts (then s ss) rest d = length_both _ _ (size s) (size_in ss) (length_stmt s (onto ss rest) d) (length_stmts ss rest d)

  pub length_cases : (place : Place) (number : ℕ) (cases : Cases) (rest : Rest) (d : ℕ) → length (cases_points place number cases rest d) ≡ size_among cases
  length_cases place number no_case rest d = refl
  length_cases place number (default_case body others) rest d =
      length_both _ _ (size_in body) (size_among others) (length_stmts body (chosen number rest) d) (length_cases place (number + 1) others rest d)
  length_cases place number (send_case channel value body others) rest d =
      length_both _ _ (size_in body) (size_among others) (length_stmts body (chosen number rest) d) (length_cases place (number + 1) others rest d)
  length_cases place number (receive_case targets channel initial body others) rest d =
      length_both _ _ (targets_size targets + size_in body) (size_among others)
      (length_both _ _ (targets_size targets) (size_in body) (length_targets place targets _ d) (length_stmts body (chosen number rest) d))
      (length_cases place (number + 1) others rest d)

-- the first of some points
abbrev pub first_of_all : List Point → Option Point
first_of_all [] = None
first_of_all (p ∷ ps) = Some p

first_both : (a b : List Point) → first_of_all (a ++ b) ≡ option_or (first_of_all a) (first_of_all b)
first_both [] b = refl
first_both (p ∷ a) b = refl

first_more : (a b : List Point) (p : Point) → first_of_all a ≡ Some p → first_of_all (a ++ b) ≡ Some p
first_more a b p e = first_both a b ∙ ap (λ o. option_or o (first_of_all b)) e

first_points : (place : Place) (work : Work) (rest : Rest) (k j d : ℕ) (es : Operands) → k ≡ suc j
    → first_of_all (points place work rest k d es) ≡ Some (at place work es rest)
first_points place work rest k j d es e = ap (λ k. first_of_all (points place work rest k d es)) e

performed_first : (place : Place) (work : Work) (es : Operands) (rest : Rest) (d : ℕ)
    → first_of_all (performed_points place work es rest d) ≡ Some (at place work es rest)
performed_first place work es rest d = first_points place work rest (parts_in es + 1) (parts_in es) d es (omega arith)

whole_some : (e : Operand) → (j : ℕ) × (whole_size e ≡ suc j)
whole_some (Call f arguments) = (parts_in arguments, omega arith)
whole_some (Receive c initial) = (parts c, omega arith)
whole_some e = (parts e, let z : parts e + 1 ≡ suc (parts e) = omega arith in z)

pub act_first : (place : Place) (act : Act) (rest : Rest) (d : ℕ) → first_of_all (act_points place act rest d) ≡ Some (act_at place act rest)
act_first place (program.Assign targets values) rest d = performed_first place _ _ rest d
act_first place (program.AssignReceive value ok channel initial) rest d = first_more _ _ _ (performed_first place _ _ rest d)
act_first place (program.Update x op value) rest d = performed_first place _ _ rest d
act_first place (program.Eval value) rest d = let w : (j : ℕ) × (whole_size (operand_of value) ≡ suc j) = whole_some
    (operand_of value) in first_points place Eval rest _ w.0 d _ w.1
act_first place (program.Close channel) rest d = performed_first place _ _ rest d
act_first place (program.Print values) rest d = performed_first place _ _ rest d
act_first place (program.Send channel value) rest d = performed_first place _ _ rest d
act_first place (program.Go f arguments) rest d = performed_first place _ _ rest d
act_first place (program.Return value) rest d = performed_first place _ _ rest d
act_first place (program.Break depth) rest d = refl
act_first place (program.Continue depth) rest d = refl

opened_first : (init : Option Opening) (s : Stmt) (p : Point) (rest : Rest) (d : ℕ) (a b c : List Point) → first_of_all a ≡ Some p
    → Some (opened init s p rest) ≡ first_of_all (opening_points init s rest d ++ a ++ b ++ c)
opened_first None s p rest d a b c e = sym (first_more (a ++ b) c p (first_more a b p e))
opened_first (Some (Opens place act)) s p rest d a b c e =
    let here : List Point = act_points place act (following (then s stop) rest) d in
    let q : Point = act_at place act (following (then s stop) rest) in
    sym (first_more (here ++ a ++ b) c q (first_more (here ++ a) b q (first_more here a q (act_first place act (following (then s stop) rest) d))))

mutual
  pub stmt_first : (s : Stmt) (rest : Rest) (d : ℕ) → first_of s rest ≡ first_of_all (stmt_points s rest d)
  stmt_first (Does place act) rest d = sym (act_first place act rest d)
  stmt_first (Block body) rest d = stmts_first body rest d
  stmt_first (If place init condition body otherwise) rest d =
      opened_first init _ _ rest d _ (stmts_points body rest d) (stmts_points otherwise rest d) (performed_first place _ _ _ d)
  stmt_first (For place init condition post body) rest d =
      let again : Stmt = For place None condition post body in
      opened_first init _ _ rest d _ (stmts_points body (looping (turn post again) rest) d) (opening_points post again rest d) (performed_first place _ _ _ d)
  stmt_first (program.Range place target channel body) rest d = sym (first_more _ _ _ (performed_first place _ _ _ d))
  stmt_first (program.Select place cases) rest d = sym (first_more _ _ _ (performed_first place _ _ _ d))

  pub stmts_first : (ss : Stmts) (rest : Rest) (d : ℕ) → first_in ss rest ≡ first_of_all (stmts_points ss rest d)
  stmts_first stop rest d = refl
  stmts_first (then s ss) rest d =
      ap (λ o. option_or o (first_in ss rest)) (stmt_first s (onto ss rest) d)
      ∙ ap (option_or (first_of_all (stmt_points s (onto ss rest) d))) (stmts_first ss rest d)
      ∙ sym (first_both (stmt_points s (onto ss rest) d) (stmts_points ss rest d))

after_onto : (ss : Stmts) (rest : Rest) → point_after (onto ss rest) ≡ unwrap_or (first_in ss rest) (point_after rest)
after_onto stop rest = refl
after_onto (then s ss) rest = refl

module _ (count : ℕ) (means : Meanings) where
  pub leads_list : (ps : List Point) (k o on : ℕ) (q : Point) → length ps ≡ k → AreMeant count means o ps → Leads count means on q
      → Leads count means (entry k o on) (unwrap_or (first_of_all ps) q)
  leads_list [] k o on q e s l = subst (λ k. Leads count means (entry k o on) q) e l
  leads_list (p ∷ ps) k o on q e s l = subst (λ k. Leads count means (entry k o on) p) e s.0

  -- statements, or where there are none what comes after them
  pub leads_in : (ss : Stmts) (rest : Rest) (d o on : ℕ) → AreMeant count means o (stmts_points ss rest d) → Leads count means on (point_after rest)
      → Leads count means (entry (size_in ss) o on) (point_after (onto ss rest))
  leads_in ss rest d o on s l =
      subst (λ p. Leads count means (entry (size_in ss) o on) p) (sym (after_onto ss rest ∙ ap (λ o. unwrap_or o (point_after rest)) (stmts_first ss rest d)))
      (leads_list (stmts_points ss rest d) (size_in ss) o on (point_after rest) (length_stmts ss rest d) s l)

  -- the next turn of a loop
  pub leads_turn : (post : Option Opening) (s : Stmt) (p : Point) (rest : Rest) (d o on : ℕ) → first_of s rest ≡ Some p
      → AreMeant count means o (opening_points post s rest d) → Leads count means on p
      → Leads count means (entry (opening_size post) o on) (point_after (looping (turn post s) rest))
  leads_turn None s p rest d o on e s' l = subst (λ f. Leads count means on (unwrap_or (option_or f None) (point_after rest))) (sym e) l
  leads_turn (Some (Opens place act)) s p rest d o on e s' l =
      let z : unwrap_or (first_of_all (act_points place act (following (then s stop) rest) d)) p ≡ act_at place act (following (then s stop) rest) =
      ap (λ o. unwrap_or o p) (act_first place act (following (then s stop) rest) d) in
      subst (λ p. Leads count means (entry (act_size act) o on) p) z
      (leads_list (act_points place act (following (then s stop) rest) d) (act_size act) o on p (length_act place act (following (then s stop) rest) d) s' l)
