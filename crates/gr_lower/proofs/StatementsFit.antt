-- The code of statements fits the points that it means.
use Rattle.std.proofs.Common.{◌≡◌, ◌≤◌, ℕ, ◌+◌, List, [], ◌∷◌, ◌++◌, length, Option, Some, None, refl, arith}
use Rattle.gr_scan.specs.declared.token.Place.{Place}
use Rattle.gr_program.specs.Programs as program
use Rattle.gr_program.specs.Programs.{Expr, Opening, Opens, Stmt, Does, Block, If, For, Stmts, stop, then, Cases, no_case, default_case, send_case, receive_case}
use Rattle.gr_rules.specs.Operands.{Variable, Operands, nothing, one, value_of, operand_of}
use Rattle.gr_rules.specs.Points.{Rest, following, looping, ranging, chosen, Assign, GoOn, Test, Range, Turn, Select, Point, at, onto, turn, case_operands, point_after}
use Rattle.gr_code.specs.Instructions.{Arm, Instruction, Perform, Choose, Assigns, GoesOn, Tests, Ranges, Turns}
use Rattle.gr_code.specs.Bounds.{FirstBelow}
use Rattle.gr_code.specs.Passing.{parts, parts_in}
use Rattle.gr_code.specs.Code as code
use Rattle.gr_code.specs.Code.{Meanings, FitArms}
use Rattle.gr_code.specs.Programs.{AreSlotsIfAny, ArmsInBounds}
use Rattle.gr_lower.specs.Lowered.{arms_cells}
use Rattle.gr_lower.specs.PartCode.{left, left_in, code_in}
use Rattle.gr_lower.specs.Sizes.{tested, opening_size, targets_size, size, size_in}
use Rattle.gr_lower.specs.StatementCode.{Way, way, entry, performed, opening_code, into, targets_code, arms, stmt_code, stmts_code, cases_code}
use Rattle.gr_lower.specs.StatementPoints.{performed_points, opening_points, targets_points, stmt_points, stmts_points, cases_points}
use Rattle.gr_lower.specs.CanLower.{CanOpen, CanDo, CanDoAll, CanDoCases}
use Rattle.gr_lower.proofs.Meant.{Leads, AreMeant, meant_first, meant_second, EachWithin, within_first, within_second, EachFits, fits_both, first_of_four, second_of_four, third_of_four, fourth_of_four, within_four, fits_four}
use Rattle.gr_lower.proofs.Walks.{length_points}
use Rattle.gr_lower.proofs.Rests.{Good, fill_kept, kept_later, case_below, good_onto, good_before, continues}
use Rattle.gr_lower.proofs.Entries.{length_opening, length_targets, length_stmt, length_stmts, leads_in, leads_turn}
use Rattle.gr_lower.proofs.Sites.{Around, before, in_loop, in_range, in_clause, Site}
use Rattle.gr_lower.proofs.ActsFit.{finished_fits, act_fits}
use Rattle.gr_lower.proofs.LoopsFit.{below_tested, below_turn, meant_performed, test_fits, range_fits, turn_fits}
use Rattle.gr_lower.proofs.ArmsFit.{EachArmWithin, arms_within, slots_fit, clause_leads, arms_fit, targets_fit, length_clause}

module _ (n m count : ℕ) (means : Meanings) where
  -- a statement before another
  opening_fits : (o : Option Opening) (s : Stmt) (rest : Rest) (d from on : ℕ) (ways : List Way) → Site n m count means d on (following (then s stop) rest) ways
      → CanOpen n o → AreMeant count means from (opening_points o s rest d) → EachWithin m (opening_code o d from on ways)
      → EachFits n m count means (opening_points o s rest d) (opening_code o d from on ways)
  opening_fits None s rest d from on ways site h a w = tt
  opening_fits (Some (Opens place act)) s rest d from on ways site h a w = act_fits n m count means place
      (following (then s stop) rest) d from on ways site act h a w

  site_before : (d on to : ℕ) (rest : Rest) (ways : List Way) (s : Stmt) → Site n m count means d on rest ways → FirstBelow n s
      → Leads count means to (point_after (following (then s stop) rest)) → Site n m count means d to (following (then s stop) rest) ways
  site_before d on to rest ways s site h l =
      record { low = site.low; high = site.high; good = good_before n d s rest h site.good; next = l; around = before (then s stop) rest ways site.around }

  around_onto : (ss : Stmts) (rest : Rest) (ways : List Way) → Around n m count means rest ways → Around n m count means (onto ss rest) ways
  around_onto stop rest ways a = a
  around_onto (then s ss) rest ways a = before (then s ss) rest ways a

  site_in : (number d on : ℕ) (rest : Rest) (ways : List Way) → Site n m count means d on rest ways
      → Site n m count means d on (chosen number rest) (way on None ∷ ways)
  site_in number d on rest ways site = record {
    low = site.low;
    high = site.high;
    good = record { below = site.good.below; kept = site.good.kept };
    next = site.next;
    around = in_clause number rest ways on site.next site.around;
  }

  mutual
    pub stmt_fits : (s : Stmt) (rest : Rest) (d o on : ℕ) (ways : List Way) → Site n m count means d on rest ways → CanDo n s
        → AreMeant count means o (stmt_points s rest d) → EachWithin m (stmt_code s d o on ways)
        → EachFits n m count means (stmt_points s rest d) (stmt_code s d o on ways)
    stmt_fits (Does place act) rest d o on ways site h a w = act_fits n m count means place rest d o on ways site act h a w
    stmt_fits (Block body) rest d o on ways site h a w = stmts_fits body rest d o on ways site h a w
    stmt_fits (If place init condition body otherwise) rest d o on ways site h a w =
        let es : Operands = one (operand_of condition) in
        let plain : Stmt = If place None condition body otherwise in
        let i : ℕ = opening_size init in
        let k : ℕ = parts_in es + 1 in
        let j : ℕ = size_in body in
        let test : ℕ = o + i in
        let first : ℕ = test + k in
        let second : ℕ = first + j in
        let to : ℕ = entry j first on in
        let else_to : ℕ = entry (size_in otherwise) second on in
        let p : List Point = opening_points init plain rest d in
        let q : List Point = performed_points place (Test (onto body rest)) es (onto otherwise rest) d in
        let r : List Point = stmts_points body rest d in
        let t : List Point = stmts_points otherwise rest d in
        let lp : length p ≡ i = length_opening init plain rest d in
        let lq : length q ≡ k = length_points place (Test (onto body rest)) (onto otherwise rest) k d es in
        let lr : length r ≡ j = length_stmts body rest d in
        let aq : AreMeant count means test q = second_of_four count means o i k j p q r t lp lq lr a in
        let ar : AreMeant count means first r = third_of_four count means o i k j p q r t lp lq lr a in
        let at' : AreMeant count means second t = fourth_of_four count means o i k j p q r t lp lq lr a in
        let cp : List Instruction = opening_code init d o test ways in
        let cq : List Instruction = performed es d test (Tests to else_to) in
        let cr : List Instruction = stmts_code body d first on ways in
        let ct : List Instruction = stmts_code otherwise d second on ways in
        let u : EachWithin m cp × EachWithin m cq × EachWithin m cr × EachWithin m ct = within_four m cp cq cr ct w in
        fits_four n m count means p q r t cp cq cr ct
        (opening_fits init plain rest d o test ways
        (site_before d on test rest ways plain site
        (tt, h.1) (meant_performed n m count means place (Test (onto body rest)) es (onto otherwise rest) d test aq)) h.0
        (first_of_four count means o i k j p q r t lp lq lr a) u.0)
        (test_fits n m count means place (onto body rest) (onto otherwise rest) es d test to else_to site.low site.high (h.1, tt)
        (good_onto n d body rest h.2 site.good)
        (good_onto n d otherwise rest h.3 site.good) (leads_in count means body rest d first on ar site.next)
        (leads_in count means otherwise rest d second on at' site.next) aq u.1)
        (stmts_fits body rest d first on ways site h.2 ar u.2)
        (stmts_fits otherwise rest d second on ways site h.3 at' u.3)
    stmt_fits (For place init condition post body) rest d o on ways site h a w =
        let es : Operands = tested condition in
        let again : Stmt = For place None condition post body in
        let inner : Rest = looping (turn post again) rest in
        let i : ℕ = opening_size init in
        let k : ℕ = parts_in es + 1 in
        let j : ℕ = size_in body in
        let test : ℕ = o + i in
        let first : ℕ = test + k in
        let after : ℕ = first + j in
        let back : ℕ = entry (opening_size post) after test in
        let to : ℕ = entry j first back in
        let inside : List Way = way on (Some back) ∷ ways in
        let p : List Point = opening_points init again rest d in
        let q : List Point = performed_points place (Test (onto body inner)) es rest d in
        let r : List Point = stmts_points body inner d in
        let t : List Point = opening_points post again rest d in
        let lp : length p ≡ i = length_opening init again rest d in
        let lq : length q ≡ k = length_points place (Test (onto body inner)) rest k d es in
        let lr : length r ≡ j = length_stmts body inner d in
        let aq : AreMeant count means test q = second_of_four count means o i k j p q r t lp lq lr a in
        let ar : AreMeant count means first r = third_of_four count means o i k j p q r t lp lq lr a in
        let at' : AreMeant count means after t = fourth_of_four count means o i k j p q r t lp lq lr a in
        let cp : List Instruction = opening_code init d o test ways in
        let cq : List Instruction = performed es d test (Tests to on) in
        let cr : List Instruction = stmts_code body d first back inside in
        let ct : List Instruction = opening_code post d after test ways in
        let u : EachWithin m cp × EachWithin m cq × EachWithin m cr × EachWithin m ct = within_four m cp cq cr ct w in
        let tests : Leads count means test (at place (Test (onto body inner)) es rest) = meant_performed n m count means place
        (Test (onto body inner)) es rest d test aq in
        let turns : Leads count means back (point_after inner) = leads_turn count means post again
        (at place (Test (onto body inner)) es rest) rest d after test refl at' tests in
        let around : Site n m count means d test (following (then again stop) rest) ways = site_before d on test rest ways again site (tt, h.1) tests in
        let good : Good n d inner = record { below = (below_turn n post again h.2 (tt, h.1), site.good.below); kept = site.good.kept } in
        fits_four n m count means p q r t cp cq cr ct
        (opening_fits init again rest d o test ways around h.0 (first_of_four count means o i k j p q r t lp lq lr a) u.0)
        (test_fits n m count means place (onto body inner) rest es d test to on site.low site.high (below_tested n condition h.1)
        (good_onto n d body inner h.3 good) site.good
        (leads_in count means body inner d first back ar turns) site.next aq u.1)
        (stmts_fits body inner d first back inside
        (record {
          low = site.low;
          high = site.high;
          good = good;
          next = turns;
          around = in_loop
              (turn post again) rest ways on back site.next turns site.around;
        }) h.3 ar u.2)
        (opening_fits post again rest d after test ways around h.2 at' u.3)
    stmt_fits (program.Range place target channel body) rest d o on ways site h a w =
        let es : Operands = one (operand_of channel) in
        let inner : Rest = ranging place target (Variable d) body rest in
        let k : ℕ = parts_in es + 1 in
        let back : ℕ = o + k in
        let to : ℕ = entry (size_in body) (back + 3) back in
        let inside : List Way = way on (Some back) ∷ ways in
        let p : List Point = performed_points place (Range target body) es rest d in
        let turning : Point = at place (Turn target body) (one (Variable d)) rest in
        let assigning : Point = at place (Assign (target ∷ [])) (one (Variable (d + 1))) (onto body inner) in
        let leaving : Point = at place GoOn nothing rest in
        let r : List Point = stmts_points body inner (d + 1) in
        let cp : List Instruction = performed es d o (Ranges d back) in
        let turns : Instruction = Perform (Turns (d + 1) (back + 1) (back + 2)) (one (Variable d)) in
        let assigns : Instruction = Perform (Assigns (target ∷ []) to) (one (Variable (d + 1))) in
        let leaves : Instruction = Perform (GoesOn on) nothing in
        let cr : List Instruction = stmts_code body (d + 1) (back + 3) back inside in
        let ap' : AreMeant count means o p = meant_first count means o p (turning ∷ assigning ∷ leaving ∷ r) a in
        let b : AreMeant count means back (turning ∷ assigning ∷ leaving ∷ r) =
        meant_second count means o k p (turning ∷ assigning ∷ leaving ∷ r) (length_points place (Range target body) rest k d es) a in
        let second : back + 1 + 1 ≡ back + 2 = omega arith in
        let third : back + 1 + 1 + 1 ≡ back + 3 = omega arith in
        let leads : Leads count means (back + 2) leaving = rw second at b.1.1.0 in
        let ar : AreMeant count means (back + 3) r = rw third at b.1.1.1 in
        let u : EachWithin m (turns ∷ assigns ∷ leaves ∷ cr) = within_second m cp (turns ∷ assigns ∷ leaves ∷ cr) w in
        let low : n ≤ d = site.low in
        let high : d + 1 + 1 ≤ m = u.0 in
        let good : Good n (d + 1) inner =
        record { below = site.good.below; kept = (omega arith, (λ ts. tt), kept_later d (d + 1) rest (omega arith) site.good.kept) } in
        let enters : Leads count means to (point_after (onto body inner)) = leads_in count means body inner (d + 1) (back + 3) back ar b.0 in
        fits_both n m count means p (turning ∷ assigning ∷ leaving ∷ r) cp (turns ∷ assigns ∷ leaves ∷ cr)
        (range_fits n m count means place target body rest es d o back site.low site.high (h.1, tt) site.good b.0 ap'
        (within_first m cp (turns ∷ assigns ∷ leaves ∷ cr) w)) (
          turn_fits n m count means place target body rest d (back + 1) (back + 2) site.low high site.good b.1.0 leads,
          (
            (
              code.assignment place (target ∷ []) (one (Variable (d + 1))) (onto body inner) to refl
                  (continues n (d + 1) means (one (Variable (d + 1))) (onto body inner) to (good_onto n (d + 1) body inner h.2 good) enters.is),
              ((omega arith, tt), (h.0, enters.within)),
            ),
            (
              (code.going_on place nothing rest on refl (continues n d means nothing rest on site.good site.next.is), (tt, site.next.within)),
              stmts_fits body inner (d + 1) (back + 3) back inside
                  (record {
                    low = omega arith;
                    high = omega arith;
                    good = good;
                    next = b.0;
                    around = in_range place target
                        (Variable d) body rest ways on back site.next b.0 site.around;
                  })
                  h.2 ar u.1.1.1,
            ),
          ),
        )
    stmt_fits (program.Select place cases) rest d o on ways site h a w =
        let es : Operands = case_operands cases in
        let k : ℕ = parts_in es + 1 in
        let first : ℕ = o + k in
        let p : List Point = performed_points place (Select cases) es rest d in
        let q : List Point = cases_points place 1 cases rest d in
        let all : List Arm = arms cases d d first on in
        let cp : List Instruction = code_in es d o ++ Choose all ∷ [] in
        let cq : List Instruction = cases_code cases d first on (way on None ∷ ways) in
        let aq : AreMeant count means first q = meant_second count means o k p q (length_points place (Select cases) rest k d es) a in
        let u : EachWithin m cp = within_first m cp cq w in
        let cells : arms_cells 0 all ≤ m = (within_second m (code_in es d o) (Choose all ∷ []) u).0 in
        let each : EachArmWithin m all = (arms_within m 0 all cells).1 in
        fits_both n m count means p q cp cq
        (finished_fits n m count means place (Select cases) es rest d o (Choose all) site.low site.high (case_below n cases h) (λ ts es. refl)
        (record { in_work = λ ts x v l. refl; in_rest = λ ts x v l. fill_kept d rest site.good.kept ts x v l }) (meant_first count means o p q a) u
        (λ plain b.
        let f : FitArms n means place (left_in es d) rest 1 cases (left_in es d) all × ArmsInBounds n m count all =
        arms_fit n m count means place rest d on site.low site.good site.next cases 1 d first (left_in es d) h aq b each in
        (code.select place cases (left_in es d) rest all plain f.0, f.1)))
        (cases_fits cases place 1 rest d d first on ways site h aq (within_second m cp cq w) each)

    -- the bodies of clauses, the parts of whose operands have temporaries from this number on
    pub cases_fits : (cases : Cases) (place : Place) (number : ℕ) (rest : Rest) (t d o on : ℕ) (ways : List Way) → Site n m count means d on rest ways
        → CanDoCases n cases → AreMeant count means o (cases_points place number cases rest d) → EachWithin m (cases_code cases d o on (way on None ∷ ways))
        → EachArmWithin m (arms cases t d o on) → EachFits n m count means (cases_points place number cases rest d)
        (cases_code cases d o on (way on None ∷ ways))
    cases_fits no_case place number rest t d o on ways site h a w each = tt
    cases_fits (default_case body others) place number rest t d o on ways site h a w each =
        let p : List Point = stmts_points body (chosen number rest) d in
        let q : List Point = cases_points place (number + 1) others rest d in
        let k : ℕ = size_in body in
        let cp : List Instruction = stmts_code body d o on (way on None ∷ ways) in
        let cq : List Instruction = cases_code others d (o + k) on (way on None ∷ ways) in
        fits_both n m count means p q cp cq
        (stmts_fits body (chosen number rest) d o on (way on None ∷ ways) (site_in number d on rest ways site) h.0 (meant_first count means o p q a)
        (within_first m cp cq w))
        (cases_fits others place (number + 1) rest t d (o + k) on ways site h.1 (meant_second count means o k p q (length_stmts body (chosen number rest) d) a)
        (within_second m cp cq w) each.1)
    cases_fits (send_case channel value body others) place number rest t d o on ways site h a w each =
        let p : List Point = stmts_points body (chosen number rest) d in
        let q : List Point = cases_points place (number + 1) others rest d in
        let k : ℕ = size_in body in
        let cp : List Instruction = stmts_code body d o on (way on None ∷ ways) in
        let cq : List Instruction = cases_code others d (o + k) on (way on None ∷ ways) in
        fits_both n m count means p q cp cq
        (stmts_fits body (chosen number rest) d o on (way on None ∷ ways) (site_in number d on rest ways site) h.2 (meant_first count means o p q a)
        (within_first m cp cq w))
        (cases_fits others place (number + 1) rest (t + parts (operand_of channel) + parts (operand_of value)) d (o + k) on ways site h.3
        (meant_second count means o k p q (length_stmts body (chosen number rest) d) a) (within_second m cp cq w) each.1)
    cases_fits (receive_case targets channel initial body others) place number rest t d o on ways site h a w each =
        let after : Rest = onto body (chosen number rest) in
        let j : ℕ = targets_size targets in
        let k : ℕ = j + size_in body in
        let to : ℕ = entry (size_in body) (o + j) on in
        let inside : List Way = way on None ∷ ways in
        let r : List Point = targets_points place targets after d in
        let t' : List Point = stmts_points body (chosen number rest) d in
        let q : List Point = cases_points place (number + 1) others rest d in
        let cr : List Instruction = targets_code targets d to in
        let ct : List Instruction = stmts_code body d (o + j) on inside in
        let cq : List Instruction = cases_code others d (o + k) on inside in
        let here : AreMeant count means o (r ++ t') = meant_first count means o (r ++ t') q a in
        let leads : Leads count means to (point_after after) = clause_leads n m count means place rest d on site.low site.good site.next number targets body o
        here in
        let good : Good n d (chosen number rest) = record { below = site.good.below; kept = site.good.kept } in
        let slots : AreSlotsIfAny n m (into targets d) =
        slots_fit n m d (entry k o on) targets (left (operand_of channel) t) (value_of initial) site.low each.0 in
        fits_both n m count means (r ++ t') q (cr ++ ct) cq
        (fits_both n m count means r t' cr ct
        (targets_fit n m count means place rest d on site.low site.good site.next targets after o to h.0 slots
        (good_onto n d body (chosen number rest) h.2 good) leads)
        (stmts_fits body (chosen number rest) d (o + j) on inside (site_in number d on rest ways site) h.2
        (meant_second count means o j r t' (length_targets place targets after d) here) (within_second m cr ct (within_first m (cr ++ ct) cq w))))
        (cases_fits others place (number + 1) rest (t + parts (operand_of channel)) d (o + k) on ways site h.3
        (meant_second count means o k (r ++ t') q (length_clause n m count means place rest d on site.low site.good site.next number targets body) a)
        (within_second m (cr ++ ct) cq w) each.1)

    pub stmts_fits : (ss : Stmts) (rest : Rest) (d o on : ℕ) (ways : List Way) → Site n m count means d on rest ways → CanDoAll n ss
        → AreMeant count means o (stmts_points ss rest d) → EachWithin m (stmts_code ss d o on ways)
        → EachFits n m count means (stmts_points ss rest d) (stmts_code ss d o on ways)
    stmts_fits stop rest d o on ways site h a w = tt
    stmts_fits (then s ss) rest d o on ways site h a w =
        let p : List Point = stmt_points s (onto ss rest) d in
        let q : List Point = stmts_points ss rest d in
        let to : ℕ = entry (size_in ss) (o + size s) on in
        let aq : AreMeant count means (o + size s) q = meant_second count means o (size s) p q (length_stmt s (onto ss rest) d) a in
        let cp : List Instruction = stmt_code s d o to ways in
        let cq : List Instruction = stmts_code ss d (o + size s) on ways in
        let here : Site n m count means d to (onto ss rest) ways = record {
          low = site.low;
          high = site.high;
          good = good_onto n d ss rest h.1 site.good;
          next = leads_in count means ss rest d (o + size s) on aq site.next;
          around = around_onto ss rest ways site.around;
        } in
        fits_both n m count means p q cp cq (stmt_fits s (onto ss rest) d o to ways here h.0 (meant_first count means o p q a) (within_first m cp cq w))
        (stmts_fits ss rest d (o + size s) on ways site h.1 aq (within_second m cp cq w))
