-- The tests of ifs and loops, the turns of a range, and the clauses of a select.
use Rattle.std.proofs.Common.{◌≡◌, ◌≤◌, ℕ, suc, ◌+◌, [], ◌∷◌, Option, Some, None, refl, ap, ◌∙◌, subst, arith}
use Rattle.gr_scan.specs.declared.token.Place.{Place}
use Rattle.gr_base.specs.declared.values.Value.{Value}
use Rattle.gr_program.specs.Programs.{Expr, Opening, Opens, Stmt, Stmts}
use Rattle.gr_rules.specs.Operands.{Done, Variable, Operands, nothing, one}
use Rattle.gr_rules.specs.Points.{Rest, ranging, Work, Assign, GoOn, Test, Range, Turn, at, onto, turn, point_after}
use Rattle.gr_code.specs.Filling.{Temporaries, with_value, fill, fill_rest, variable_filled}
use Rattle.gr_code.specs.Instructions.{Perform, Tests, Ranges, Turns}
use Rattle.gr_code.specs.Bounds.{AllBelow, ConditionBelow, FirstBelow, EachFirstBelow}
use Rattle.gr_code.specs.Passing.{parts_in}
use Rattle.gr_code.specs.Code as code
use Rattle.gr_code.specs.Code.{Meanings, Means}
use Rattle.gr_code.proofs.Plugs.{set_it, set_other}
use Rattle.gr_code.proofs.FrameSimulation.{onto_fill}
use Rattle.gr_lower.specs.PartCode.{left_in, code_in}
use Rattle.gr_lower.specs.Sizes.{tested}
use Rattle.gr_lower.specs.StatementCode.{performed}
use Rattle.gr_lower.specs.StatementPoints.{points, performed_points}
use Rattle.gr_lower.specs.CanLower.{CanOpen}
use Rattle.gr_lower.proofs.Meant.{Leads, AreMeant, EachWithin, FitsHere, EachFits, within_second}
use Rattle.gr_lower.proofs.Rests.{Good, fill_kept, continues}
use Rattle.gr_lower.proofs.ActsFit.{finished_fits}

pub below_tested : (n : ℕ) (condition : Option Expr) → ConditionBelow n condition → AllBelow n (tested condition)
below_tested n None h = (tt, tt)
below_tested n (Some e) h = (h, tt)

pub below_turn : (n : ℕ) (post : Option Opening) (s : Stmt) → CanOpen n post → FirstBelow n s → EachFirstBelow n (turn post s)
below_turn n None s h f = (f, tt)
below_turn n (Some (Opens place act)) s h f = (h.0, (f, tt))

module _ (n m count : ℕ) (means : Meanings) where
  pub meant_performed : (place : Place) (work : Work) (es : Operands) (rest : Rest) (d o : ℕ) → AreMeant count means o (performed_points place work es rest d)
      → Leads count means o (at place work es rest)
  meant_performed place work es rest d o s =
      let e : parts_in es + 1 ≡ suc (parts_in es) = omega arith in
      (subst (λ k. AreMeant count means o (points place work rest k d es)) e s).0

  -- a test, where what follows in both cases is there
  pub test_fits : (place : Place) (holds rest : Rest) (es : Operands) (d o to on : ℕ) → n ≤ d → d ≤ m → AllBelow n es → Good n d holds → Good n d rest
      → Leads count means to (point_after holds) → Leads count means on (point_after rest)
      → AreMeant count means o (performed_points place (Test holds) es rest d) → EachWithin m (performed es d o (Tests to on))
      → EachFits n m count means (performed_points place (Test holds) es rest d) (performed es d o (Tests to on))
  test_fits place holds rest es d o to on low high below g h l k s w =
      finished_fits n m count means place (Test holds) es rest d o (Perform (Tests to on) (left_in es d)) low high below (λ ts es. refl)
      (record { in_work = λ ts x v l. ap Test (fill_kept d holds g.kept ts x v l); in_rest = λ ts x v l. fill_kept d rest h.kept ts x v l }) s w
      (λ plain b. (
        code.test place holds (left_in es d) rest to on plain
            (continues n d means (left_in es d) holds to g l.is) (continues n d means (left_in es d) rest on h k.is),
        (b, (l.within, k.within)),
      ))

  -- the start of a range, whose channel comes into the first free temporary
  pub range_fits : (place : Place) (target : Option ℕ) (body : Stmts) (rest : Rest) (es : Operands) (d o to : ℕ) → n ≤ d → d ≤ m → AllBelow n es → Good n d rest
      → Leads count means to (at place (Turn target body) (one (Variable d)) rest)
      → AreMeant count means o (performed_points place (Range target body) es rest d) → EachWithin m (performed es d o (Ranges d to))
      → EachFits n m count means (performed_points place (Range target body) es rest d) (performed es d o (Ranges d to))
  range_fits place target body rest es d o to low high below g l s w =
      let cells : d + 1 ≤ m = (within_second m (code_in es d o) (Perform (Ranges d to) (left_in es d) ∷ []) w).0 in
      finished_fits n m count means place (Range target body) es rest d o (Perform (Ranges d to) (left_in es d)) low high below (λ ts es. refl)
      (record { in_work = λ ts x v l. refl; in_rest = λ ts x v l. fill_kept d rest g.kept ts x v l }) s w
      (λ plain b. (
        code.range place target body (left_in es d) rest d to plain (λ ts c none clear.
            rw l.is (cc (ap (variable_filled d) (set_it ts d c), fill_kept d rest g.kept ts d c (omega arith)), (tt, tt))),
        (b, ((low, omega arith), l.within)),
      ))

  -- a turn of it
  pub turn_fits : (place : Place) (target : Option ℕ) (body : Stmts) (rest : Rest) (d into after : ℕ) → n ≤ d → d + 1 + 1 ≤ m → Good n d rest
      → Leads count means into (at place (Assign (target ∷ [])) (one (Variable (d + 1))) (onto body (ranging place target (Variable d) body rest)))
      → Leads count means after (at place GoOn nothing rest)
      → FitsHere n m count means (at place (Turn target body) (one (Variable d)) rest) (Perform (Turns (d + 1) into after) (one (Variable d)))
  turn_fits place target body rest d into after low high g l k = (
    code.range_turn place target body (Variable d) rest (d + 1) into after refl
        (λ ts v none clear. rw l.is (same ts v, (tt, tt)))
        (λ ts none clear. rw k.is (refl, tt)),
    ((omega arith, tt), ((omega arith, omega arith), l.within, k.within)),
  )
    where
      same : (ts : Temporaries) (v : Value)
          → at place (Assign (target ∷ [])) (one (fill (with_value ts (d + 1) v) (Variable (d + 1))))
          (fill_rest (with_value ts (d + 1) v) (onto body (ranging place target (Variable d) body rest)))
          ≡ at place (Assign (target ∷ [])) (one (Done v)) (onto body (ranging place target (fill ts (Variable d)) body (fill_rest ts rest)))
      same ts v =
          let value : with_value ts (d + 1) v (d + 1) ≡ Some v = set_it ts (d + 1) v in
          let channel : with_value ts (d + 1) v d ≡ ts d = set_other ts d (d + 1) v (omega arith) in
          let others : fill_rest (with_value ts (d + 1) v) rest ≡ fill_rest ts rest = fill_kept d rest g.kept ts (d + 1) v (omega arith) in
          let r : fill_rest (with_value ts (d + 1) v) (onto body (ranging place target (Variable d) body rest))
          ≡ onto body (ranging place target (fill (with_value ts (d + 1) v) (Variable d)) body (fill_rest (with_value ts (d + 1) v) rest)) =
          onto_fill (with_value ts (d + 1) v) body (ranging place target (Variable d) body rest) in
          ap (at place (Assign (target ∷ [])) (one (fill (with_value ts (d + 1) v) (Variable (d + 1))))) r
          ∙ (λ i. at place (Assign (target ∷ [])) (one (variable_filled (d + 1) (value i)))
          (onto body (ranging place target (variable_filled d (channel i)) body (others i))))
