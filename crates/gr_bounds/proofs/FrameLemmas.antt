-- A frame of code is within bounds where its instructions are, from the first of a statement of its function on.
use Rattle.std.proofs.Common.{◌≡◌, ◌≤◌, ℕ, zero, suc, ◌+◌, ◌-◌, nat_lt, List, [], ◌∷◌, ◌++◌, take, length, Option, Some, None, refl, sym, ◌∙◌, ap, subst, arith, append_assoc, length-append, inl, inr}
use Rattle.std.specs.Prelude.{slice_get, unwrap_or}
use Rattle.std.proofs.lemmas.Bool.{cases_Bool}
use Rattle.std.proofs.lemmas.Option.{none-some}
use Rattle.gr_scan.specs.declared.token.Place.{Place}
use Rattle.gr_base.specs.declared.values.Value.{Value}
use Rattle.gr_program.specs.Programs.{Stmts, stop, then, joined, Program}
use Rattle.gr_rules.specs.Evaluation.{Variables}
use Rattle.gr_rules.specs.Points.{Rest, closing, Point}
use Rattle.gr_rules.specs.Operands.{nothing}
use Rattle.gr_code.specs.Instructions.{Instruction, Perform, Returns}
use Rattle.gr_code.specs.Vectors.{value_at, temporaries_in}
use Rattle.gr_lower.specs.Sizes.{size, size_in}
use Rattle.gr_lower.specs.StatementCode.{Way, entry, stmt_code, stmts_code}
use Rattle.gr_lower.specs.StatementPoints.{stmt_points, stmts_points}
use Rattle.gr_lower.specs.Lowered.{body_code, end_of, body_points}
use Rattle.gr_lower.proofs.CodeSizes.{size_of_stmt}
use Rattle.gr_lower.proofs.Entries.{length_stmt}
use Rattle.gr_rules.specs.Points.{onto}
use Rattle.gr_may.specs.Uses.{Uses, Usage}
use Rattle.gr_may.specs.Demands.{StmtsFit, PointFits}
use Rattle.gr_bounds.specs.CodeUses.{InstructionFits}
use Rattle.gr_bounds.proofs.PartPaths.{Code, code_first, Points, points_join}
use Rattle.gr_bounds.proofs.StatementUses.{stmts_uses}
use Rattle.gr_bounds.proofs.StatementPointsFit.{stmts_fit}

-- of two lists, one after the other, the second
second_at : {X : Type 0} (a b : List X) (i j : ℕ) → j ≡ length a + i → slice_get (a ++ b) j ≡ slice_get b i
second_at [] b i j e = let same : j ≡ i = omega (arith, e) in ap (slice_get b) same
second_at (x ∷ a) b i zero e = absurd (omega arith)
second_at (x ∷ a) b i (suc j) e = second_at a b i j (omega arith)

-- the code of statements, and after it that of others
pub record CodeParts (front back : Stmts) (d on : ℕ) (ways : List Way) (is : List Instruction) : Type 0 where
  pub before : List Instruction
  pub o : ℕ
  pub long : length before ≡ size_in front
  pub split : is ≡ before ++ stmts_code back d o on ways

code_parts : (front back : Stmts) (d o on : ℕ) (ways : List Way) → CodeParts front back d on ways (stmts_code (joined front back) d o on ways)
code_parts stop back d o on ways = record { before = []; o = o; long = refl; split = refl }
code_parts (then s ss) back d o on ways =
    let next = entry (size_in (joined ss back)) (o + size s) on in
    let h = code_parts ss back d (o + size s) on ways in record {
      before = stmt_code s d o next ways ++ h.before;
      o = h.o;
      long = let a = length-append (stmt_code s d o next ways) h.before in let b = size_of_stmt s d o next ways in let c = h.long in omega (arith, a, b, c);
      split = ap (λ is. stmt_code s d o next ways ++ is) h.split ∙ sym (append_assoc (stmt_code s d o next ways) h.before (stmts_code back d h.o on ways));
    }

record PointParts (front back : Stmts) (rest : Rest) (d : ℕ) (ps : List Point) : Type 0 where
  before : List Point
  long : length before ≡ size_in front
  split : ps ≡ before ++ stmts_points back rest d

point_parts : (front back : Stmts) (rest : Rest) (d : ℕ) → PointParts front back rest d (stmts_points (joined front back) rest d)
point_parts stop back rest d = record { before = []; long = refl; split = refl }
point_parts (then s ss) back rest d =
    let first = stmt_points s (onto (joined ss back) rest) d in
    let h = point_parts ss back rest d in record {
      before = first ++ h.before;
      long = let a = length-append first h.before in let b = length_stmt s (onto (joined ss back) rest) d in let c = h.long in omega (arith, a, b, c);
      split = ap (λ ps. first ++ ps) h.split ∙ sym (append_assoc first h.before (stmts_points back rest d));
    }

module _ (p : Program) (usage : Usage) (n : List ℕ) (uses : ℕ → Uses) (function : ℕ) where
  -- each instruction from a number on
  abbrev pub EachFrom : ℕ → List Instruction → Type 0
  EachFrom start is = (i : ℕ) (x : Instruction) → start ≤ i → slice_get is i ≡ Some x → InstructionFits p usage n uses function x

  each_fits : (is : List Instruction) → ((i : ℕ) (x : Instruction) → slice_get is i ≡ Some x → InstructionFits p usage n uses function x)
      → Code p usage n uses function is
  each_fits [] h = tt
  each_fits (i ∷ is) h = (h 0 i refl, each_fits is (λ j x e. h (suc j) x e))

  code_from : (before after : List Instruction) (start : ℕ) → length before ≡ start → EachFrom start (before ++ after) → Code p usage n uses function after
  code_from before after start e h = each_fits after (λ i x at.
      h (length before + i) x (omega arith) (second_at before after i (length before + i) refl ∙ at))

  point_at : (ps : List Point) (i : ℕ) (other : Point) → Points p usage n uses function ps → PointFits p usage n uses function other
      → PointFits p usage n uses function (unwrap_or (slice_get ps i) other)
  point_at [] i other h k = k
  point_at (q ∷ ps) zero other h k = h.0
  point_at (q ∷ ps) (suc i) other h k = point_at ps i other h.1 k

  ends : (last : Place) → PointFits p usage n uses function (end_of last)
  ends last = record { operands = tt; work = tt; rest = tt }

  module _ (front back : Stmts) (last : Place) (d : ℕ) (each : EachFrom (size_in front) (body_code d (joined front back))) where
    rest_of_code : (c : CodeParts front back d (size_in (joined front back)) [] (stmts_code (joined front back) d 0 (size_in (joined front back)) []))
        → Code p usage n uses function (stmts_code back d c.o (size_in (joined front back)) [])
    rest_of_code c =
        let back_code = stmts_code back d c.o (size_in (joined front back)) [] in
        let whole : body_code d (joined front back) ≡ c.before ++ (back_code ++ Perform Returns nothing ∷ []) =
        ap (λ is. is ++ Perform Returns nothing ∷ []) c.split ∙ append_assoc c.before back_code (Perform Returns nothing ∷ []) in
        code_first p usage n uses function back_code (Perform Returns nothing ∷ [])
        (code_from c.before (back_code ++ Perform Returns nothing ∷ []) (size_in front) c.long (subst (EachFrom (size_in front)) whole each))

    pub points_from : (on : ℕ) → size_in front ≤ on
        → PointFits p usage n uses function (unwrap_or (slice_get (body_points d (joined front back) last) on) (end_of last))
    points_from on after =
        let c = code_parts front back d 0 (size_in (joined front back)) [] in
        let q = point_parts front back (closing last) d in
        let back_points = stmts_points back (closing last) d in
        let all = stmts_fit p usage n uses function back (closing last) d c.o (size_in (joined front back)) [] tt (rest_of_code c) in
        let whole : body_points d (joined front back) last ≡ q.before ++ (back_points ++ end_of last ∷ []) =
        ap (λ ps. ps ++ end_of last ∷ []) q.split ∙ append_assoc q.before back_points (end_of last ∷ []) in
        let i = on - length q.before in
        let place : on ≡ length q.before + (on - length q.before) = let l = q.long in omega arith in
        let there : slice_get (body_points d (joined front back) last) on ≡ slice_get (back_points ++ end_of last ∷ []) i =
        ap (λ ps. slice_get ps on) whole ∙ second_at q.before (back_points ++ end_of last ∷ []) i on place in
        subst (λ o. PointFits p usage n uses function (unwrap_or o (end_of last))) (sym there)
        (point_at (back_points ++ end_of last ∷ []) i (end_of last) (points_join p usage n uses function back_points (end_of last ∷ []) all (ends last, tt)) (ends last))

  -- the statements of a function, by all its instructions
  pub body_uses : (body : Stmts) (d : ℕ) → EachFrom 0 (body_code d body) → StmtsFit p usage n uses function body
  body_uses body d each =
      stmts_uses p usage n uses function body d 0 (size_in body) [] (code_first p usage n uses function _ (Perform Returns nothing ∷ [])
      (each_fits (body_code d body) (λ i x at. each i x (omega arith) at)))

-- what variables and temporaries hold, the cells hold
pub in_cells : (k : ℕ) (cells : Variables) (x : ℕ) (v : Value) → slice_get (take k cells) x ≡ Some (Some v) → slice_get cells x ≡ Some (Some v)
in_cells zero cells x v e = absurd (none-some _ e)
in_cells (suc k) [] x v e = absurd (none-some _ e)
in_cells (suc k) (c ∷ cs) zero v e = e
in_cells (suc k) (c ∷ cs) (suc x) v e = in_cells k cs x v e

pub in_slots : (k : ℕ) (cells : Variables) (x : ℕ) (v : Value) → temporaries_in k cells x ≡ Some v → slice_get cells x ≡ Some (Some v)
in_slots k cells x v e = elim (cases_Bool (nat_lt x k)) [
  | inl t ↦ absurd (none-some _ (rw t at e))
  | inr t ↦ by_cell (slice_get cells x) (rw t at e)
]
  where
    by_cell : (o : Option (Option Value)) → value_at o ≡ Some v → o ≡ Some (Some v)
    by_cell None e = absurd (none-some _ e)
    by_cell (Some None) e = absurd (none-some _ e)
    by_cell (Some (Some u)) e = ap Some e
