-- The code of functions and programs fits the points that it means.
use Rattle.std.proofs.Common.{◌≡◌, ◌≤◌, ◌<◌, ℕ, zero, suc, ◌+◌, List, [], ◌∷◌, ◌++◌, length, map, Option, Some, None, refl, sym, ap, ◌∙◌, subst, arith, length-append}
use Rattle.std.specs.Prelude.{max, slice_get, unwrap_or}
use Rattle.std.specs.Option.{option_map, option_map_or}
use Rattle.std.proofs.lemmas.List.{map-append, length-map}
use Rattle.std.proofs.lemmas.Option.{slice_get-map}
use Rattle.gr_scan.specs.declared.token.Place.{Place}
use Rattle.gr_program.specs.Programs.{Stmts, Function, FunctionIs, Program, ProgramIs}
use Rattle.gr_rules.specs.Operands.{nothing}
use Rattle.gr_rules.specs.Points.{closing, Point, onto, point_after}
use Rattle.gr_code.specs.Filling.{Temporaries, ClearAll}
use Rattle.gr_code.specs.Instructions.{Instruction, Perform, Returns}
use Rattle.gr_code.specs.Bounds.{nowhere}
use Rattle.gr_code.specs.Code as code
use Rattle.gr_code.specs.Code.{Meanings, Fits, IsCode}
use Rattle.gr_code.specs.Programs.{InBounds, FunctionFits, ProgramFits}
use Rattle.gr_lower.specs.Sizes.{size_in}
use Rattle.gr_lower.specs.StatementCode.{entry, stmts_code}
use Rattle.gr_lower.specs.StatementPoints.{stmts_points}
use Rattle.gr_lower.specs.Lowered.{cells_for, cells_of, body_code, end_of, body_points, body_lines, lowered_function, lowered, function_meaning, meaning}
use Rattle.gr_lower.specs.CanLower.{CanDoAll, CanLowerFunction, CanLowerAll, CanLower}
use Rattle.gr_lower.proofs.Meant.{Leads, AreMeant, meant_first, meant_second, EachWithin, within_first, FitsHere, EachFits, fits_both}
use Rattle.gr_lower.proofs.Rests.{Good, good_onto, clear_after}
use Rattle.gr_lower.proofs.Entries.{length_stmts, leads_in}
use Rattle.gr_lower.proofs.Sites.{outermost, Site}
use Rattle.gr_lower.proofs.LinesFit.{line_of, lines_stmts}
use Rattle.gr_lower.proofs.StatementsFit.{stmts_fits}

cells_within : (m n : ℕ) (is : List Instruction) → cells_of n is ≤ m → (n ≤ m) × EachWithin m is
cells_within m n [] h = (h, tt)
cells_within m n (i ∷ is) h =
    let t : (max n (cells_for i) ≤ m) × EachWithin m is = cells_within m (max n (cells_for i)) is h in
    let l : max n (cells_for i) ≤ m = t.0 in
    (omega arith, (omega arith, t.1))

-- numbers mean the points of a list
module _ (all : List Point) (end : Point) where
  abbrev in_list : Meanings
  in_list = λ on. unwrap_or (slice_get all on) end

  meant_in : (o : ℕ) (ps : List Point) → o + length ps ≡ length all → ((j : ℕ) → slice_get all (o + j) ≡ slice_get ps j) → AreMeant (length all) in_list o ps
  meant_in o [] e s = tt
  meant_in o (p ∷ ps) e s =
      let z : o + 0 ≡ o = omega arith in
      let here : slice_get all o ≡ Some p = rw z at (s 0) in
      let later : (j : ℕ) → slice_get all (o + 1 + j) ≡ slice_get ps j = λ j. let y : o + suc j ≡ o + 1 + j = omega arith in rw y at (s (suc j)) in
      (record { is = ap (λ x. unwrap_or x end) here; within = omega arith }, meant_in (o + 1) ps (omega arith) later)

  all_meant : AreMeant (length all) in_list 0 all
  all_meant = meant_in 0 all (omega arith) (λ j. let z : 0 + j ≡ j = omega arith in ap (slice_get all) z)

  in_list_at : (k : ℕ) (p : Point) → slice_get all k ≡ Some p → in_list k ≡ p
  in_list_at k p e = ap (λ x. unwrap_or x end) e

module _ (n m count : ℕ) (means : Meanings) where
  record Meets (p : Option Point) (i : Instruction) : Type 0 where
    pub point : Point
    pub is : p ≡ Some point
    pub fits : FitsHere n m count means point i

  meets : (ps : List Point) (is : List Instruction) (k : ℕ) (i : Instruction) → EachFits n m count means ps is → slice_get is k ≡ Some i
      → Meets (slice_get ps k) i
  meets [] [] k i f e = absurd (let z : None ≡ Some i = e in cc)
  meets (p ∷ ps) (i' ∷ is) zero i f e = let z : i' ≡ i = cc in record { point = p; is = refl; fits = subst (λ i. FitsHere n m count means p i) z f.0 }
  meets (p ∷ ps) (i' ∷ is) (suc k) i f e = meets ps is k i f.1 e
  meets [] (i' ∷ is) k i f e = absurd f
  meets (p ∷ ps) [] k i f e = absurd f

  same_length : (ps : List Point) (is : List Instruction) → EachFits n m count means ps is → length ps ≡ length is
  same_length [] [] f = refl
  same_length (p ∷ ps) (i ∷ is) f = ap (λ k. suc k) (same_length ps is f.1)
  same_length [] (i ∷ is) f = absurd f
  same_length (p ∷ ps) [] f = absurd f

some_line : (ps : List Point) (end : Point) (k : ℕ) → k < length ps → slice_get (map line_of ps) k ≡ Some (line_of (unwrap_or (slice_get ps k) end))
some_line [] end k l = absurd (omega arith)
some_line (p ∷ ps) end zero l = refl
some_line (p ∷ ps) end (suc k) l = some_line ps end k (omega arith)

entry_zero : (k : ℕ) → entry k 0 k ≡ 0
entry_zero zero = refl
entry_zero (suc k) = refl

module _ (n : ℕ) (body : Stmts) (last : Place) (can : CanDoAll n body) where
  abbrev all : List Point
  all = body_points n body last

  abbrev m : ℕ
  m = cells_of n (body_code n body)

  abbrev count : ℕ
  count = length all

  abbrev means : Meanings
  means = in_list all (end_of last)

  within : (n ≤ m) × EachWithin m (body_code n body)
  within = cells_within m n (body_code n body) (omega arith)

  body_meant : AreMeant count means 0 (stmts_points body (closing last) n)
  body_meant = meant_first count means 0 (stmts_points body (closing last) n) (end_of last ∷ []) (all_meant all (end_of last))

  ends : Leads count means (size_in body) (point_after (closing last))
  ends =
      let z : 0 + size_in body ≡ size_in body = omega arith in
      rw z at ((meant_second count means 0 (size_in body) (stmts_points body (closing last) n) (end_of last ∷ []) (length_stmts body (closing last) n)
      (all_meant all (end_of last))).0)

  good : Good n n (closing last)
  good = record { below = tt; kept = tt }

  site : Site n m count means n (size_in body) (closing last) []
  site = record { low = omega arith; high = within.0; good = good; next = ends; around = outermost last }

  fit : EachFits n m count means all (body_code n body)
  fit = fits_both n m count means (stmts_points body (closing last) n) (end_of last ∷ []) (stmts_code body n 0 (size_in body) []) (Perform Returns nothing ∷ [])
      (stmts_fits n m count means body (closing last) n 0 (size_in body) [] site can body_meant
      (within_first m (stmts_code body n 0 (size_in body) []) (Perform Returns nothing ∷ []) within.1))
      ((code.returning last nothing (closing last) refl, (tt, tt)), tt)

  fits_at : (k : ℕ) (i : Instruction) → slice_get (body_code n body) k ≡ Some i → FitsHere n m count means (means k) i
  fits_at k i e =
      let t : Meets n m count means (slice_get all k) i = meets n m count means all (body_code n body) k i fit e in
      subst (λ p. FitsHere n m count means p i) (sym (in_list_at all (end_of last) k t.point t.is)) t.fits

  as_many : count ≡ length (body_code n body)
  as_many = same_length n m count means all (body_code n body) fit

  begin : means 0 ≡ point_after (onto body (closing last))
  begin = rw (entry_zero (size_in body)) at (leads_in count means body (closing last) n 0 (size_in body) body_meant ends).is

  lines_agree : map line_of all ≡ body_lines body last
  lines_agree = map-append line_of (stmts_points body (closing last) n) (end_of last ∷ []) ∙ ap (λ ls. ls ++ last.line ∷ []) (lines_stmts body (closing last) n)

  line_at : (k : ℕ) → k < count → slice_get (body_lines body last) k ≡ Some (means k).place.line
  line_at k l = subst (λ ls. slice_get ls k ≡ Some (means k).place.line) lines_agree (some_line all (end_of last) k l)

  as_many_lines : length (body_lines body last) ≡ length (body_code n body)
  as_many_lines = ap length (sym lines_agree) ∙ length-map all line_of ∙ as_many

  clear_at : (ts : Temporaries) → ClearAll ts (means 0).operands
  clear_at ts = subst (λ p. ClearAll ts p.operands) (sym begin) (clear_after ts n (onto body (closing last)) (good_onto n n body (closing last) can good).kept)

  bounds_at : (k : ℕ) (i : Instruction) → slice_get (body_code n body) k ≡ Some i → InBounds n m (length (body_code n body)) i
  bounds_at k i e = subst (λ c. InBounds n m c i) as_many (fits_at k i e).1

  some_code : 0 < length (body_code n body)
  some_code =
      let l : length all ≡ length (stmts_points body (closing last) n) + 1 = length-append (stmts_points body (closing last) n) (end_of last ∷ []) in
      let e : count ≡ length (body_code n body) = as_many in
      omega arith

function_fits : (f : Function) → CanLowerFunction f → FunctionFits (function_meaning f) f (lowered_function f)
function_fits (FunctionIs name parameters result variables body last) can =
    let n : ℕ = length variables in
    record {
      parameters = refl;
      takes = can.0;
      variables = refl;
      cells = (within n body last can.1).0;
      begins = begin n body last can.1;
      clear = λ ts none. clear_at n body last can.1 ts;
      fits = λ k i e. (fits_at n body last can.1 k i e).0;
      some = some_code n body last can.1;
      bounds = bounds_at n body last can.1;
      each = as_many_lines n body last can.1;
      lines = λ k l. let e : length (body_points n body last) ≡ length (body_code n body) = as_many n body last can.1 in line_at n body last can.1 k
          (omega arith);
    }

can_at : (fs : List Function) (number : ℕ) (f : Function) → CanLowerAll fs → slice_get fs number ≡ Some f → CanLowerFunction f
can_at [] number f h e = absurd (let z : None ≡ Some f = e in cc)
can_at (g ∷ fs) zero f h e = let z : g ≡ f = cc in subst CanLowerFunction z h.0
can_at (g ∷ fs) (suc number) f h e = can_at fs number f h.1 e

pub program_fits : (p : Program) → CanLower p → ProgramFits (meaning p) p (lowered p)
program_fits (ProgramIs functions main) can = record {
  main = refl;
  each = length-map functions lowered_function;
  functions = λ number f c here there.
      let same : Some (lowered_function f) ≡ Some c = ap (option_map lowered_function) (sym here) ∙ sym (slice_get-map lowered_function functions number)
      ∙ there in
      let e : lowered_function f ≡ c = cc in
      let meant : function_meaning f ≡ meaning (ProgramIs functions main) number = ap (λ o. option_map_or function_meaning o (λ on. end_of nowhere))
      (sym here) in
      subst (λ c. FunctionFits (meaning (ProgramIs functions main) number) f c) e
      (subst (λ means. FunctionFits means f (lowered_function f)) meant (function_fits f (can_at functions number f can here)));
}
