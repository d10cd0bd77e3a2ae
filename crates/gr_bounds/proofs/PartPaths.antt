-- The points of a statement's parts are within bounds where its instructions are.
use Rattle.std.proofs.Common.{◌≡◌, ℕ, suc, ◌+◌, List, [], ◌∷◌, ◌++◌, length, sym, subst, arith}
use Rattle.std.specs.Prelude.{unwrap_or}
use Rattle.gr_scan.specs.declared.token.Place.{Place}
use Rattle.gr_program.specs.Programs.{Program}
use Rattle.gr_rules.specs.Operands.{Operands}
use Rattle.gr_rules.specs.Parts.{Ask, Calls, Receives, CountsItems, CountsPlaces, Decides}
use Rattle.gr_rules.specs.Parts as parts
use Rattle.gr_rules.specs.Points.{Rest, Work, Point, at}
use Rattle.gr_code.specs.Passing.{parts_in}
use Rattle.gr_code.specs.Instructions.{Instruction}
use Rattle.gr_lower.specs.PartCode.{left_in, code_in}
use Rattle.gr_lower.specs.StatementPoints.{points, performed_points}
use Rattle.gr_lower.proofs.PartsRead.{done, reads, instruction_for, ReadsAll}
use Rattle.gr_lower.proofs.PartsLeft.{length_code_in, reads_all}
use Rattle.gr_may.specs.Uses.{Uses, Usage}
use Rattle.gr_may.specs.Demands.{OperandsFit, work_uses, RestFits, WorkFits, PointFits}
use Rattle.gr_bounds.specs.CodeUses.{AskFits, SlotFits, InstructionFits, CodeFits}
use Rattle.gr_bounds.proofs.Unplugging.{operands_step}

module _ (p : Program) (usage : Usage) (n : List ℕ) (uses : ℕ → Uses) (function : ℕ) where
  abbrev Fs : List Uses → Operands → Type 0
  Fs bs es = OperandsFit p usage n uses function bs es

  abbrev pub Code : List Instruction → Type 0
  Code is = CodeFits p usage n uses function is

  pub code_first : (is js : List Instruction) → Code (is ++ js) → Code is
  code_first [] js h = tt
  code_first (i ∷ is) js h = (h.0, code_first is js h.1)

  pub code_second : (is js : List Instruction) → Code (is ++ js) → Code js
  code_second [] js h = h
  code_second (i ∷ is) js h = code_second is js h.1

  -- each point is within the bounds
  abbrev pub Points : List Point → Type 0
  Points [] = Unit {0}
  Points (x ∷ xs) = PointFits p usage n uses function x × Points xs

  pub points_join : (xs ys : List Point) → Points xs → Points ys → Points (xs ++ ys)
  points_join [] ys h k = k
  points_join (x ∷ xs) ys h k = (h.0, points_join xs ys h.1 k)

  ask_here : (ask : Ask) (d o m : ℕ) → InstructionFits p usage n uses function (instruction_for ask d o m)
      → AskFits p usage n uses function ask × SlotFits p usage n uses function ask d
  ask_here (Calls k arguments) d o m h = h
  ask_here (Receives c initial) d o m h = h
  ask_here (parts.Makes size) d o m h = h
  ask_here (CountsItems c) d o m h = h
  ask_here (CountsPlaces c) d o m h = h
  ask_here (Decides op left) d o m h = (h, tt)

  -- what the operands come to is within the bounds, and so are they
  pub path_fits : (bs : List Uses) (d o : ℕ) (es : Operands) (is : List Instruction) (l : Operands) → ReadsAll d o es is l → Code is → Fs bs l → Fs bs es
  path_fits bs _ _ _ _ _ (done d o es) c h = h
  path_fits bs _ _ _ _ _ (reads d o es fs ask k m is l asks plugs passes enough r) c h =
      let a = ask_here ask d o m c.0 in
      operands_step p usage n uses function d bs es fs ask k asks plugs a.0 a.1 (path_fits bs (d + 1) (o + 1) fs is l r c.1 h)

  module _ (place : Place) (work : Work) (rest : Rest) (w : WorkFits p usage n uses function work) (r : RestFits p usage n uses function rest) where
    here_fits : (es : Operands) → Fs (work_uses p usage n uses function work) es → PointFits p usage n uses function (at place work es rest)
    here_fits es h = record { operands = h; work = w; rest = r }

    pub path_points : (d o : ℕ) (es : Operands) (is : List Instruction) (l : Operands) → ReadsAll d o es is l → Code is
        → Fs (work_uses p usage n uses function work) l → Points (points place work rest (suc (length is)) d es)
    path_points _ _ _ _ _ (done d o es) c h = (here_fits es h, tt)
    path_points _ _ _ _ _ (reads d o es fs ask k m is l asks plugs passes enough q) c h =
        let first = path_fits (work_uses p usage n uses function work) d o es (instruction_for ask d o m ∷ is) l (reads d o es fs ask k m is l asks plugs passes enough q) c h in
        let others = path_points (d + 1) (o + 1) fs is l q c.1 h in
        (here_fits es first, subst (λ x. Points (points place work rest (suc (length is)) (d + 1) (unwrap_or x es))) (sym plugs) others)

    pub performed_fit : (d o : ℕ) (es : Operands) → Code (code_in es d o) → Fs (work_uses p usage n uses function work) (left_in es d)
        → Points (performed_points place work es rest d)
    performed_fit d o es c h =
        let all = path_points d o es (code_in es d o) (left_in es d) (reads_all es d o) c h in
        let count : suc (length (code_in es d o)) ≡ parts_in es + 1 = let l = length_code_in es d o in omega arith in
        subst (λ m. Points (points place work rest m d es)) count all
