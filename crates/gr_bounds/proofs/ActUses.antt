-- The statements without statements in them are within bounds where their instructions are, and so are their points.
use Rattle.std.proofs.Common.{◌≡◌, ℕ, suc, ◌+◌, true, false, List, [], ◌∷◌, length, Option, Some, None, refl, subst, arith}
use Rattle.gr_scan.specs.declared.token.Place.{Place}
use Rattle.gr_base.specs.declared.values.Value.{Value}
use Rattle.gr_program.specs.Programs as program
use Rattle.gr_program.specs.Programs.{Act, Opening, Opens, Stmt, stop, then, Program}
use Rattle.gr_rules.specs.Operands.{Operand, Done, Variable, Unary, Binary, Receive, Call, Len, Cap, Make, Decided, Operands, one, two, value_of, operand_of, operands_of}
use Rattle.gr_rules.specs.Parts.{Calls, Receives, next, next_of}
use Rattle.gr_rules.specs.Points.{Rest, closing, following, Work, Assign, AssignReceive, Update, Eval, Close, Print, Send, Go, Return, Point, pieces_of, printed_operands}
use Rattle.gr_code.specs.Passing.{parts, parts_in, passed_by, passed_by_in}
use Rattle.gr_code.specs.Plugging.{plug, plug_all}
use Rattle.gr_code.specs.Instructions.{Action, Assigns, AssignsReceived, Updates, ClosesChannel, PrintsLine, Sends, StartsFunction, Returns, Fails, Instruction, Part, Perform}
use Rattle.gr_lower.specs.PartCode.{left, left_in, code, code_in}
use Rattle.gr_lower.specs.Sizes.{returned, whole_size}
use Rattle.gr_lower.specs.StatementCode.{Way, performed, whole_code, act_code, opening_code}
use Rattle.gr_lower.specs.StatementPoints.{points, performed_points, assigning_point, act_points, opening_points}
use Rattle.gr_lower.proofs.PartsRead.{ReadsAll, lift}
use Rattle.gr_lower.proofs.PartsLeft.{length_code, length_code_in, reads_one, reads_all, in_whole_receive, in_whole_call}
use Rattle.gr_may.specs.Uses.{Uses, no_use, Within, Usage}
use Rattle.gr_may.specs.Demands.{OperandsFit, work_uses, ActFits, OpeningFits, StmtFits, RestFits, WorkFits, PointFits}
use Rattle.gr_may.proofs.FitValues.{literal_shared}
use Rattle.gr_may.proofs.FitPoints.{act_fits}
use Rattle.gr_bounds.specs.CodeUses.{action_uses, InstructionFits}
use Rattle.gr_bounds.proofs.PartPaths.{Code, code_first, code_second, Points, points_join, path_fits, path_points, performed_fit}

module _ (p : Program) (usage : Usage) (n : List ℕ) (uses : ℕ → Uses) (function : ℕ) where
  abbrev C : List Instruction → Type 0
  C is = Code p usage n uses function is

  abbrev Fs : List Uses → Operands → Type 0
  Fs bs es = OperandsFit p usage n uses function bs es

  abbrev Ps : List Point → Type 0
  Ps xs = Points p usage n uses function xs

  abbrev R : Rest → Type 0
  R rest = RestFits p usage n uses function rest

  abbrev W : Work → Type 0
  W work = WorkFits p usage n uses function work

  -- the parts of operands, and what is done with what is left of them
  pub performed_parts : (es : Operands) (d o : ℕ) (action : Action) → C (performed es d o action)
      → C (code_in es d o) × Fs (action_uses p usage n uses function action) (left_in es d)
  performed_parts es d o action c = (
    code_first p usage n uses function (code_in es d o) (Perform action (left_in es d) ∷ []) c,
    (code_second p usage n uses function (code_in es d o) (Perform action (left_in es d) ∷ []) c).0,
  )

  pub performed_operands : (es : Operands) (d o : ℕ) (action : Action) → C (performed es d o action) → Fs (action_uses p usage n uses function action) es
  performed_operands es d o action c =
      let b = performed_parts es d o action c in
      path_fits p usage n uses function (action_uses p usage n uses function action) d o es (code_in es d o) (left_in es d) (reads_all es d o) b.0 b.1

  pub done_points : (place : Place) (work : Work) (rest : Rest) (es : Operands) (d o : ℕ) (action : Action)
      → action_uses p usage n uses function action ≡ work_uses p usage n uses function work → W work → R rest → C (performed es d o action)
      → Ps (performed_points place work es rest d)
  done_points place work rest es d o action same w r c =
      let b = performed_parts es d o action c in
      performed_fit p usage n uses function place work rest w r d o es b.0 (subst (λ bs. Fs bs (left_in es d)) same b.1)

  -- an expression statement
  record Whole (place : Place) (rest : Rest) (e : Operand) (d : ℕ) : Type 0 where
    operands : Fs [] (one e)
    all : Ps (points place Eval rest (whole_size e) d (one e))

  by_path : (place : Place) (rest : Rest) (e l : Operand) (d o m : ℕ) (is : List Instruction) → ReadsAll d o (one e) is (one l) → suc (length is) ≡ m
      → R rest → C is → Fs [] (one l) → Fs [] (one e) × Ps (points place Eval rest m d (one e))
  by_path place rest e l d o m is path count r c h = (
    path_fits p usage n uses function [] d o (one e) is (one l) path c h,
    subst (λ m. Ps (points place Eval rest m d (one e))) count (path_points p usage n uses function place Eval rest tt r d o (one e) is (one l) path c h),
  )

  nothing_used : (uses : Uses) → Within no_use uses
  nothing_used uses u e = let f : false ≡ true = e in cc

  call_whole : (place : Place) (rest : Rest) (k : ℕ) (es : Operands) (d o on : ℕ) → R rest → C (whole_code (Call k es) d o on) → Whole place rest (Call k es) d
  call_whole place rest k es d o on r c =
      let is = code_in es d o in
      let first = code_first p usage n uses function is (Part (Calls k (left_in es d)) None on ∷ []) c in
      let last = code_second p usage n uses function is (Part (Calls k (left_in es d)) None on ∷ []) c in
      let path : ReadsAll d o (one (Call k es)) is (one (Call k (left_in es d))) =
      lift next_of plug_all passed_by_in next_of plug_all passed_by_in (λ es. one (Call k es)) (in_whole_call k) d o es (left_in es d) is (reads_all es d o) in
      let count : suc (length is) ≡ parts_in es + 1 = let l = length_code_in es d o in omega arith in
      let b = by_path place rest (Call k es) (Call k (left_in es d)) d o (parts_in es + 1) is path count r first ((nothing_used (usage.results k), last.0.0), tt) in
      record { operands = b.0; all = b.1 }

  receive_whole : (place : Place) (rest : Rest) (e : Operand) (initial : Value) (d o on : ℕ) → R rest → C (whole_code (Receive e initial) d o on)
      → Whole place rest (Receive e initial) d
  receive_whole place rest e initial d o on r c =
      let is = code e d o in
      let first = code_first p usage n uses function is (Part (Receives (left e d) initial) None on ∷ []) c in
      let last = code_second p usage n uses function is (Part (Receives (left e d) initial) None on ∷ []) c in
      let path : ReadsAll d o (one (Receive e initial)) is (one (Receive (left e d) initial)) =
      lift next plug passed_by next_of plug_all passed_by_in (λ x. one (Receive x initial)) (in_whole_receive initial) d o e (left e d) is (reads_one e d o) in
      let count : suc (length is) ≡ parts e + 1 = let l = length_code e d o in omega arith in
      let b = by_path place rest (Receive e initial) (Receive (left e d) initial) d o (parts e + 1) is path count r first (last.0.0, tt) in
      record { operands = b.0; all = b.1 }

  other_whole : (place : Place) (rest : Rest) (e : Operand) (d o : ℕ) → R rest → C (performed (one e) d o Fails)
      → Fs [] (one e) × Ps (points place Eval rest (parts e + 1) d (one e))
  other_whole place rest e d o r c = (
    performed_operands (one e) d o Fails c,
    let count : parts_in (one e) + 1 ≡ parts e + 1 = omega arith in
        subst (λ m. Ps (points place Eval rest m d (one e))) count (done_points place Eval rest (one e) d o Fails refl tt r c),
  )

  whole_fits : (place : Place) (rest : Rest) (e : Operand) (d o on : ℕ) → R rest → C (whole_code e d o on) → Whole place rest e d
  whole_fits place rest (Call k es) d o on r c = call_whole place rest k es d o on r c
  whole_fits place rest (Receive e initial) d o on r c = receive_whole place rest e initial d o on r c
  whole_fits place rest (Done v) d o on r c = let b = other_whole place rest (Done v) d o r c in record { operands = b.0; all = b.1 }
  whole_fits place rest (Variable x) d o on r c = let b = other_whole place rest (Variable x) d o r c in record { operands = b.0; all = b.1 }
  whole_fits place rest (Unary op e) d o on r c = let b = other_whole place rest (Unary op e) d o r c in record { operands = b.0; all = b.1 }
  whole_fits place rest (Binary op e f) d o on r c = let b = other_whole place rest (Binary op e f) d o r c in record { operands = b.0; all = b.1 }
  whole_fits place rest (Len e) d o on r c = let b = other_whole place rest (Len e) d o r c in record { operands = b.0; all = b.1 }
  whole_fits place rest (Cap e) d o on r c = let b = other_whole place rest (Cap e) d o r c in record { operands = b.0; all = b.1 }
  whole_fits place rest (Make e) d o on r c = let b = other_whole place rest (Make e) d o r c in record { operands = b.0; all = b.1 }
  whole_fits place rest (Decided op x e) d o on r c = let b = other_whole place rest (Decided op x e) d o r c in record { operands = b.0; all = b.1 }

  assigning_fits : (place : Place) (targets : List (Option ℕ)) (rest : Rest) (d on : ℕ) → R rest
      → InstructionFits p usage n uses function (Perform (Assigns targets on) (two (Variable d) (Variable (d + 1))))
      → PointFits p usage n uses function (assigning_point place targets rest d)
  assigning_fits place targets rest d on r h = record { operands = h; work = tt; rest = r }

  pub act_uses : (place : Place) (act : Act) (d o on : ℕ) (ways : List Way) → C (act_code act d o on ways) → ActFits p usage n uses function place act
  act_uses place (program.Assign targets values) d o on ways c = performed_operands (operands_of values) d o (Assigns targets on) c
  act_uses place (program.AssignReceive value ok channel initial) d o on ways c =
      let on = o + parts_in (one (operand_of channel)) + 1 in
      performed_operands (one (operand_of channel)) d o (AssignsReceived (value_of initial) d (d + 1) on)
      (code_first p usage n uses function (performed (one (operand_of channel)) d o (AssignsReceived (value_of initial) d (d + 1) on)) _ c)
  act_uses place (program.Update x op value) d o on ways c = performed_operands (one (operand_of value)) d o (Updates x op on) c
  act_uses place (program.Eval value) d o on ways c = (whole_fits place (closing place) (operand_of value) d o on tt c).operands
  act_uses place (program.Close channel) d o on ways c = performed_operands (one (operand_of channel)) d o (ClosesChannel on) c
  act_uses place (program.Print values) d o on ways c = performed_operands (printed_operands values) d o (PrintsLine (pieces_of values) on) c
  act_uses place (program.Send channel value) d o on ways c = performed_operands (two (operand_of channel) (operand_of value)) d o (Sends on) c
  act_uses place (program.Go k arguments) d o on ways c = performed_operands (operands_of arguments) d o (StartsFunction k on) c
  act_uses place (program.Return value) d o on ways c = performed_operands (returned value) d o Returns c
  act_uses place (program.Break depth) d o on ways c = tt
  act_uses place (program.Continue depth) d o on ways c = tt

  pub act_points_fit : (place : Place) (act : Act) (rest : Rest) (d o on : ℕ) (ways : List Way) → R rest → C (act_code act d o on ways)
      → Ps (act_points place act rest d)
  act_points_fit place (program.Assign targets values) rest d o on ways r c =
      done_points place (Assign targets) rest (operands_of values) d o (Assigns targets on) refl tt r c
  act_points_fit place (program.AssignReceive value ok channel initial) rest d o on ways r c =
      let next = o + parts_in (one (operand_of channel)) + 1 in
      let is = performed (one (operand_of channel)) d o (AssignsReceived (value_of initial) d (d + 1) next) in
      let js = Perform (Assigns (value ∷ ok ∷ []) on) (two (Variable d) (Variable (d + 1))) ∷ [] in
      points_join p usage n uses function (performed_points place (AssignReceive value ok (value_of initial)) (one (operand_of channel)) rest d) _
      (done_points place (AssignReceive value ok (value_of initial)) rest (one (operand_of channel)) d o (AssignsReceived (value_of initial) d (d + 1) next) refl
      (literal_shared usage initial) r (code_first p usage n uses function is js c))
      (assigning_fits place (value ∷ ok ∷ []) rest d on r (code_second p usage n uses function is js c).0, tt)
  act_points_fit place (program.Update x op value) rest d o on ways r c =
      done_points place (Update x op) rest (one (operand_of value)) d o (Updates x op on) refl tt r c
  act_points_fit place (program.Eval value) rest d o on ways r c = (whole_fits place rest (operand_of value) d o on r c).all
  act_points_fit place (program.Close channel) rest d o on ways r c =
      done_points place Close rest (one (operand_of channel)) d o (ClosesChannel on) refl tt r c
  act_points_fit place (program.Print values) rest d o on ways r c =
      done_points place (Print (pieces_of values)) rest (printed_operands values) d o (PrintsLine (pieces_of values) on) refl tt r c
  act_points_fit place (program.Send channel value) rest d o on ways r c =
      done_points place Send rest (two (operand_of channel) (operand_of value)) d o (Sends on) refl tt r c
  act_points_fit place (program.Go k arguments) rest d o on ways r c =
      done_points place (Go k) rest (operands_of arguments) d o (StartsFunction k on) refl tt r c
  act_points_fit place (program.Return value) rest d o on ways r c = done_points place Return rest (returned value) d o Returns refl tt r c
  act_points_fit place (program.Break depth) rest d o on ways r c = (act_fits p usage n uses function place (program.Break depth) rest tt r, tt)
  act_points_fit place (program.Continue depth) rest d o on ways r c = (act_fits p usage n uses function place (program.Continue depth) rest tt r, tt)

  pub opening_uses : (init : Option Opening) (d o on : ℕ) (ways : List Way) → C (opening_code init d o on ways) → OpeningFits p usage n uses function init
  opening_uses None d o on ways c = tt
  opening_uses (Some (Opens place act)) d o on ways c = act_uses place act d o on ways c

  pub opening_points_fit : (init : Option Opening) (s : Stmt) (rest : Rest) (d o on : ℕ) (ways : List Way) → StmtFits p usage n uses function s → R rest
      → C (opening_code init d o on ways) → Ps (opening_points init s rest d)
  opening_points_fit None s rest d o on ways h r c = tt
  opening_points_fit (Some (Opens place act)) s rest d o on ways h r c =
      act_points_fit place act (following (then s stop) rest) d o on ways ((h, tt), r) c
