-- What two bounds both permit is a bound: where each covers a state, both together do.
use Rattle.std.proofs.Common.{◌≡◌, ℕ, true, ◌&&◌, List, [], ◌∷◌, map, Option, Some, None, ap₂}
use Rattle.gr_base.specs.declared.names.ChName.{ChName}
use Rattle.gr_base.specs.declared.values.Value.{Value}
use Rattle.gr_base.specs.declared.values.Value.TheVariants.{Int, Bool as Truth, Unit as Empty, Chan}
use Rattle.gr_laws.proofs.CellLemmas.{both_true, and_true}
use Rattle.gr_program.specs.Programs as program
use Rattle.gr_program.specs.Programs.{Expr, Opening, Opens, Stmt, Does, Block, If, For, Stmts, stop, then, Cases, no_case, default_case, send_case, receive_case, Parameter, Function, FunctionIs, Program}
use Rattle.gr_rules.specs.Operands.{Operand, Done, Variable, Unary, Binary, Receive, Call, Len, Cap, Make, Decided, Operands, nothing, also, operand_of}
use Rattle.gr_rules.specs.Points.{Rest, closing, following, looping, ranging, chosen, Work, Assign, AssignReceive, Update, Eval, Close, Print, Send, Go, Return, GoOn, Astray, Test, Range, Turn, Select, Point, act_at, case_operands}
use Rattle.gr_rules.specs.Frames.{Frame, variable_of}
use Rattle.gr_rules.specs.Goroutines.{Status, ready, waiting, finished}
use Rattle.gr_rules.specs.States.{State}
use Rattle.gr_may.specs.Uses.{to_send, to_receive, to_close, to_count, to_share, Uses, no_use, only, Within, Usage, MayUse, Shared, target}
use Rattle.gr_may.specs.Demands.{function_at, uses_of_parameters, parameter_uses, clause_uses, OperandFits, OperandsFit, work_uses, OpeningFits, ConditionFits, StmtFits, StmtsFit, CasesFit, RestFits, WorkFits, PointFits}
use Rattle.gr_may.specs.Covers.{FrameFits, FramesFit, StatusFits, FunctionFits, Covers}

abbrev pub meet : Uses → Uses → Uses
meet a b = λ u. a u && b u

abbrev pub meeting : Usage → Usage → Usage
meeting u v = record {
  variables = λ k x. meet (u.variables k x) (v.variables k x);
  results = λ k. meet (u.results k) (v.results k);
  permits = λ n c. meet (u.permits n c) (v.permits n c);
}

pub within_meet : (c a b : Uses) → Within c a → Within c b → Within c (meet a b)
within_meet c a b w x u e = and_true (a u) (b u) (w u e) (x u e)

-- each use of one list is within those at its place in two others
pub data Meets : List Uses → List Uses → List Uses → Type 0 where
  none_meet : Meets [] [] []
  more_meet : {c a b : Uses} {cs as' bs : List Uses} → Within c a → Within c b → Meets cs as' bs → Meets (c ∷ cs) (a ∷ as') (b ∷ bs)

meets_itself : (bs : List Uses) → Meets bs bs bs
meets_itself [] = none_meet
meets_itself (b ∷ bs) = more_meet (λ u e. e) (λ u e. e) (meets_itself bs)

left_within : (a b : Uses) → Within (meet a b) a
left_within a b u e = (both_true (a u) (b u) e).0

right_within : (a b : Uses) → Within (meet a b) b
right_within a b u e = (both_true (a u) (b u) e).1

targets_meet : (f g : ℕ → Uses) (ks : List (Option ℕ)) → Meets (map (target (λ x. meet (f x) (g x))) ks) (map (target f) ks) (map (target g) ks)
targets_meet f g [] = none_meet
targets_meet f g (None ∷ ks) = more_meet (λ u e. e) (λ u e. e) (targets_meet f g ks)
targets_meet f g (Some x ∷ ks) = more_meet (left_within (f x) (g x)) (right_within (f x) (g x)) (targets_meet f g ks)

module _ (p : Program) (u v : Usage) where
  abbrev w : Usage
  w = meeting u v

  parameters_meet : (k : ℕ) → Meets (parameter_uses p w k) (parameter_uses p u k) (parameter_uses p v k)
  parameters_meet k = by_function (function_at p k)
    where
      by_function : (o : Option Function) → Meets (uses_of_parameters w k o) (uses_of_parameters u k o) (uses_of_parameters v k o)
      by_function None = none_meet
      by_function (Some (FunctionIs name parameters result variables body last)) = targets_meet (u.variables k) (v.variables k) (map variable_of parameters)

  shared_meet : (x : Value) → Shared u x → Shared v x → Shared w x
  shared_meet (Int i) h k = tt
  shared_meet (Truth b) h k = tt
  shared_meet Empty h k = tt
  shared_meet (Chan None) h k = tt
  shared_meet (Chan (Some c)) h k = λ n a. and_true (u.permits n c a) (v.permits n c a) (h n a) (k n a)

  module _ (n : List ℕ) where
    may_meet : (c a b : Uses) (x : Value) → Within c a → Within c b → MayUse u n a x → MayUse v n b x → MayUse w n c x
    may_meet c a b (Int i) s t h k = tt
    may_meet c a b (Truth z) s t h k = tt
    may_meet c a b Empty s t h k = tt
    may_meet c a b (Chan None) s t h k = tt
    may_meet c a b (Chan (Some d)) s t h k = λ y e. and_true (u.permits n d y) (v.permits n d y) (h y (s y e)) (k y (t y e))

    module _ (f g : ℕ → Uses) (function : ℕ) where
      abbrev fg : ℕ → Uses
      fg x = meet (f x) (g x)

      abbrev U : Uses → Operand → Type 0
      U b a = OperandFits p u n f function b a

      abbrev V : Uses → Operand → Type 0
      V b a = OperandFits p v n g function b a

      abbrev W : Uses → Operand → Type 0
      W b a = OperandFits p w n fg function b a

      mutual
        operand_meet : (c a b : Uses) (e : Operand) → Within c a → Within c b → U a e → V b e → W c e
        operand_meet c a b (Done x) s t h k = may_meet c a b x s t h k
        operand_meet c a b (Variable x) s t h k = within_meet c (f x) (g x) (λ y e. h y (s y e)) (λ y e. k y (t y e))
        operand_meet c a b (Unary op e) s t h k = operand_meet no_use no_use no_use e (λ y e. e) (λ y e. e) h k
        operand_meet c a b (Binary op d e) s t h k = (operand_meet no_use no_use no_use d (λ y e. e) (λ y e. e) h.0 k.0, operand_meet c a b e s t h.1 k.1)
        operand_meet c a b (Receive d zero) s t h k = (operand_meet (only to_receive) (only to_receive) (only to_receive) d (λ y e. e) (λ y e. e) h.0 k.0, shared_meet zero h.1 k.1)
        operand_meet c a b (Call i es) s t h k =
            (within_meet c (u.results i) (v.results i) (λ y e. h.0 y (s y e)) (λ y e. k.0 y (t y e)), operands_meet (parameters_meet i) es h.1 k.1)
        operand_meet c a b (Len d) s t h k = operand_meet (only to_count) (only to_count) (only to_count) d (λ y e. e) (λ y e. e) h k
        operand_meet c a b (Cap d) s t h k = operand_meet no_use no_use no_use d (λ y e. e) (λ y e. e) h k
        operand_meet c a b (Make d) s t h k = operand_meet no_use no_use no_use d (λ y e. e) (λ y e. e) h k
        operand_meet c a b (Decided op x e) s t h k = operand_meet c a b e s t h k

        operands_meet : {cs as' bs : List Uses} → Meets cs as' bs → (es : Operands) → OperandsFit p u n f function as' es → OperandsFit p v n g function bs es
            → OperandsFit p w n fg function cs es
        operands_meet m nothing h k = tt
        operands_meet none_meet (also e es) h k = (operand_meet no_use no_use no_use e (λ y e. e) (λ y e. e) h.0 k.0, operands_meet none_meet es h.1 k.1)
        operands_meet (more_meet {c} {a} {b} s t m) (also e es) h k = (operand_meet c a b e s t h.0 k.0, operands_meet m es h.1 k.1)

      receive_meet : (d : Operand) → U (only to_receive) d → V (only to_receive) d → W (only to_receive) d
      receive_meet d h k = operand_meet (only to_receive) (only to_receive) (only to_receive) d (λ y e. e) (λ y e. e) h k

      work_meets : (work : Work) → Meets (work_uses p w n fg function work) (work_uses p u n f function work) (work_uses p v n g function work)
      work_meets (Assign targets) = targets_meet f g targets
      work_meets (AssignReceive value ok zero) = meets_itself (only to_receive ∷ [])
      work_meets (Update x op) = none_meet
      work_meets Eval = none_meet
      work_meets Close = meets_itself (only to_close ∷ [])
      work_meets (Print pieces) = none_meet
      work_meets Send = meets_itself (only to_send ∷ only to_share ∷ [])
      work_meets (Go k) = parameters_meet k
      work_meets Return = more_meet (left_within (u.results function) (v.results function)) (right_within (u.results function) (v.results function)) none_meet
      work_meets GoOn = none_meet
      work_meets Astray = none_meet
      work_meets (Test holds) = none_meet
      work_meets (Range t body) = meets_itself (only to_receive ∷ [])
      work_meets (Turn t body) = meets_itself (only to_receive ∷ [])
      work_meets (Select cases) = meets_itself (clause_uses cases)

      opening_meet : (o : Option Opening) → OpeningFits p u n f function o → OpeningFits p v n g function o → OpeningFits p w n fg function o
      opening_meet None h k = tt
      opening_meet (Some (Opens place act)) h k = operands_meet (work_meets (act_at place act (closing place)).work) (act_at place act (closing place)).operands h k

      condition_meet : (o : Option Expr) → ConditionFits p u n f function o → ConditionFits p v n g function o → ConditionFits p w n fg function o
      condition_meet None h k = tt
      condition_meet (Some e) h k = operand_meet no_use no_use no_use (operand_of e) (λ y e. e) (λ y e. e) h k

      mutual
        stmt_meet : (s : Stmt) → StmtFits p u n f function s → StmtFits p v n g function s → StmtFits p w n fg function s
        stmt_meet (Does place act) h k = operands_meet (work_meets (act_at place act (closing place)).work) (act_at place act (closing place)).operands h k
        stmt_meet (Block body) h k = stmts_meet body h k
        stmt_meet (If place init condition body otherwise) h k =
            (opening_meet init h.0 k.0, operand_meet no_use no_use no_use (operand_of condition) (λ y e. e) (λ y e. e) h.1 k.1, stmts_meet body h.2 k.2, stmts_meet otherwise h.3 k.3)
        stmt_meet (For place init condition post body) h k =
            (opening_meet init h.0 k.0, condition_meet condition h.1 k.1, opening_meet post h.2 k.2, stmts_meet body h.3 k.3)
        stmt_meet (program.Range place t channel body) h k = (receive_meet (operand_of channel) h.0 k.0, stmts_meet body h.1 k.1)
        stmt_meet (program.Select place cases) h k = (operands_meet (meets_itself (clause_uses cases)) (case_operands cases) h.0 k.0, cases_meet cases h.1 k.1)

        stmts_meet : (ss : Stmts) → StmtsFit p u n f function ss → StmtsFit p v n g function ss → StmtsFit p w n fg function ss
        stmts_meet stop h k = tt
        stmts_meet (then s ss) h k = (stmt_meet s h.0 k.0, stmts_meet ss h.1 k.1)

        cases_meet : (cs : Cases) → CasesFit p u n f function cs → CasesFit p v n g function cs → CasesFit p w n fg function cs
        cases_meet no_case h k = tt
        cases_meet (default_case body others) h k = (stmts_meet body h.0 k.0, cases_meet others h.1 k.1)
        cases_meet (send_case channel value body others) h k = (stmts_meet body h.0 k.0, cases_meet others h.1 k.1)
        cases_meet (receive_case targets channel zero body others) h k = (stmts_meet body h.0 k.0, cases_meet others h.1 k.1)

      rest_meet : (r : Rest) → RestFits p u n f function r → RestFits p v n g function r → RestFits p w n fg function r
      rest_meet (closing place) h k = tt
      rest_meet (following ss r) h k = (stmts_meet ss h.0 k.0, rest_meet r h.1 k.1)
      rest_meet (looping again r) h k = (stmts_meet again h.0 k.0, rest_meet r h.1 k.1)
      rest_meet (ranging place t channel body r) h k = (receive_meet channel h.0 k.0, stmts_meet body h.1 k.1, rest_meet r h.2 k.2)
      rest_meet (chosen clause r) h k = rest_meet r h k

      inner_meet : (work : Work) → WorkFits p u n f function work → WorkFits p v n g function work → WorkFits p w n fg function work
      inner_meet (Assign targets) h k = tt
      inner_meet (AssignReceive value ok zero) h k = shared_meet zero h k
      inner_meet (Update x op) h k = tt
      inner_meet Eval h k = tt
      inner_meet Close h k = tt
      inner_meet (Print pieces) h k = tt
      inner_meet Send h k = tt
      inner_meet (Go i) h k = tt
      inner_meet Return h k = tt
      inner_meet GoOn h k = tt
      inner_meet Astray h k = tt
      inner_meet (Test holds) h k = rest_meet holds h k
      inner_meet (Range t body) h k = stmts_meet body h k
      inner_meet (Turn t body) h k = stmts_meet body h k
      inner_meet (Select cases) h k = cases_meet cases h k

      point_meet : (q : Point) → PointFits p u n f function q → PointFits p v n g function q → PointFits p w n fg function q
      point_meet q h k = record {
        operands = operands_meet (work_meets q.work) q.operands h.operands k.operands;
        work = inner_meet q.work h.work k.work;
        rest = rest_meet q.rest h.rest k.rest;
      }

    frame_meet : (f : Frame) → FrameFits p u n f → FrameFits p v n f → FrameFits p w n f
    frame_meet f h k = record {
      uses = λ x. meet (h.uses x) (k.uses x);
      held = λ x v e. may_meet (meet (h.uses x) (k.uses x)) (h.uses x) (k.uses x) v (left_within (h.uses x) (k.uses x)) (right_within (h.uses x) (k.uses x))
          (h.held x v e) (k.held x v e);
      stands = point_meet h.uses k.uses f.function f.point h.stands k.stands;
    }

    frames_meet : (fs : List Frame) → FramesFit p u n fs → FramesFit p v n fs → FramesFit p w n fs
    frames_meet [] h k = tt
    frames_meet (f ∷ fs) h k = (frame_meet f h.0 k.0, h.1, frames_meet fs h.2 k.2)

    status_meet : (status : Status) → StatusFits u n status → StatusFits v n status → StatusFits w n status
    status_meet ready h k = tt
    status_meet (waiting ws) h k = λ x i. and_true _ _ (h x i) (k x i)
    status_meet finished h k = tt

  function_meet : (k : ℕ) (f : Function) → FunctionFits p u k f → FunctionFits p v k f → FunctionFits p w k f
  function_meet k (FunctionIs name parameters result variables body last) h g = λ n. stmts_meet n (u.variables k) (v.variables k) k body (h n) (g n)

  sharing_meet : (n : List ℕ) (c : ChName) → (u.permits n c to_share ≡ true → Shared u (Chan (Some c))) → (v.permits n c to_share ≡ true → Shared v (Chan (Some c)))
      → w.permits n c to_share ≡ true → Shared w (Chan (Some c))
  sharing_meet n c h k e = let b = both_true (u.permits n c to_share) (v.permits n c to_share) e in shared_meet (Chan (Some c)) (h b.0) (k b.1)

  pub covers_meet : (s : State) → Covers p u s → Covers p v s → Covers p w s
  covers_meet s h k = record {
    code = λ i f e. function_meet i f (h.code i f e) (k.code i f e);
    goroutines = λ n g e. let a = h.goroutines n g e in let b = k.goroutines n g e in
        record { frames = frames_meet n g.frames a.frames b.frames; status = status_meet n g.status a.status b.status };
    sharing = λ n c e. sharing_meet n c (h.sharing n c) (k.sharing n c) e;
    queued = λ c gate e x i. shared_meet x.value (h.queued c gate e x i) (k.queued c gate e x i);
    buffered = λ c i j x e. shared_meet x (h.buffered c i j x e) (k.buffered c i j x e);
    unstarted = λ n i e. ap₂ (λ (f g : ChName → Uses). λ c. meet (f c) (g c)) (h.unstarted n i e) (k.unstarted n i e);
    unmade = λ c e. shared_meet (Chan (Some c)) (h.unmade c e) (k.unmade c e);
  }
