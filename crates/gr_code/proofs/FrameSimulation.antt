-- Parts, works and selects: what an instruction does at a spot is what the rules do in its frame.
use Rattle.std.proofs.Common.{◌≡◌, ℕ, zero, suc, ◌+◌, ◌-◌, Bool, true, false, List, Option, Some, None, refl, sym, ap, ◌∙◌, subst, arith, true≢false}
use Rattle.std.specs.Prelude.{slice_get, if◌then◌else◌}
use Rattle.gr_scan.specs.declared.token.Place.{Place}
use Rattle.gr_tree.specs.declared.expr.BinaryOp.{BinaryOp}
use Rattle.gr_base.specs.declared.values.Value.{Value}
use Rattle.gr_program.specs.Programs.{Stmts, stop, then as first_then, Cases}
use Rattle.gr_rules.specs.Outcomes.{Outcome, gives, faults, wrong, ◌>>=◌}
use Rattle.gr_rules.specs.Operators.{settles}
use Rattle.gr_rules.specs.Operands.{Operand, Operands}
use Rattle.gr_rules.specs.Evaluation.{Variables, evaluate, evaluate_all}
use Rattle.gr_rules.specs.Parts.{Next, Plain, Asks, Ask, Calls, Receives, CountsItems, CountsPlaces, Decides, next_of}
use Rattle.gr_rules.specs.Parts as parts
use Rattle.gr_rules.specs.Points.{Rest, chosen, Select, Point, at, onto, point_after}
use Rattle.gr_rules.specs.Frames.{Frame, moved, goes_on, is_over, filled}
use Rattle.gr_rules.specs.Deeds.{Deed, Moves, Enters, Communicates, Receiving, Sending, Chooses, Closes, TakesLen, TakesCap, as_channel, as_int, as_truth, only, texts, part_of, work_of, statement_of, deed_by, deed, resumed, resumed_by, past_statement, past_next, past_case, cases_from, clause_point, past}
use Rattle.gr_rules.specs.Deeds as deeds
use Rattle.gr_code.specs.Filling.{Temporaries, with_value, keeping, fill, fill_all, fill_ask, fill_rest, fill_work, fill_point, ClearAll}
use Rattle.gr_code.specs.Instructions.{Arm, Action, Instruction, Part, Decide, Perform, Choose, Spot, Doing, Goes, asked, clauses_of, perform, on_with, decided_to, on_after, on_past, on_past_part, on_past_action, on_past_arm}
use Rattle.gr_code.specs.Code.{Meanings, Means, Continues, point_filled, is_decision, FitArms, no_arm, default_arm, send_arm, receive_arm, frame_at, Holds, deed_of, IfGiven, HasClause, Simulates}
use Rattle.gr_code.specs.Bounds.{NoneBelow}
use Rattle.gr_code.proofs.Fills.{evaluate_fill, evaluate_all_fill, Fills, to_plain, next_of_fill}

-- what follows is told in another way
pub through : {A B C : Type 0} → (o : Outcome A) (f : A → Outcome C) (g : A → Outcome B) (h : B → Outcome C) → ((a : A) → f a ≡ (g a >>= h)) → (o >>= f) ≡ ((o >>= g) >>= h)
through (gives a) f g h e = e a
through (faults e) f g h _ = refl
through wrong f g h e = refl

filled_frame : (f : Frame) (operands : Operands) → filled f operands ≡ moved f (point_filled f.point operands)
filled_frame f operands = elim (is_over f.point.work operands)
    as (λ b. (if b then goes_on f else moved f (at f.point.place f.point.work operands f.point.rest))
    ≡ moved f (if b then point_after f.point.rest else at f.point.place f.point.work operands f.point.rest)) [ true ↦ refl | false ↦ refl ]

pub onto_fill : (ts : Temporaries) (body : Stmts) (rest : Rest) → fill_rest ts (onto body rest) ≡ onto body (fill_rest ts rest)
onto_fill ts stop rest = refl
onto_fill ts (first_then s ss) rest = refl

-- the next part of what is filled
asks_filled : (ts : Temporaries) (ask : Ask) (k : Value → Operands) (n : Next Operands) → Fills (fill_all ts) ts (Asks ask k) n
    → (k' : Value → Operands) × (n ≡ Asks (fill_ask ts ask) k') × ((v : Value) → k' v ≡ fill_all ts (k v))
asks_filled ts ask k Plain e = absurd e
asks_filled ts ask k (Asks ask' k') e = (k', ap (λ a. Asks a k') e.0, e.1)

module _ (n : ℕ) (means : Meanings) (function : ℕ) (s : Spot) (all : Variables) (holds : Holds s all) (none : NoneBelow n s.temporaries) where
  abbrev pub ts : Temporaries
  ts = s.temporaries

  -- the frame at a point of the rules, and at one of code
  abbrev pub to : Point → Frame
  to p = record { function = function; variables = s.variables; point = p }

  abbrev pub frame : Point → Frame
  frame p = to (fill_point ts p)

  abbrev pub shown : Doing → Outcome Deed
  shown d = gives (deed_of means function d)

  abbrev pub stands : Spot → Outcome Frame
  stands t = gives (frame_at means function t)

  abbrev pub Simulated : Point → Instruction → Type 0
  Simulated p i = Simulates means function s all i (frame p)

  same : (e : Operand) → evaluate s.variables (fill ts e) ≡ evaluate all e
  same = evaluate_fill s all holds

  part_does : (f : Frame) (ask : Ask) (k : Value → Operands) → f.variables ≡ s.variables → is_decision ask ≡ false → part_of f (fill_ask ts ask) k ≡ (asked all ask >>= shown)
  part_does f (Calls h arguments) k e d =
      ap (λ vs. evaluate_all vs (fill_all ts arguments) >>= λ xs. gives (Enters h xs)) e
      ∙ ap (λ o. o >>= λ xs. gives (Enters h xs)) (evaluate_all_fill s all holds arguments) ∙ through (evaluate_all all arguments) _ _ _ (λ xs. refl)
  part_does f (Receives c initial) k e d = rw (e, same c) (through (evaluate all c >>= as_channel) _ _ _ (λ c. refl))
  part_does f (parts.Makes n) k e d = rw (e, same n) (through (evaluate all n >>= as_int) _ _ _ (λ n. refl))
  part_does f (CountsItems c) k e d = rw (e, same c) (through (evaluate all c >>= as_channel) _ _ _ (λ c. refl))
  part_does f (CountsPlaces c) k e d = rw (e, same c) (through (evaluate all c >>= as_channel) _ _ _ (λ c. refl))
  part_does f (Decides op left) k e d = absurd (true≢false d)

  -- a part is next, and goes on to this spot with its value
  module _ (p : Point) (ask : Ask) (k' : Value → Operands) (is : next_of (fill_all ts p.operands) ≡ Asks (fill_ask ts ask) k')
      (on : Value → Spot) (reached : (v : Value) → filled (frame p) (k' v) ≡ frame_at means function (on v)) where
    part_deed : is_decision ask ≡ false → deed (frame p) ≡ (asked all ask >>= shown)
    part_deed plain = ap (deed_by (frame p)) is ∙ part_does (frame p) ask k' refl plain

    decision_deed : (op : BinaryOp) (left : Operand) → ask ≡ Decides op left → deed (frame p) ≡ ((evaluate all left >>= λ v. gives (Goes (on v))) >>= shown)
    decision_deed op left e =
        ap (deed_by (frame p)) (is ∙ ap (λ a. Asks (fill_ask ts a) k') e)
        ∙ ap (λ o. o >>= λ v. gives (Moves (filled (frame p) (k' v)))) (same left)
        ∙ through (evaluate all left) _ _ _ (λ v. ap (λ f. gives (Moves f)) (reached v))

    part_resumes : (v : Value) → resumed (frame p) v ≡ stands (on v)
    part_resumes v = ap (λ n. resumed_by (frame p) n v) is ∙ ap (λ f. gives f) (reached v)

  -- the filled operands have this part next, and its value leads to the next instruction
  reached_by : (p : Point) (k k' : Value → Operands) (v : Value) (t : Spot) → t.variables ≡ s.variables → k' v ≡ fill_all ts (k v)
      → fill_point t.temporaries (means t.number) ≡ point_filled (fill_point ts p) (fill_all ts (k v)) → filled (frame p) (k' v) ≡ frame_at means function t
  reached_by p k k' v t vs e m =
      filled_frame (frame p) (k' v) ∙ ap (λ o. moved (frame p) (point_filled (frame p).point o)) e ∙ ap to (sym m)
      ∙ ap (λ held. record { function = function; variables = held; point = fill_point t.temporaries (means t.number) }) (sym vs)

  part_passes : (p : Point) (ask : Ask) (k' : Value → Operands) (slot : Option ℕ) (on : ℕ) → next_of (fill_all ts p.operands) ≡ Asks (fill_ask ts ask) k'
      → ((v : Value) → filled (frame p) (k' v) ≡ frame_at means function (on_with s (keeping ts slot v) on)) → (clause : Option ℕ) (got : Option (Value × Bool))
      → HasClause (Part ask slot on) clause → past (frame p) clause got ≡ (on_past s (Part ask slot on) clause got >>= stands)
  part_passes p ask k' slot on is reached (Some number) got h = absurd h
  part_passes p ask k' slot on is reached None got h = ap (λ n. past_next (frame p) n got) is ∙ by_ask ask got
    where
      by_ask : (a : Ask) (got : Option (Value × Bool)) → past_next (frame p) (Asks (fill_ask ts a) k') got ≡ (on_past_part s a slot on got >>= stands)
      by_ask (Receives c initial) (Some got) = ap (λ f. gives f) (reached got.0)
      by_ask (Receives c initial) None = refl
      by_ask (Calls f arguments) got = refl
      by_ask (parts.Makes n) got = refl
      by_ask (CountsItems c) got = refl
      by_ask (CountsPlaces c) got = refl
      by_ask (Decides op a) got = refl

  decision_passes : (p : Point) (op : BinaryOp) (left : Operand) (k' : Value → Operands) (slot settled right : ℕ) → next_of (fill_all ts p.operands) ≡ Asks (Decides op (fill ts left)) k'
      → (clause : Option ℕ) (got : Option (Value × Bool)) → HasClause (Decide op left slot settled right) clause
      → past (frame p) clause got ≡ (on_past s (Decide op left slot settled right) clause got >>= stands)
  decision_passes p op left k' slot settled right is (Some number) got h = absurd h
  decision_passes p op left k' slot settled right is None got h = ap (λ n. past_next (frame p) n got) is

  -- the next part of the filled operands of a point
  part_of_filled : (es : Operands) (ask : Ask) (k : Value → Operands) → next_of es ≡ Asks ask k → ClearAll ts es
      → (k' : Value → Operands) × (next_of (fill_all ts es) ≡ Asks (fill_ask ts ask) k') × ((v : Value) → k' v ≡ fill_all ts (k v))
  part_of_filled es ask k asks clear =
      asks_filled ts ask k (next_of (fill_all ts es)) (subst {_, _} (λ n. Fills (fill_all ts) ts n (next_of (fill_all ts es))) asks (next_of_fill ts es clear))

  pub part_simulates : (p : Point) (ask : Ask) (k : Value → Operands) (slot : Option ℕ) (on : ℕ)
      → next_of p.operands ≡ Asks ask k → is_decision ask ≡ false → ClearAll ts p.operands
      → ((v : Value) → Means means (keeping ts slot v) on (point_filled (fill_point ts p) (fill_all ts (k v))))
      → Simulated p (Part ask slot on)
  part_simulates p ask k slot on asks plain clear goes =
      let x = part_of_filled p.operands ask k asks clear in
      let to_on : Value → Spot = λ v. on_with s (keeping ts slot v) on in
      let reached : (v : Value) → filled (frame p) (x.0 v) ≡ frame_at means function (to_on v) = λ v. reached_by p k x.0 v (to_on v) refl (x.2 v) (goes v).0 in
      record {
        does = part_deed p ask x.0 x.1 to_on reached plain;
        after = tt;
        resumes = part_resumes p ask x.0 x.1 to_on reached;
        passes = part_passes p ask x.0 slot on x.1 reached;
      }

  pub decision_simulates : (p : Point) (op : BinaryOp) (left : Operand) (k : Value → Operands) (slot settled right : ℕ)
      → next_of p.operands ≡ Asks (Decides op left) k → ClearAll ts p.operands
      → ((v : Value) → Means means (with_value ts slot v) (if settles op v then settled else right) (point_filled (fill_point ts p) (fill_all ts (k v))))
      → Simulated p (Decide op left slot settled right)
  decision_simulates p op left k slot settled right asks clear goes =
      let x = part_of_filled p.operands (Decides op left) k asks clear in
      let to_on : Value → Spot = decided_to s op slot settled right in
      let reached : (v : Value) → filled (frame p) (x.0 v) ≡ frame_at means function (to_on v) = λ v. reached_by p k x.0 v (to_on v) refl (x.2 v) (goes v).0 in
      record {
        does = decision_deed p (Decides op left) x.0 x.1 to_on reached op left refl;
        after = tt;
        resumes = part_resumes p (Decides op left) x.0 x.1 to_on reached;
        passes = decision_passes p op left x.0 slot settled right x.1;
      }

  -- no part is left
  plain_filled : (es : Operands) → next_of es ≡ Plain → ClearAll ts es → next_of (fill_all ts es) ≡ Plain
  plain_filled es plain clear = to_plain (fill_all ts) ts (next_of es) (next_of (fill_all ts es)) (next_of_fill ts es clear) plain

  -- the statement falls to its work, which does what the action does, and goes on alike
  pub record Works (p : Point) (action : Action) : Type 0 where
    pub falls : (es : Operands) → statement_of (frame p) (fill_work ts p.work) es ≡ (evaluate_all s.variables es >>= work_of (frame p) (fill_work ts p.work))
    pub works : (xs : List Value) → work_of (frame p) (fill_work ts p.work) xs ≡ (perform s action xs >>= shown)
    pub goes : IfGiven (λ t. goes_on (frame p) ≡ frame_at means function t) (on_after s (Perform action p.operands))
    pub gets : (got : Option (Value × Bool)) → past_statement (frame p) (fill_work ts p.work) (fill_all ts p.operands) got ≡ (on_past_action s action got >>= stands)

  pub plain_simulates : (p : Point) (action : Action) → next_of p.operands ≡ Plain → ClearAll ts p.operands → Works p action → Simulated p (Perform action p.operands)
  plain_simulates p action plain clear w =
      let is : next_of (fill_all ts p.operands) ≡ Plain = plain_filled p.operands plain clear in
      record {
        does = ap (deed_by (frame p)) is ∙ w.falls (fill_all ts p.operands)
            ∙ ap (λ o. o >>= work_of (frame p) (fill_work ts p.work)) (evaluate_all_fill s all holds p.operands)
            ∙ through (evaluate_all all p.operands) (work_of (frame p) (fill_work ts p.work)) (perform s action) shown w.works;
        after = w.goes;
        resumes = λ v. ap (λ n. resumed_by (frame p) n v) is;
        passes = plain_clause is;
      }
    where
      plain_clause : next_of (fill_all ts p.operands) ≡ Plain → (clause : Option ℕ) (got : Option (Value × Bool)) → HasClause (Perform action p.operands) clause
          → past (frame p) clause got ≡ (on_past s (Perform action p.operands) clause got >>= stands)
      plain_clause is None got h = ap (λ n. past_next (frame p) n got) is ∙ w.gets got
      plain_clause is (Some number) got h = absurd h

  -- what remains comes next
  pub comes : (es : Operands) (rest : Rest) (on : ℕ) → Continues n means es rest on → ClearAll ts es → point_after (fill_rest ts rest) ≡ fill_point ts (means on)
  comes es rest on continues clear = sym (continues ts none clear).0

  -- the clauses of a select
  arms_fill : (f : Frame) (place : Place) (whole : Operands) (rest : Rest) (number : ℕ) (cases : Cases) (es : Operands) (arms : List Arm) → f.variables ≡ s.variables
      → FitArms n means place whole rest number cases es arms → deeds.clauses_of f cases (fill_all ts es) ≡ clauses_of all arms
  arms_fill f place whole rest _ _ _ _ e (no_arm number) = refl
  arms_fill f place whole rest _ _ _ _ e (default_arm number body others es arms on continues fit) = rw (arms_fill f place whole rest _ others es arms e fit) refl
  arms_fill f place whole rest _ _ _ _ e (send_arm number channel value body others c v es arms on continues fit) = rw (e, same c, same v, arms_fill f place whole rest _ others es arms e fit) refl
  arms_fill f place whole rest _ _ _ _ e (receive_arm number targets channel initial body others c es arms into on goes fit) = rw (e, same c, arms_fill f place whole rest _ others es arms e fit) refl

  module _ (place : Place) (cases_in_all : Cases) (whole : Operands) (rest : Rest) (clear : ClearAll ts whole) where
    abbrev at_select : Frame
    at_select = frame (at place (Select cases_in_all) whole rest)

    entered : (body : Stmts) (m number on : ℕ) → m ≡ number → Continues n means whole (onto body (chosen number rest)) on
        → to (point_after (onto body (chosen m (fill_rest ts rest)))) ≡ frame (means on)
    entered body m number on e continues =
        ap (λ n. to (point_after (onto body (chosen n (fill_rest ts rest))))) e
        ∙ ap (λ r. to (point_after r)) (sym (onto_fill ts body (chosen number rest)))
        ∙ ap to (comes whole (onto body (chosen number rest)) on continues clear)

    arm_past : (got : Option (Value × Bool)) (i m number : ℕ) (cases : Cases) (es : Operands) (arms : List Arm) → m ≡ number + i
        → FitArms n means place whole rest number cases es arms → past_case at_select m (cases_from i cases) got ≡ (on_past_arm s (slice_get arms i) got >>= stands)
    arm_past got zero m _ _ _ _ e (no_arm number) = refl
    arm_past got (suc i) m _ _ _ _ e (no_arm number) = refl
    arm_past None zero m _ _ _ _ e (default_arm number body others es arms on continues fit) = ap (λ f. gives f) (entered body m number on (omega arith) continues)
    arm_past (Some got) zero m _ _ _ _ e (default_arm number body others es arms on continues fit) = refl
    arm_past got (suc i) m _ _ _ _ e (default_arm number body others es arms on continues fit) = arm_past got i m _ others es arms (omega arith) fit
    arm_past None zero m _ _ _ _ e (send_arm number channel value body others c v es arms on continues fit) = ap (λ f. gives f) (entered body m number on (omega arith) continues)
    arm_past (Some got) zero m _ _ _ _ e (send_arm number channel value body others c v es arms on continues fit) = refl
    arm_past got (suc i) m _ _ _ _ e (send_arm number channel value body others c v es arms on continues fit) = arm_past got i m _ others es arms (omega arith) fit
    arm_past None zero m _ _ _ _ e (receive_arm number targets channel initial body others c es arms into on goes fit) = refl
    arm_past (Some got) zero m _ _ _ _ e (receive_arm number targets channel initial body others c es arms into on goes fit) =
        let same_number : m ≡ number = omega arith in
        ap (λ n. gives (to (clause_point place targets (onto body (chosen n (fill_rest ts rest))) got))) same_number
        ∙ ap (λ q. gives (to q)) (sym (goes ts got none clear).0)
    arm_past got (suc i) m _ _ _ _ e (receive_arm number targets channel initial body others c es arms into on goes fit) = arm_past got i m _ others es arms (omega arith) fit

    select_passes : (es : Operands) (arms : List Arm) → next_of (fill_all ts whole) ≡ Plain → FitArms n means place whole rest 1 cases_in_all es arms
        → (clause : Option ℕ) (got : Option (Value × Bool)) → HasClause (Choose arms) clause → past at_select clause got ≡ (on_past s (Choose arms) clause got >>= stands)
    select_passes es arms is fit None got h = ap (λ n. past_next at_select n got) is
    select_passes es arms is fit (Some number) got h = arm_past got (number - 1) number 1 cases_in_all es arms (omega arith) fit

    pub select_simulates : (arms : List Arm) → next_of whole ≡ Plain → FitArms n means place whole rest 1 cases_in_all whole arms → Simulated (at place (Select cases_in_all) whole rest) (Choose arms)
    select_simulates arms plain fit =
        let is : next_of (fill_all ts whole) ≡ Plain = plain_filled whole plain clear in
        record {
          does = ap (deed_by at_select) is ∙ ap (λ o. o >>= λ cs. gives (Chooses cs)) (arms_fill at_select place whole rest 1 cases_in_all whole arms refl fit)
              ∙ through (clauses_of all arms) _ _ _ (λ cs. refl);
          after = tt;
          resumes = λ v. ap (λ n. resumed_by at_select n v) is;
          passes = select_passes whole arms is fit;
        }
