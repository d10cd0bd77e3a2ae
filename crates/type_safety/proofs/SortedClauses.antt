-- Sends and receives of a frame that has sorts, and the clauses of its select: past each of them it has sorts.
use Rattle.std.proofs.Common.{◌≡◌, ◌<◌, ℕ, zero, suc, ◌+◌, ◌-◌, Bool, true, false, arith, List, [], ◌∷◌, ◌++◌, Option, Some, None, refl, sym, ◌∙◌, ap, subst}
use Rattle.gr_base.specs.declared.names.ChName.{ChName}
use Rattle.gr_base.specs.declared.values.Value.{Value}
use Rattle.gr_program.specs.Types.{Ty}
use Rattle.gr_program.specs.Programs.{Literal, Expr, Stmts, Cases, no_case, default_case, send_case, receive_case, Declared}
use Rattle.gr_typing.specs.Scopes.{Signature}
use Rattle.gr_rules.specs.Outcomes.{Outcome, gives, faults, wrong, ◌>>=◌}
use Rattle.gr_rules.specs.Operands.{Operand, Operands, also, value_of}
use Rattle.gr_rules.specs.Evaluation.{evaluate}
use Rattle.gr_rules.specs.Parts.{Plain, within, next, next_of}
use Rattle.gr_rules.specs.Points.{chosen, Rest, point_after}
use Rattle.gr_rules.specs.Frames.{Frame, moved}
use Rattle.gr_rules.specs.Deeds.{Communication, Sending, Receiving, assigning, body_after, clause_point, past_statement, past_next, past_case, cases_from, cases_at, past, clauses_of}
use Rattle.gr_rules.specs.Selects.{numbered}
use Rattle.type_safety.proofs.Sorts.{Sort, BoolSort, ChanSort, result_sort, Made, nothing_made, HasSort, has_truth, Yields, Setting, SortedOperand, done, no_operand, one_operand, Holding, AreTargets, numbers_of}
use Rattle.type_safety.proofs.Bodies.{Nest, SortedStmts, SortedClauses, no_clause, default_clause, send_clause, receive_clause}
use Rattle.type_safety.proofs.Running as running
use Rattle.type_safety.proofs.Running.{SortedRest, SortedFrame, GoesOn, on_as, SortedTransfer, sends_nil, sends, receives_nil, receives, transfers, otherwise, SortedNumbered}
use Rattle.type_safety.proofs.SortedValues.{sort_more}
use Rattle.type_safety.proofs.SortedEvaluation.{within_plain, evaluates}
use Rattle.type_safety.proofs.SortedOutcomes.{IsChannel, on_channel}
use Rattle.type_safety.proofs.SortedWider.{sub_self, sub_past}
use Rattle.type_safety.proofs.SortedPoints.{no_more, onto_sorted, after_stands}
use Rattle.type_safety.proofs.SortedParts.{setting, placed, stays}

pub no_part : (t : Operand) (ts : Operands) → next_of (also t ts) ≡ Plain → (next t ≡ Plain) × (next_of ts ≡ Plain)
no_part t ts e =
    let w = within_plain (λ x. also x ts) (next t) (within (also t) (next_of ts) Plain) e in
    (w.0, (within_plain (also t) (next_of ts) Plain (w.1)).0)

-- the clauses after the first
abbrev others_of : Cases → Cases
others_of no_case = no_case
others_of (default_case body others) = others
others_of (send_case channel value body others) = others
others_of (receive_case targets channel initial body others) = others

after_first : (j : ℕ) (cases : Cases) → cases_from (suc j) cases ≡ others_of (cases_from j cases)
after_first zero no_case = refl
after_first zero (default_case body others) = refl
after_first zero (send_case channel value body others) = refl
after_first zero (receive_case targets channel initial body others) = refl
after_first (suc j) no_case = refl
after_first (suc j) (default_case body others) = after_first j others
after_first (suc j) (send_case channel value body others) = after_first j others
after_first (suc j) (receive_case targets channel initial body others) = after_first j others

-- a clause with a number begins with these, and the next one with those after the first
abbrev Begins : Frame → ℕ → Cases → Type 0
Begins f i cases = (0 < i) × (cases_from (i - 1) (cases_at f.point.work) ≡ cases)

next_begins : (f : Frame) (i : ℕ) (cases : Cases) → Begins f i cases → Begins f (i + 1) (others_of cases)
next_begins f i cases (more, e) =
    let next : i + 1 - 1 ≡ suc (i - 1) = omega arith in (
      omega arith,
      ap (λ m. cases_from m (cases_at f.point.work)) next ∙ after_first (i - 1) (cases_at f.point.work)
          ∙ ap others_of e,
    )

module _ (fs : List Signature) (made : Made) (k : Sort) (f : Frame) where
  -- past a communication of the statement, no part of which is left
  pub past_plain : (got : Option (Value × Bool)) → next_of f.point.operands ≡ Plain
      → GoesOn fs made k f.function (past_statement f f.point.work f.point.operands got)
      → GoesOn fs made k f.function (past f None got)
  past_plain got p h = subst (λ x. GoesOn fs made k f.function (past_next f x got)) (sym p) h

  past_clause : (i : ℕ) (cases : Cases) (got : Option (Value × Bool)) → Begins f i cases
      → GoesOn fs made k f.function (past_case f i cases got) → GoesOn fs made k f.function (past f (Some i) got)
  past_clause i cases got b h = subst (λ cases. GoesOn fs made k f.function (past_case f i cases got)) (sym b.1) h

  pub send_sorted : (clause : Option ℕ) (e : Sort) (c : Option ChName) (v : Outcome Value)
      → IsChannel made e c → Yields made v e → GoesOn fs made k f.function (past f clause None)
      → SortedTransfer fs made k f clause (Sending c v)
  send_sorted clause e None v q y g = sends_nil y
  send_sorted clause e (Some c) v q y g = sends q y g

  -- past a receive of any value of the sort, or of the one that a closed channel gives
  pub received_sorted : (clause : Option ℕ) (e : Sort) (c : Option ChName) (initial : Value)
      → IsChannel made e c → GoesOn fs made k f.function (past f clause (Some (initial, false)))
      → ((v : Value) → HasSort made v e → GoesOn fs made k f.function (past f clause (Some (v, true))))
      → SortedTransfer fs made k f clause (Receiving c initial)
  received_sorted clause e None initial q a b = receives_nil
  received_sorted clause e (Some c) initial q a b = receives q a b

  pub receive_sorted : (clause : Option ℕ) (e : Sort) (c : Option ChName) (initial : Value)
      → IsChannel made e c → HasSort made initial e
      → ((v : Value) (ok : Bool) → HasSort made v e → GoesOn fs made k f.function (past f clause (Some (v, ok))))
      → SortedTransfer fs made k f clause (Receiving c initial)
  receive_sorted clause e c initial q z g =
      received_sorted clause e c initial q (g initial false z) (λ v h. g v true h)

  -- clauses from a number on
  abbrev pub Clauses : ℕ → Outcome (List Communication) → Type 0
  Clauses i (gives cs) = SortedNumbered fs made k f (numbered i cs)
  Clauses i (faults e) = Unit {0}
  Clauses i wrong = ⊥

  on_clauses : (i j : ℕ) (o : Outcome (List Communication)) (g : List Communication → Outcome (List Communication))
      → Clauses i o → ((cs : List Communication) → SortedNumbered fs made k f (numbered i cs) → Clauses j (g cs))
      → Clauses j (o >>= g)
  on_clauses i j (gives cs) g h k = k cs h
  on_clauses i j (faults e) g h k = tt
  on_clauses i j wrong g h k = h

module _ (fs : List Signature) (ds : List Declared) (type : Option Ty) (k : Sort) (returns : result_sort type ≡ k) (made : Made) (live : List ℕ)
    (f : Frame) (h : Holding ds made live f.variables) where
  abbrev here : Setting
  here = setting fs ds type

  -- what is received is assigned next
  pub assigning_stands : {nests : List Nest} (xs : List (Option ℕ)) (s : Sort) (rest : Rest) (got : Value × Bool)
      → AreTargets ds xs (s ∷ BoolSort ∷ []) → SortedRest here made nests (numbers_of xs ++ live) true rest
      → HasSort made got.0 s → SortedFrame fs made k (moved f (assigning f.point.place xs rest got))
  assigning_stands xs s rest got targets r g = stays fs ds type k returns made live f _ h
      (running.assigns targets (one_operand (done g) (one_operand (done has_truth) no_operand)) r)

  module _ {nests : List Nest} (z : Bool) (rests : (i : ℕ) → SortedRest here made nests live z (chosen i f.point.rest)) where
    -- into the body of a clause
    body_stands : (i : ℕ) (body : Stmts) → SortedStmts here nests live body z
        → SortedFrame fs made k (moved f (point_after (body_after f i body)))
    body_stands i body b = placed fs ds type k returns made live f _ h
        (after_stands here made
        (onto_sorted here made live live live true _ (sub_self live) (sub_self live) b (rests i)) refl)

    clause_stands : (i : ℕ) (xs : List (Option ℕ)) (s : Sort) (body : Stmts) (got : Value × Bool)
        → AreTargets ds xs (s ∷ BoolSort ∷ []) → SortedStmts here nests (numbers_of xs ++ live) body z
        → HasSort made got.0 s
        → SortedFrame fs made k (moved f (clause_point f.point.place xs (body_after f i body) got))
    clause_stands i [] s body got targets b g = body_stands i body b
    clause_stands i (x ∷ xs) s body got targets b g =
        let more : List ℕ = numbers_of (x ∷ xs) ++ live in
        assigning_stands (x ∷ xs) s (body_after f i body) got targets (onto_sorted here made more live more true _ (sub_self more) (sub_past (numbers_of (x ∷ xs)) live) b (rests i)) g

    -- one clause before others
    before_sends : (i : ℕ) (channel value : Expr) (body : Stmts) (s : Sort) (c e : Operand) (others : Cases)
        (operands : Operands)
        → Begins f i (send_case channel value body others)
        → SortedOperand here made live c (ChanSort s) → SortedOperand here made live e s
        → SortedStmts here nests live body z
        → (next c ≡ Plain) × (next_of (also e operands) ≡ Plain)
        → (next_of operands ≡ Plain → Clauses fs made k f (i + 1) (clauses_of f others operands))
        → Clauses fs made k f i (clauses_of f (send_case channel value body others) (also c (also e operands)))
    before_sends i channel value body s c e others operands at t u b p g =
        on_channel (Clauses fs made k f i) _ (λ e. tt) (evaluates here made live f.variables c (ChanSort s) h t (p.0))
        (λ o q. on_clauses fs made k f (i + 1) i (clauses_of f others operands)
        (λ cs. gives (Sending o (evaluate f.variables e) ∷ cs)) (g ((no_part e operands (p.1)).1))
        (λ cs k'. (
          transfers (send_sorted fs made k f (Some i) s o (evaluate f.variables e) q
              (evaluates here made live f.variables e s h u ((no_part e operands (p.1)).0))
              (past_clause fs made k f i (send_case channel value body others) None at
              (on_as refl (body_stands i body b)))),
          k',
        )))

    before_receives : (i : ℕ) (xs : List (Option ℕ)) (channel : Expr) (initial : Literal) (body : Stmts) (s : Sort)
        (c : Operand) (others : Cases) (operands : Operands)
        → Begins f i (receive_case xs channel initial body others)
        → SortedOperand here made live c (ChanSort s) → AreTargets ds xs (s ∷ BoolSort ∷ [])
        → SortedStmts here nests (numbers_of xs ++ live) body z → HasSort made (value_of initial) s
        → (next c ≡ Plain) × (next_of operands ≡ Plain)
        → (next_of operands ≡ Plain → Clauses fs made k f (i + 1) (clauses_of f others operands))
        → Clauses fs made k f i (clauses_of f (receive_case xs channel initial body others) (also c operands))
    before_receives i xs channel initial body s c others operands at t targets b w p g =
        on_channel (Clauses fs made k f i) _ (λ e. tt) (evaluates here made live f.variables c (ChanSort s) h t (p.0))
        (λ o q. on_clauses fs made k f (i + 1) i (clauses_of f others operands)
        (λ cs. gives (Receiving o (value_of initial) ∷ cs)) (g (p.1))
        (λ cs k'. (
          transfers (receive_sorted fs made k f (Some i) s o (value_of initial) q w
              (λ v ok y. past_clause fs made k f i (receive_case xs channel initial body others) (Some (v, ok)) at
              (on_as refl (clause_stands i xs s body (v, ok) targets b y)))),
          k',
        )))

    pub clauses_come : (i : ℕ) {cases : Cases} {operands : Operands} → Begins f i cases
        → SortedClauses here made nests live z cases operands → next_of operands ≡ Plain
        → Clauses fs made k f i (clauses_of f cases operands)
    clauses_come i at no_clause p = tt
    clauses_come i at (default_clause {body = body} {others} {operands} b rest) p =
        on_clauses fs made k f (i + 1) i (clauses_of f others operands) _ (clauses_come (i + 1) (next_begins f i (default_case body others) at) rest p)
        (λ cs g. (
          otherwise
              (past_clause fs made k f i (default_case body others) None at (on_as refl (body_stands i body b))),
          g,
        ))
    clauses_come i at (send_clause {p = channel} {q = value} {body = body} {others} {c} {e} {operands} {k = s} t u b rest) p =
        before_sends i channel value body s c e others operands at t u b (no_part c (also e operands) p)
        (λ q. clauses_come (i + 1) (next_begins f i (send_case channel value body others) at) rest q)
    clauses_come i at (receive_clause {xs = xs} {p = channel} {zero = initial} {body} {others} {c} {operands} {k = s} t w targets b rest) p =
        before_receives i xs channel initial body s c others operands at t targets b (sort_more nothing_made made (no_more made) w) (no_part c operands p)
        (λ q. clauses_come (i + 1) (next_begins f i (receive_case xs channel initial body others) at) rest q)
