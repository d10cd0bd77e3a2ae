-- Preservation. What a frame that has sorts asks for are values of their sorts, or it is a fault. The frame goes on with
-- sorts.
use Rattle.std.proofs.Common.{◌≡◌, ℕ, pos, Bool, true, false, if◌then◌else◌, arith, List, [], ◌∷◌, ◌++◌, map, Option, Some, None, refl, sym, ◌∙◌, ap, subst, inr}
use Rattle.gr_scan.specs.declared.token.Place.{Place}
use Rattle.gr_base.specs.declared.names.ChName.{ChName}
use Rattle.gr_base.specs.declared.values.Value.{Value}
use Rattle.gr_base.specs.declared.values.Value.TheVariants as values
use Rattle.gr_program.specs.Types.{Ty}
use Rattle.gr_program.specs.Programs.{Stmts, Declared}
use Rattle.gr_typing.specs.Scopes.{Signature}
use Rattle.gr_rules.specs.Operators.{operate}
use Rattle.gr_rules.specs.Outcomes.{Outcome, gives, faults, wrong, ◌>>=◌}
use Rattle.gr_rules.specs.Operands.{Operand, Done, Variable, Receive, Call, Operands, nothing, one, two}
use Rattle.gr_rules.specs.Evaluation.{Variables, evaluate_all}
use Rattle.gr_rules.specs.Parts.{Ask, Calls, Receives, Next, Plain, Asks, next, next_of}
use Rattle.gr_rules.specs.Points.{Rest, ranging, Work, Assign, AssignReceive, Update, Close, Print, Send, Go, Return, GoOn, Test, Range, Turn, Select, point_after}
use Rattle.gr_rules.specs.Frames.{Frame, moved, goes_on, filled}
use Rattle.gr_rules.specs.Deeds.{Communication, Receiving, Chooses, turned, clauses_of, part_of, work_of, statement_of, deed_by, resumed_by, resumed, past_next, past}
use Rattle.type_safety.proofs.Sorts as sorts
use Rattle.type_safety.proofs.Sorts.{Sort, IntSort, BoolSort, ChanSort, sort_of, result_sort, Made, More, HasSort, has_int, has_unit, has_channel, HaveSorts, no_value, one_value, Yields, yields, faulty, arithmetic, Setting, SortedOperand, done, variable, SortedOperands, no_operand, one_operand, Holding, AreTargets, no_target, numbers_of}
use Rattle.type_safety.proofs.Bodies.{Nest, Loops, SortedStmts}
use Rattle.type_safety.proofs.Running as running
use Rattle.type_safety.proofs.Running.{SortedRest, stands_alone, SortedWork, SortedFrame, GoesOn, on_as, SortedTransfer, SortedDeed, Comes, to, to_fault}
use Rattle.type_safety.proofs.Promises as promises
use Rattle.type_safety.proofs.Promises.{SortedAsk, DeedSorted}
use Rattle.type_safety.proofs.SortedValues.{operate_yields, assigned_holding}
use Rattle.type_safety.proofs.SortedEvaluation.{asks_itself, evaluates, evaluates_all}
use Rattle.type_safety.proofs.SortedOutcomes.{IsChannel, is_made, by_channel, by_truth, by_one, by_two, on_value, on_values, on_channel, on_int, on_assigned, on_texts}
use Rattle.type_safety.proofs.SortedWider.{sub_self, sub_past}
use Rattle.type_safety.proofs.SortedPoints.{Stands, onto_sorted, after_stands}
use Rattle.type_safety.proofs.SortedParts.{standing, setting, placed, stays, gone_on, holding_less, Holes, frame_holes, filled_function}
use Rattle.type_safety.proofs.SortedClauses.{no_part, past_plain, send_sorted, received_sorted, receive_sorted, assigning_stands, Clauses, clauses_come}

module _ (fs : List Signature) (ds : List Declared) (type : Option Ty) (k : Sort) (returns : result_sort type ≡ k) (made : Made) (live : List ℕ) where
  abbrev here : Setting
  here = setting fs ds type

  -- with the value of the next part in its place
  goes_on_with : {ask : Ask} (f : Frame) (after : Made) (v : Value) (with : Value → Operands)
      → next_of f.point.operands ≡ Asks ask with
      → SortedFrame fs after k (filled f (with v)) → GoesOn fs after k f.function (resumed f v)
  goes_on_with f after v with e h =
      subst (λ x. GoesOn fs after k f.function (resumed_by f x v)) (sym e) (on_as (filled_function f (with v)) h)

  got_part : {c : Operand} {zero : Value} (f : Frame) (with : Value → Operands)
      → next_of f.point.operands ≡ Asks (Receives c zero) with
      → (v : Value) (ok : Bool) → SortedFrame fs made k (filled f (with v))
      → GoesOn fs made k f.function (past f None (Some (v, ok)))
  got_part f with e v ok h =
      subst (λ x. GoesOn fs made k f.function (past_next f x (Some (v, ok)))) (sym e)
      (on_as (filled_function f (with v)) h)

  -- the next part
  ask_comes : {ask : Ask} {s : Sort} (f : Frame) → Holding ds made live f.variables → SortedAsk here made live ask s
      → (with : Value → Operands) → next_of f.point.operands ≡ Asks ask with
      → ((after : Made) (v : Value) → More made after → HasSort after v s
      → SortedFrame fs after k (filled f (with v)))
      → Comes fs made k f (part_of f ask with)
  ask_comes f h (promises.calls {n} {arguments} {name} {ts} {r} g a p) with e fills =
      on_values (Comes fs made k f) _ (λ e. to_fault) (evaluates_all here made live f.variables arguments (map sort_of ts) h a p)
      (λ vs hs. to (running.enters g hs (record {
        number = n;
        arguments = arguments;
        with = with;
        name = name;
        parameters = ts;
        type = r;
        asks = e;
        signed = g;
        leaves = refl;
      })))
  ask_comes f h (promises.receives {c} {zero} {k = s} t z p) with e fills =
      on_channel (Comes fs made k f) _ (λ e. to_fault) (evaluates here made live f.variables c (ChanSort s) h t p)
      (λ o q. to (running.communicates
      (receive_sorted fs made k f None s o zero q z
      (λ v ok g. got_part f with e v ok (fills made v (λ c k e. e) g)))))
  ask_comes f h (promises.makes {n} {k = s} t p) with e fills =
      on_int (Comes fs made k f) _ (λ e. to_fault) (evaluates here made live f.variables n IntSort h t p)
      (λ n. to (running.makes {e = s}
      (λ after c m q. goes_on_with f after (values.Chan (Some c)) with e
      (fills after (values.Chan (Some c)) m (has_channel q)))))
  ask_comes f h (promises.counts_items {c} {k = s} t p) with e fills =
      on_channel (Comes fs made k f) _ (λ e. to_fault) (evaluates here made live f.variables c (ChanSort s) h t p)
      (λ o q. to (running.takes_len (is_made made s o q)
      (λ n. goes_on_with f made (values.Int (pos n)) with e (fills made (values.Int (pos n)) (λ c k e. e) has_int))))
  ask_comes f h (promises.counts_places {c} {k = s} t p) with e fills =
      on_channel (Comes fs made k f) _ (λ e. to_fault) (evaluates here made live f.variables c (ChanSort s) h t p)
      (λ o q. to (running.takes_cap (is_made made s o q)
      (λ n. goes_on_with f made (values.Int (pos n)) with e (fills made (values.Int (pos n)) (λ c k e. e) has_int))))
  ask_comes f h (promises.decides {left = left} t p) with e fills =
      on_value (Comes fs made k f) _ (λ e. to_fault) (evaluates here made live f.variables left BoolSort h t p)
      (λ v g. to (running.moves (filled_function f (with v)) (fills made v (λ c k e. e) g)))

  module _ (f : Frame) (h : Holding ds made live f.variables) where
    all_values : (work : Work) {operands : Operands} {ks : List Sort} → SortedOperands here made live operands ks
        → next_of operands ≡ Plain
        → ((vs : List Value) → HaveSorts made vs ks → Comes fs made k f (work_of f work vs))
        → Comes fs made k f (evaluate_all f.variables operands >>= work_of f work)
    all_values work {operands = operands} {ks} s p g =
        on_values (Comes fs made k f) _ (λ e. to_fault) (evaluates_all here made live f.variables operands ks h s p) g

    one_value_of : (work : Work) {t : Operand} {s : Sort} → SortedOperand here made live t s → next_of (one t) ≡ Plain
        → ((v : Value) → HasSort made v s → Comes fs made k f (work_of f work (v ∷ [])))
        → Comes fs made k f (evaluate_all f.variables (one t) >>= work_of f work)
    one_value_of work t p g =
        all_values work (one_operand t no_operand) p
        (λ vs hs. by_one (λ vs. Comes fs made k f (work_of f work vs)) hs g)

    goes : {nests : List Nest} → SortedRest here made nests live true f.point.rest → SortedFrame fs made k (goes_on f)
    goes r = gone_on fs ds type k returns made live f h r

    turned_stands : {nests : List Nest} (x : Option ℕ) (s : Sort) (c : Value) (body : Stmts) (v : Value)
        → AreTargets ds (x ∷ []) (s ∷ [])
        → SortedStmts here (Loops true ∷ nests) (numbers_of (x ∷ []) ++ live) body true
        → SortedRest here made nests live true f.point.rest → HasSort made c (ChanSort s) → HasSort made v s
        → SortedFrame fs made k (moved f (turned f.point x (Done c) body v true))
    turned_stands {nests} x s c body v targets b r q g =
        let more : List ℕ = numbers_of (x ∷ []) ++ live in
        stays fs ds type k returns made live f _ h (running.assigns {ks = s ∷ []} targets (one_operand (done g) no_operand)
        (onto_sorted here made more more more true (ranging f.point.place x (Done c) body f.point.rest)
        (sub_self more) (sub_self more) b
        (running.ranges live (sub_past (numbers_of (x ∷ [])) live) q targets b (sub_self live) r)))

    -- the next value of a range, or past its loop
    turn_sorted : {nests : List Nest} (x : Option ℕ) (s : Sort) (channel : Value) (body : Stmts) (c : Option ChName)
        → ((v : Value) (ok : Bool) → SortedFrame fs made k (moved f (turned f.point x (Done channel) body v ok))
        → GoesOn fs made k f.function (past f None (Some (v, ok))))
        → IsChannel made s c → AreTargets ds (x ∷ []) (s ∷ [])
        → SortedStmts here (Loops true ∷ nests) (numbers_of (x ∷ []) ++ live) body true
        → SortedRest here made nests live true f.point.rest → HasSort made channel (ChanSort s)
        → SortedTransfer fs made k f None (Receiving c values.Unit)
    turn_sorted x s channel body c on q targets b r g = received_sorted fs made k f None s c values.Unit q
        (on values.Unit false (stays fs ds type k returns made live f _ h (running.continues r)))
        (λ v y. on v true (turned_stands x s channel body v targets b r g y))

  choosing : (f : Frame) (o : Outcome (List Communication)) → Clauses fs made k f 1 o
      → Comes fs made k f (o >>= λ cs. gives (Chooses cs))
  choosing f (gives cs) h = to (running.chooses h)
  choosing f (faults e) h = to_fault
  choosing f wrong h = absurd h

  by_test : {nests others : List Nest} {on rest : Rest} (b : Bool) → SortedRest here made nests live true on
      → SortedRest here made others live true rest → Stands here made live (point_after (if b then on else rest))
  by_test true a b = after_stands here made a refl
  by_test false a b = after_stands here made b refl

  -- a call or a receive is a part of its own
  not_plain : {s : Sort} {t : Operand} → SortedOperand here made live t s → stands_alone t ≡ true
      → next_of (one t) ≡ Plain → ⊥
  not_plain (sorts.receive {c} {zero} s z) a p =
      asks_itself (λ t. Receive t zero) (next c) (Receives c zero) Done ((no_part (Receive c zero) nothing p).0)
  not_plain (sorts.call {n} {arguments} g s) a p =
      asks_itself (Call n) (next_of arguments) (Calls n arguments) Done ((no_part (Call n arguments) nothing p).0)
  not_plain (done h) a p = let x : false ≡ true = a in absurd cc
  not_plain (variable g i) a p = let x : false ≡ true = a in absurd cc
  not_plain (sorts.unary o s) a p = let x : false ≡ true = a in absurd cc
  not_plain (sorts.binary o s t) a p = let x : false ≡ true = a in absurd cc
  not_plain (sorts.len s) a p = let x : false ≡ true = a in absurd cc
  not_plain (sorts.cap s) a p = let x : false ≡ true = a in absurd cc
  not_plain (sorts.make s) a p = let x : false ≡ true = a in absurd cc

  work_comes : {work : Work} {operands : Operands} {rest : Rest} (n : ℕ) (held : Variables) (place : Place)
      → Holding ds made live held
      → SortedWork here made live work operands rest → next_of operands ≡ Plain
      → Comes fs made k (standing n held place work operands rest)
      (statement_of (standing n held place work operands rest) work operands)
  work_comes n held place h (running.assigns {xs = xs} {operands} {rest} {ks} targets s r) p =
      let f : Frame = standing n held place (Assign xs) operands rest in
      all_values f h (Assign xs) s p (λ vs hs.
      on_assigned (Comes fs made k f) _ (assigned_holding ds made live held xs vs ks targets hs h) (λ after g. to (running.moves refl
      (gone_on fs ds type k returns made (numbers_of xs ++ live)
      (standing n after place (Assign xs) operands rest) g r))))
  work_comes n held place h (running.assigns_receive {x = x} {y} {zero} {c} {rest} {k = s} t z targets r) p =
      let f : Frame = standing n held place (AssignReceive x y zero) (one c) rest in
      one_value_of f h (AssignReceive x y zero) t p (λ v g. by_channel (λ v. Comes fs made k f (work_of f (AssignReceive x y zero) (v ∷ []))) g (λ o q.
      to (running.communicates (receive_sorted fs made k f None s o zero q z (λ v ok g.
      past_plain fs made k f (Some (v, ok)) p (on_as refl (assigning_stands fs ds type k returns made live f h (x ∷ y ∷ []) s rest (v, ok) targets r g)))))))
  work_comes n held place h (running.updates {x = x} {op} {e} {rest} w i o s r) p =
      let f : Frame = standing n held place (Update x op) (one e) rest in
      one_value_of f h (Update x op) s p (λ v g.
      on_value (Comes fs made k f) _ (λ e. to_fault)
      (on_value (λ o. Yields made o IntSort) (λ u. operate op u v) (λ e. faulty)
      (evaluates here made live held (Variable x) IntSort h (variable w i) refl)
      (λ u y. operate_yields op (arithmetic o) y g))
      (λ z y. on_assigned (Comes fs made k f) _
      (assigned_holding ds made live held (Some x ∷ []) (z ∷ []) (IntSort ∷ []) (sorts.target w no_target)
      (one_value y no_value) h)
      (λ after g. to
      (running.moves refl (gone_on fs ds type k returns made live (standing n after place (Update x op) (one e) rest)
      (holding_less ds made live (x ∷ live) after (λ x i. inr i) g) r)))))
  work_comes n held place h (running.evaluates {e = e} {rest} a s r) p = absurd (not_plain s a p)
  work_comes n held place h (running.closes {c = c} {rest} {k = s} t r) p =
      let f : Frame = standing n held place Close (one c) rest in
      one_value_of f h Close t p (λ v g. by_channel (λ v. Comes fs made k f (work_of f Close (v ∷ []))) g (λ o q.
      to (running.closes (is_made made s o q) (goes f h r))))
  work_comes n held place h (running.prints {pieces = pieces} {operands} {rest} are s r) p =
      let f : Frame = standing n held place (Print pieces) operands rest in
      all_values f h (Print pieces) s p (λ vs hs. on_texts (Comes fs made k f) _ are hs (λ ts. to (running.prints (goes f h r))))
  work_comes n held place h (running.sends {c = c} {e} {rest} {k = s} t u r) p =
      let f : Frame = standing n held place Send (two c e) rest in
      all_values f h Send (one_operand t (one_operand u no_operand)) p (λ vs hs. by_two (λ vs. Comes fs made k f (work_of f Send vs)) hs (λ v w y g.
      by_channel (λ v. Comes fs made k f (work_of f Send (v ∷ w ∷ []))) y (λ o q. to (running.communicates (send_sorted fs made k f None s o (gives w) q (yields g) (past_plain fs made k f None p (on_as refl (goes f h r))))))))
  work_comes n held place h (running.goes {n = m} {operands} {rest} w s r) p =
      let f : Frame = standing n held place (Go m) operands rest in
      all_values f h (Go m) s p (λ vs hs. to (running.starts w hs (goes f h r)))
  work_comes n held place h (running.returns {rest} w) p =
      to (running.leaves (subst (HasSort made values.Unit) (sym (ap result_sort w) ∙ returns) has_unit))
  work_comes n held place h (running.returns_value {e} {rest} {t} w s) p =
      let f : Frame = standing n held place Return (one e) rest in
      one_value_of f h Return s p (λ v g. to (running.leaves (subst (HasSort made v) (sym (ap result_sort w) ∙ returns) g)))
  work_comes n held place h (running.continues {rest = rest} r) p =
      to (running.moves refl (goes (standing n held place GoOn nothing rest) h r))
  work_comes n held place h (running.holds {on = on} {rest} r) p =
      to (running.moves refl (placed fs ds type k returns made live (standing n held place (Test on) (one (Done (values.Bool true))) rest) (point_after on) h
      (after_stands here made r refl)))
  work_comes n held place h (running.tests {e = e} {on} {rest} s a b) p =
      let f : Frame = standing n held place (Test on) (one e) rest in
      one_value_of f h (Test on) s p (λ v g. by_truth (λ v. Comes fs made k f (work_of f (Test on) (v ∷ []))) g (λ t.
      to (running.moves refl (placed fs ds type k returns made live f _ h (by_test t a b)))))
  work_comes n held place h (running.ranges {target = x} {body} {e} {rest} {k = s} t targets b r) p =
      let f : Frame = standing n held place (Range x body) (one e) rest in
      one_value_of f h (Range x body) t p (λ v g. to (running.moves refl (stays fs ds type k returns made live f _ h (running.turns g targets b r))))
  work_comes n held place h (running.turns {target = x} {body} {channel} {rest} {k = s} c targets b r) p =
      let f : Frame = standing n held place (Turn x body) (one (Done channel)) rest in
      one_value_of f h (Turn x body) (done c) p (λ v g. by_channel (λ v. Comes fs made k f (work_of f (Turn x body) (v ∷ []))) g (λ o q.
      to (running.communicates (turn_sorted f h x s channel body o (λ v ok g. past_plain fs made k f (Some (v, ok)) p (on_as refl g)) q targets b r c))))
  work_comes n held place h (running.selects {nests} {cases} {operands} {rest} {z} clauses r) p =
      let f : Frame = standing n held place (Select cases) operands rest in
      choosing f (clauses_of f cases operands)
      (clauses_come fs ds type k returns made live f h z (λ i. running.chooses (λ e. e) (sub_self live) r) 1
      (omega arith, refl) clauses p)

deed_comes : (fs : List Signature) (made : Made) (k : Sort) (f : Frame) (s : SortedFrame fs made k f)
    (x : Next Operands) → next_of f.point.operands ≡ x
    → Holes fs (s.variables) (s.type) k (s.returns) made (s.live) f x → Comes fs made k f (deed_by f x)
deed_comes fs made k f s Plain e hole =
    work_comes fs (s.variables) (s.type) k (s.returns) made (s.live) f.function f.variables f.point.place (s.holding) (s.work) e
deed_comes fs made k f s (Asks ask with) e hole =
    ask_comes fs (s.variables) (s.type) k (s.returns) made (s.live) f (s.holding) (hole.asks) with e (hole.fills)

pub deed_sorted : DeedSorted
deed_sorted fs made k f s = deed_comes fs made k f s (next_of f.point.operands) refl (frame_holes fs made k f s)
