-- A frame whose next part is done keeps its sorts with the part's value in its place.
use Rattle.std.proofs.Common.{◌≡◌, ℕ, Bool, true, false, if◌then◌else◌, List, [], ◌∷◌, map, Option, Some, refl, sym, ◌∙◌, ap, subst}
use Rattle.gr_scan.specs.declared.token.Place.{Place}
use Rattle.gr_base.specs.declared.values.Value.{Value}
use Rattle.gr_base.specs.declared.values.Value.TheVariants as values
use Rattle.gr_program.specs.Types.{Ty}
use Rattle.gr_program.specs.Programs.{Cases, no_case, send_case, receive_case, Declared}
use Rattle.gr_typing.specs.Scopes.{Signature, Sign, signature}
use Rattle.gr_rules.specs.Operands.{Operand, Done, Receive, Call, Operands, nothing, also, one, two}
use Rattle.gr_rules.specs.Evaluation.{Variables}
use Rattle.gr_rules.specs.Parts.{Ask, Calls, Receives, Next, Plain, Asks, within, next, next_of}
use Rattle.gr_rules.specs.Points.{Rest, Work, AssignReceive, Update, Eval, Close, Send, Return, GoOn, Test, Range, Turn, Select, Point, at, point_after}
use Rattle.gr_rules.specs.Frames.{Frame, moved, goes_on, filled, is_over}
use Rattle.gr_rules.specs.Deeds.{resumed_by}
use Rattle.type_safety.proofs.Sorts.{Sort, IntSort, BoolSort, ChanSort, sort_of, result_sort, Made, More, HasSort, Setting, SortedOperand, done, variable, unary, binary, receive, call, len, cap, make, SortedOperands, no_operand, one_operand, Holding, Sub}
use Rattle.type_safety.proofs.Bodies.{Nest, Chooses, SortedClauses, no_clause, default_clause, send_clause, receive_clause}
use Rattle.type_safety.proofs.Running as running
use Rattle.type_safety.proofs.Running.{SortedRest, SortedWork, stands_alone, SortedFrame, GoesOn, on_as}
use Rattle.type_safety.proofs.Promises.{SortedAsk, calls, receives, SortedHole, ResumedSorted}
use Rattle.type_safety.proofs.SortedValues.{sort_more}
use Rattle.type_safety.proofs.SortedAsks.{asks_sorted}
use Rattle.type_safety.proofs.SortedPoints.{Stands, after_stands}
use Rattle.type_safety.proofs.SortedFrames.{holding_more, rest_more}

pub holding_less : (ds : List Declared) (made : Made) (less live : List ℕ) (held : Variables) → Sub less live
    → Holding ds made live held → Holding ds made less held
holding_less ds made less live held s h =
    record { sizes = h.sizes; sorts = h.sorts; values = λ x i. h.values x (s x i) }

of_none : {d : Setting} {made : Made} {live : List ℕ} {ts : Operands} (P : Operands → Type 0)
    → SortedOperands d made live ts [] → P nothing → P ts
of_none P no_operand h = h

-- operands of one sort, and of two
pub of_one : {d : Setting} {made : Made} {live : List ℕ} {ts : Operands} {k : Sort} (P : Operands → Type 0)
    → SortedOperands d made live ts (k ∷ []) → ((t : Operand) → SortedOperand d made live t k → P (also t nothing))
    → P ts
of_one P (one_operand {a = t} a no_operand) f = f t a

pub of_two : {d : Setting} {made : Made} {live : List ℕ} {ts : Operands} {k l : Sort} (P : Operands → Type 0)
    → SortedOperands d made live ts (k ∷ l ∷ [])
    → ((t u : Operand) → SortedOperand d made live t k → SortedOperand d made live u l → P (also t (also u nothing)))
    → P ts
of_two P (one_operand {a = t} a (one_operand {a = u} b no_operand)) f = f t u a b

pub of_first : {d : Setting} {made : Made} {live : List ℕ} {ts : Operands} {k : Sort} {ks : List Sort}
    (P : Operands → Type 0)
    → SortedOperands d made live ts (k ∷ ks)
    → ((t : Operand) (others : Operands) → SortedOperand d made live t k → SortedOperands d made live others ks
    → P (also t others)) → P ts
of_first P (one_operand {a = t} {rest = others} a rest) f = f t others a rest

-- the sorts of the operands of a select; its clauses have sorts with any operands of these sorts
pub record ClauseOperands (d : Setting) (made : Made) (nests : List Nest) (live : List ℕ) (z : Bool) (cases : Cases)
    (operands : Operands) : Type 0 where
  pub sorts : List Sort
  pub sorted : SortedOperands d made live operands sorts
  pub with : (after : Made) (ts : Operands) → More made after → SortedOperands d after live ts sorts
      → SortedClauses d after nests live z cases ts

pub clause_operands : {d : Setting} {made : Made} {nests : List Nest} {z : Bool} {cases : Cases}
    {operands : Operands} (live : List ℕ)
    → SortedClauses d made nests live z cases operands → ClauseOperands d made nests live z cases operands
clause_operands {d} {nests = nests} {z} live no_clause = record {
  sorts = [];
  sorted = no_operand;
  with = λ after ts m s. of_none (λ ts. SortedClauses d after nests live z no_case ts) s no_clause;
}
clause_operands live (default_clause body others) =
    let o = clause_operands live others in
    record { sorts = o.sorts; sorted = o.sorted; with = λ after ts m s. default_clause body (o.with after ts m s) }
clause_operands {d} live (send_clause {made} {nests} {z = z} {p} {q} {body} {others} {k = k} c e b rest) =
    let o = clause_operands live rest in
    record {
      sorts = ChanSort k ∷ k ∷ o.sorts;
      sorted = one_operand c (one_operand e (o.sorted));
      with = λ after ts m s. of_first (λ ts. SortedClauses d after nests live z (send_case p q body others) ts) s
          (λ t us c s. of_first (λ us. SortedClauses d after nests live z (send_case p q body others) (also t us)) s
          (λ u us e s. send_clause c e b (o.with after us m s)));
    }
clause_operands {d} live (receive_clause {made} {nests} {z = z} {xs} {p} {zero} {body} {others} {k = k} c h targets b rest) =
    let o = clause_operands live rest in
    record {
      sorts = ChanSort k ∷ o.sorts;
      sorted = one_operand c (o.sorted);
      with =
          λ after ts m s. of_first
          (λ ts. SortedClauses d after nests live z (receive_case xs p zero body others) ts) s
          (λ t us c s. receive_clause c h targets b (o.with after us m s));
    }

-- a frame in its parts
abbrev pub standing : ℕ → Variables → Place → Work → Operands → Rest → Frame
standing n held place work operands rest =
    record { function = n; variables = held; point = at place work operands rest }

abbrev pub setting : List Signature → List Declared → Option Ty → Setting
setting fs ds type = record { functions = fs; variables = ds; result = type }

module _ (fs : List Signature) (ds : List Declared) (type : Option Ty) (k : Sort) (returns : result_sort type ≡ k) where
  abbrev here : Setting
  here = setting fs ds type

  pub placed : (made : Made) (live : List ℕ) (f : Frame) (p : Point) → Holding ds made live f.variables
      → Stands here made live p → SortedFrame fs made k (moved f p)
  placed made live f p h s = record {
    variables = ds;
    type = type;
    live = s.holding;
    returns = returns;
    holding = holding_less ds made (s.holding) live (f.variables) (s.sub) h;
    work = s.work;
  }

  -- with the frame's own variables
  pub stays : (made : Made) (live : List ℕ) (f : Frame) (p : Point) → Holding ds made live f.variables
      → SortedWork here made live p.work p.operands p.rest → SortedFrame fs made k (moved f p)
  stays made live f p h w =
      record { variables = ds; type = type; live = live; returns = returns; holding = h; work = w }

  pub gone_on : {nests : List Nest} (made : Made) (live : List ℕ) (f : Frame) → Holding ds made live f.variables
      → SortedRest here made nests live true f.point.rest → SortedFrame fs made k (goes_on f)
  gone_on made live f h r = placed made live f (point_after f.point.rest) h (after_stands here made r refl)

  -- how a frame goes on with the value of the part that it asks for
  pub record Hole (made : Made) (live : List ℕ) (ask : Ask) (on : Value → Frame) : Type 0 where
    pub sort : Sort
    pub asks : SortedAsk here made live ask sort
    pub fills : (after : Made) (v : Value) → More made after → HasSort after v sort → SortedFrame fs after k (on v)

  abbrev pub Holes : Made → List ℕ → Frame → Next Operands → Type 0
  Holes made live f Plain = Unit {0}
  Holes made live f (Asks ask with) = Hole made live ask (λ v. filled f (with v))

  module _ (made : Made) (live : List ℕ) (n : ℕ) (held : Variables) (h : Holding ds made live held) (place : Place) where
    -- with these operands, where the statement is not over
    put_back : (after : Made) (work : Work) (operands ts : Operands) (rest : Rest) → More made after
        → is_over work ts ≡ false
        → SortedWork here after live work ts rest
        → SortedFrame fs after k (filled (standing n held place work operands rest) ts)
    put_back after work operands ts rest m e w =
        subst (λ b. SortedFrame fs after k (if b then goes_on (standing n held place work operands rest) else standing n held place work ts rest)) (sym e)
        (stays after live (standing n held place work operands rest) (at place work ts rest)
        (holding_more made after m ds live held h) w)

    kept : (work : Work) (operands : Operands) (rest : Rest) (ks : List Sort)
        → ((ts : Operands) → is_over work ts ≡ false) → SortedOperands here made live operands ks
        → ((after : Made) (ts : Operands) → More made after → SortedOperands here after live ts ks
        → SortedWork here after live work ts rest)
        → (x : Next Operands) → next_of operands ≡ x → Holes made live (standing n held place work operands rest) x
    kept work operands rest ks o s w Plain e = tt
    kept work operands rest ks o s w (Asks ask with) e =
        let hole : SortedHole here made live ask with ks = asks_sorted here made live operands ks ask with s e in
        record {
          sort = hole.sort;
          asks = hole.asks;
          fills =
              λ after v m q. put_back after work operands (with v) rest m (o (with v))
              (w after (with v) m (hole.fills after v m q));
        }

    plainly : (work : Work) (operands : Operands) (rest : Rest) → next_of operands ≡ Plain
        → (x : Next Operands) → next_of operands ≡ x → Holes made live (standing n held place work operands rest) x
    plainly work operands rest p x e =
        subst (Holes made live (standing n held place work operands rest)) (sym p ∙ e) tt

    -- a call or a receive that is a statement: its own parts are done before it
    receive_holes : {j : Sort} {nests : List Nest} (c : Operand) (zero : Value) (rest : Rest)
        → SortedOperand here made live c (ChanSort j) → HasSort made zero j
        → SortedRest here made nests live true rest
        → (x : Next Operand) → next c ≡ x
        → Holes made live (standing n held place Eval (one (Receive c zero)) rest)
        (within (λ t. also t nothing) (within (λ t. Receive t zero) x (Asks (Receives c zero) Done)) Plain)
    receive_holes {j = j} c zero rest s z r Plain e = record {
      sort = j;
      asks = receives s z e;
      fills =
          λ after v m q. gone_on after live (standing n held place Eval (one (Receive c zero)) rest)
          (holding_more made after m ds live held h) (rest_more made after m here r);
    }
    receive_holes {j = j} c zero rest s z r (Asks ask with) e =
        let hole : SortedHole here made live ask (λ v. also (with v) nothing) (ChanSort j ∷ []) =
        asks_sorted here made live (one c) (ChanSort j ∷ []) ask (λ v. also (with v) nothing) (one_operand s no_operand) (ap (λ x. within (λ t. also t nothing) x Plain) e) in
        record {
          sort = hole.sort;
          asks = hole.asks;
          fills = λ after v m q. put_back after Eval (one (Receive c zero)) (one (Receive (with v) zero)) rest m refl
              (running.evaluates refl (receive (alone (hole.fills after v m q)) (sort_more made after m z))
              (rest_more made after m here r));
        }
      where
        alone : {after : Made} {t : Operand} {l : Sort} → SortedOperands here after live (also t nothing) (l ∷ [])
            → SortedOperand here after live t l
        alone (one_operand a others) = a

    call_holes : {nests : List Nest} {name : List ℕ} {types : List Ty} {r : Option Ty} (f : ℕ) (arguments : Operands)
        (rest : Rest)
        → signature fs f ≡ Some (Sign name types r) → SortedOperands here made live arguments (map sort_of types)
        → SortedRest here made nests live true rest
        → (x : Next Operands) → next_of arguments ≡ x
        → Holes made live (standing n held place Eval (one (Call f arguments)) rest)
        (within (λ t. also t nothing) (within (Call f) x (Asks (Calls f arguments) Done)) Plain)
    call_holes {r = r} f arguments rest g s l Plain e = record {
      sort = result_sort r;
      asks = calls g s e;
      fills =
          λ after v m q. gone_on after live (standing n held place Eval (one (Call f arguments)) rest)
          (holding_more made after m ds live held h) (rest_more made after m here l);
    }
    call_holes {types = types} f arguments rest g s l (Asks ask with) e =
        let hole : SortedHole here made live ask with (map sort_of types) =
        asks_sorted here made live arguments (map sort_of types) ask with s e in
        record {
          sort = hole.sort;
          asks = hole.asks;
          fills = λ after v m q. put_back after Eval (one (Call f arguments)) (one (Call f (with v))) rest m refl
              (running.evaluates refl (call g (hole.fills after v m q)) (rest_more made after m here l));
        }

    lone_holes : {j : Sort} {nests : List Nest} {t : Operand} (rest : Rest)
        → SortedOperand here made live t j → stands_alone t ≡ true → SortedRest here made nests live true rest
        → Holes made live (standing n held place Eval (one t) rest) (next_of (one t))
    lone_holes rest (receive {c} {zero} s z) e r = receive_holes c zero rest s z r (next c) refl
    lone_holes rest (call {n = f} {arguments} g s) e r = call_holes f arguments rest g s r (next_of arguments) refl
    lone_holes rest (done q) e r = let x : false ≡ true = e in absurd cc
    lone_holes rest (variable q i) e r = let x : false ≡ true = e in absurd cc
    lone_holes rest (unary o a) e r = let x : false ≡ true = e in absurd cc
    lone_holes rest (binary o a b) e r = let x : false ≡ true = e in absurd cc
    lone_holes rest (len c) e r = let x : false ≡ true = e in absurd cc
    lone_holes rest (cap c) e r = let x : false ≡ true = e in absurd cc
    lone_holes rest (make c) e r = let x : false ≡ true = e in absurd cc

    work_holes : {work : Work} {operands : Operands} {rest : Rest} → SortedWork here made live work operands rest
        → (x : Next Operands) → next_of operands ≡ x → Holes made live (standing n held place work operands rest) x
    work_holes (running.assigns {operands = operands} {rest} {ks} targets s r) =
        kept _ operands rest ks (λ ts. refl) s (λ after ts m q. running.assigns targets q (rest_more made after m here r))
    work_holes (running.assigns_receive {x = x} {y} {zero} {c} {rest} {k = j} s z targets r) =
        kept _ (one c) rest (ChanSort j ∷ []) (λ ts. refl) (one_operand s no_operand)
        (λ after ts m q. of_one (λ ts. SortedWork here after live (AssignReceive x y zero) ts rest) q
        (λ t b. running.assigns_receive b (sort_more made after m z) targets (rest_more made after m here r)))
    work_holes (running.updates {x = x} {op} {e} {rest} g i o s r) =
        kept _ (one e) rest (IntSort ∷ []) (λ ts. refl) (one_operand s no_operand)
        (λ after ts m q. of_one (λ ts. SortedWork here after live (Update x op) ts rest) q
        (λ t b. running.updates g i o b (rest_more made after m here r)))
    work_holes (running.evaluates {e = e} {rest} a s r) =
        λ x q. subst (Holes made live (standing n held place Eval (one e) rest)) q (lone_holes rest s a r)
    work_holes (running.closes {c = c} {rest} {k = j} s r) =
        kept _ (one c) rest (ChanSort j ∷ []) (λ ts. refl) (one_operand s no_operand)
        (λ after ts m q. of_one (λ ts. SortedWork here after live Close ts rest) q
        (λ t b. running.closes b (rest_more made after m here r)))
    work_holes (running.prints {operands = operands} {rest} {ks} pieces s r) =
        kept _ operands rest ks (λ ts. refl) s (λ after ts m q. running.prints pieces q (rest_more made after m here r))
    work_holes (running.sends {c = c} {e} {rest} {k = j} s t r) =
        kept _ (two c e) rest (ChanSort j ∷ j ∷ []) (λ ts. refl) (one_operand s (one_operand t no_operand))
        (λ after ts m q. of_two (λ ts. SortedWork here after live Send ts rest) q
        (λ t u a b. running.sends a b (rest_more made after m here r)))
    work_holes (running.goes {operands = operands} {rest} {ts = types} g s r) =
        kept _ operands rest (map sort_of types) (λ ts. refl) s (λ after ts m q. running.goes g q (rest_more made after m here r))
    work_holes (running.returns {rest} g) = plainly Return nothing rest refl
    work_holes (running.returns_value {e} {rest} {t} g s) =
        kept _ (one e) rest (sort_of t ∷ []) (λ ts. refl) (one_operand s no_operand)
        (λ after ts m q. of_one (λ ts. SortedWork here after live Return ts rest) q
        (λ t b. running.returns_value g b))
    work_holes (running.continues {rest = rest} r) = plainly GoOn nothing rest refl
    work_holes (running.holds {on = on} {rest} r) = plainly (Test on) (one (Done (values.Bool true))) rest refl
    work_holes (running.tests {e = e} {on} {rest} s a b) =
        kept _ (one e) rest (BoolSort ∷ []) (λ ts. refl) (one_operand s no_operand)
        (λ after ts m q. of_one (λ ts. SortedWork here after live (Test on) ts rest) q
        (λ t c. running.tests c (rest_more made after m here a) (rest_more made after m here b)))
    work_holes (running.ranges {target = target} {body} {e} {rest} {k = j} s targets b r) =
        kept _ (one e) rest (ChanSort j ∷ []) (λ ts. refl) (one_operand s no_operand)
        (λ after ts m q. of_one (λ ts. SortedWork here after live (Range target body) ts rest) q
        (λ t c. running.ranges c targets b (rest_more made after m here r)))
    work_holes (running.turns {target = target} {body} {channel} {rest} h targets b r) =
        plainly (Turn target body) (one (Done channel)) rest refl
    work_holes (running.selects {nests} {cases} {operands} {rest} {z} clauses r) =
        let o : ClauseOperands here made (Chooses z ∷ nests) live z cases operands = clause_operands live clauses in
        kept (Select cases) operands rest (o.sorts) (λ ts. refl) (o.sorted) (λ after ts m q. running.selects (o.with after ts m q) (rest_more made after m here r))

-- a frame whose next part is done
pub frame_holes : (fs : List Signature) (made : Made) (k : Sort) (f : Frame) (s : SortedFrame fs made k f)
    → Holes fs (s.variables) (s.type) k (s.returns) made (s.live) f (next_of f.point.operands)
frame_holes fs made k f s =
    work_holes fs (s.variables) (s.type) k (s.returns) made (s.live) f.function f.variables (s.holding) f.point.place (s.work) (next_of f.point.operands) refl

call_sort : {d : Setting} {made : Made} {live : List ℕ} {n : ℕ} {arguments : Operands} {j : Sort} {name : List ℕ}
    {types : List Ty} {r : Option Ty}
    → SortedAsk d made live (Calls n arguments) j → signature d.functions n ≡ Some (Sign name types r)
    → result_sort r ≡ j
call_sort {name = name} {types} {r} (calls {name = other} {ts} {r = s} g a p) e =
    let q : Some (Sign name types r) ≡ Some (Sign other ts s) = sym e ∙ g in
    let x : r ≡ s = cc in
    ap result_sort x

-- with a part done it is a frame of the same function
pub filled_function : (f : Frame) (ts : Operands) → (filled f ts).function ≡ f.function
filled_function f ts = by_over (is_over f.point.work ts)
  where
    by_over : (b : Bool)
        → (if b then goes_on f else moved f (at f.point.place f.point.work ts f.point.rest)).function ≡ f.function
    by_over true = refl
    by_over false = refl

pub resumed_sorted : ResumedSorted
resumed_sorted fs made k l g v a s h =
    let hole : Hole fs (s.variables) (s.type) l (s.returns) made (s.live) (Calls a.number a.arguments) (λ v. filled g (a.with v)) =
    subst (Holes fs (s.variables) (s.type) l (s.returns) made (s.live) g) (a.asks) (frame_holes fs made l g s) in
    subst (λ x. GoesOn fs made l g.function (resumed_by g x v)) (sym a.asks)
    (on_as (filled_function g (a.with v)) (hole.fills made v (λ c k e. e)
    (subst (HasSort made v) (sym a.leaves ∙ call_sort (hole.asks) (a.signed)) h)))
